use Rattle.std.proofs.Common.{◌≡◌, length, rules}
use Rattle.std.specs.Prelude.{OnErr, OnOk, Result, Ok, Err}
use Rattle.std.proofs.lemmas.Result.{err_from_is_err_and}
use Rattle.pl_head.specs.Reply.{heading}
use Rattle.pl_head.proofs.Pieces.{CutShort_first, CutShort_second, Lowered_both}
use Rattle.pl_head.proofs.reply.send_reply.Goals as goal

pub returns-in_err-send_all-clause-part : goal.returns-in_err-send_all-clause-part
returns-in_err-send_all-clause-part g c =
    let failed = err_from_is_err_and c.from_residual.result c.from_residual.ensures.1 in
    let same : c.as_bytes.result.now ≡ heading c.args.status c.args.media (length c.args.body.now)
    = search rules in
    rw failed.1 (CutShort_first _ _ _ c.args.body.now (rw same at c.in_err-send_all.ensures.part))

on_err : {T E : Type 0} (r : Result T E) (P Q : Type 0) → (P → Q) → OnErr r P → OnErr r Q
on_err (Ok x) P Q f h = h
on_err (Err e) P Q f h = f h

on_ok : {T E : Type 0} (r : Result T E) (P Q : Type 0) → (P → Q) → OnOk r P → OnOk r Q
on_ok (Ok x) P Q f h = f h
on_ok (Err e) P Q f h = h

pub returns-clause-part : goal.returns-clause-part
returns-clause-part g c =
    let same : c.as_bytes.result.now ≡ heading c.args.status c.args.media (length c.args.body.now)
    = search rules in
    on_err _ _ _ (CutShort_second _ _ _ _ _ (rw same at c.in_ok-send_all.ensures.appended))
    c.send_all-2.ensures.part

pub returns-clause-room_taken : goal.returns-clause-room_taken
returns-clause-room_taken g c =
    let same : c.as_bytes.result.now ≡ heading c.args.status c.args.media (length c.args.body.now)
    = search rules in
    on_ok _ _ _ (Lowered_both _ _ _ _ _ (rw same at c.in_ok-send_all.ensures.room_taken))
    c.send_all-2.ensures.room_taken
