use Rattle.std.proofs.Common.{rules, arith, ◌+◌, ◌∙◌, subst, add_assoc}
use Rattle.std.proofs.lemmas.List.{take_rest}
use Rattle.std.proofs.lemmas.Result.{err_from_is_err_and}
use Rattle.pl_io.specs.Told.{HasRoom}
use Rattle.pl_io.proofs.CutShort.{CutShort-take}
use Rattle.pl_io.proofs.Told.{plus_more, Lowered_more}
use Rattle.pl_io.proofs.conn.send_all.Goals as goal

pub loop-done-preserved : goal.loop-done-preserved
loop-done-preserved g c = record {
  bound = search rules;
  written = plus_more _ _ _ _ _ _ c.loop-done.invariant.written (rw take_rest at c.in_ok-done.ensures.bytes);
  left = λ k h. c.in_ok-done.ensures.room_left k (c.loop-done.invariant.left (c.in_ok-done.field-0 + k)
      (subst (HasRoom (g.C.Conn.room c.args.conn.now)) (add_assoc c.loop-done.done c.in_ok-done.field-0 k) h));
  taken = Lowered_more _ _ _ _ _ c.loop-done.invariant.taken c.in_ok-done.ensures.room_taken;
  incoming = search rules;
  kept = search rules;
}

pub returns-in_err-done-clause-part : goal.returns-in_err-done-clause-part
returns-in_err-done-clause-part g c =
    let failed = err_from_is_err_and c.from_residual.result c.from_residual.ensures.1 in
    rw failed.1 (CutShort-take _ _ c.args.bytes.now c.loop-done.done (omega arith)
    (c.in_err-done.ensures.err ∙ c.loop-done.invariant.written))
