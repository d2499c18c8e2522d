use Rattle.std.proofs.Common.{◌≡◌, sym, subst}
use Rattle.std.specs.Prelude.{Err}
use Rattle.std.proofs.lemmas.Result.{err_from_is_err_and}
use Rattle.pl_web.specs.Answers.{Answers}
use Rattle.pl_web.specs.Puts.{capture_sent}
use Rattle.pl_web.proofs.Received.{body_whole, body_ended}
use Rattle.pl_web.proofs.answer.receive_capture.Goals as goal

pub returns-clause-answers : goal.returns-clause-answers
returns-clause-answers g c = λ lives a tells rest incoming.
    subst (λ o. Answers o a (g.K.Keeper.tells c.store_capture.new.keeper) c.store_capture.result)
    (sym (body_whole a (λ bytes. capture_sent a (record {
      bench = c.args.bench.now;
      key = c.args.key.now;
      profile = c.args.profile.now;
      bytes = bytes;
    })) c.args.have.now rest c.args.size
    (g.C.Conn.incoming c.args.conn.now) (g.C.Conn.incoming c.read_body.new.conn)
    c.in_ok-bytes.bytes incoming c.in_ok-bytes.ensures.reads))
    (rw c.deref.ensures.value at c.store_capture.ensures.answers lives a tells)

pub returns-in_err-bytes-clause-answers : goal.returns-in_err-bytes-clause-answers
returns-in_err-bytes-clause-answers g c = λ lives a tells rest incoming.
    let failed = err_from_is_err_and c.from_residual.result c.from_residual.ensures.1 in
    let ended : c.from_residual.result ≡ Err c.in_err-bytes.field-0.0 = cc (failed.1, failed.2) in
    rw ended (body_ended a (λ bytes. capture_sent a (record {
      bench = c.args.bench.now;
      key = c.args.key.now;
      profile = c.args.profile.now;
      bytes = bytes;
    })) c.args.have.now rest c.args.size
    (g.C.Conn.incoming c.args.conn.now) (g.C.Conn.incoming c.read_body.new.conn)
    c.in_err-bytes.field-0.0 (g.K.Keeper.tells c.args.keeper.now) incoming
    c.in_err-bytes.ensures.reads tells)
