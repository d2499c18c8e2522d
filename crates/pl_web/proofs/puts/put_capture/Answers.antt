use Rattle.std.proofs.Common.{subst}
use Rattle.pl_keeper.specs.Archive.{Capture}
use Rattle.pl_web.specs.Answers.{Answers}
use Rattle.pl_web.specs.Puts.{capture_stored}
use Rattle.pl_web.proofs.Kept.{capture_cases}
use Rattle.pl_web.proofs.puts.put_capture.Goals as goal

pub returns-in-Ok-put_capture-clause-answers : goal.returns-in-Ok-put_capture-clause-answers
returns-in-Ok-put_capture-clause-answers g c = λ lives a tells.
    let capture : Capture = record {
      bench = c.args.bench.now;
      key = c.args.key.now;
      profile = c.args.profile.now;
      bytes = c.args.bytes.now;
    } in
    let new = g.K.Keeper.tells c.put_capture.new.self in
    subst (λ put. Answers (capture_stored a capture c.args.items c.args.verdicts put) a new
    c.reply_to_put.result)
    (c.in-Ok-put_capture.ensures.answer lives a tells)
    (capture_cases a capture c.args.items c.args.verdicts c.in-Ok-put_capture.put new
    c.in-Ok.row.items c.reply_to_put.result
    (c.in-Ok-put_capture.ensures.rows lives a tells) c.in-Ok.ensures
    c.reply_to_put.ensures.answer c.reply_to_put.ensures.memory c.reply_to_put.ensures.new)
