use Rattle.std.proofs.Common.{subst}
use Rattle.pl_keeper.specs.Archive.{Profile}
use Rattle.pl_web.specs.Answers.{Answers}
use Rattle.pl_web.specs.Puts.{profile_stored}
use Rattle.pl_web.proofs.Kept.{profile_cases}
use Rattle.pl_web.proofs.puts.put_profile.Goals as goal

pub returns-in-Ok-put_profile-clause-answers : goal.returns-in-Ok-put_profile-clause-answers
returns-in-Ok-put_profile-clause-answers g c = λ lives a tells.
    let p : Profile = record {
      bench = c.args.bench.now;
      name = c.args.name.now;
      bytes = c.args.bytes.now;
    } in
    let new = g.K.Keeper.tells c.put_profile.new.self in
    subst (λ put. Answers (profile_stored a p put) a new c.reply_to_put.result)
    (c.in-Ok-put_profile.ensures.answer lives a tells)
    (profile_cases a p c.in-Ok-put_profile.put new c.in-Ok.row.items c.reply_to_put.result
    (c.in-Ok-put_profile.ensures.rows lives a tells) c.in-Ok.ensures
    c.reply_to_put.ensures.answer c.reply_to_put.ensures.memory c.reply_to_put.ensures.new)
