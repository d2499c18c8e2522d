use Rattle.std.proofs.Common.{sym}
use Rattle.std.specs.Prelude.{option_map}
use Rattle.pl_keeper.specs.Archive.{profile_at}
use Rattle.pl_web.proofs.Kept.{judged_without}
use Rattle.pl_web.proofs.judging.judge.Goals as goal

pub returns-in-Ok-None-clause-judges : goal.returns-in-Ok-None-clause-judges
returns-in-Ok-None-clause-judges g c = λ lives a tells.
    judged_without
    (option_map (λ p. p.bytes) (profile_at a c.args.bench.now c.args.profile.now))
    c.args.capture.now c.args.most c.refuse_judging.result
    (sym ((rw c.in-Ok-None.field-0-is at c.in-Ok-None.ensures.found) lives a tells))
    c.refuse_judging.ensures.judges
