use Rattle.pl_search.proofs.Gathered.{judged-hits}
use Rattle.pl_search.proofs.judging.judge_by.Goals as goal

pub returns-in-Ok-clause-judges : goal.returns-in-Ok-clause-judges
returns-in-Ok-clause-judges c =
    judged-hits c.args.rule c.args.key.now c.args.capture.now c.args.profile c.args.most
    c.in-Ok.judged c.in-Ok.ensures.ended c.in-Ok.ensures.total c.in-Ok.ensures.verdicts
