use Rattle.pl_pair.proofs.Steps.{stands-gap}
use Rattle.pl_pair.proofs.pairs.Pairs.gap.Goals as goal

pub returns-clause-stands : goal.returns-clause-stands
returns-clause-stands c = stands-gap _ c.begin.ensures.empty c.begin.ensures.torn
