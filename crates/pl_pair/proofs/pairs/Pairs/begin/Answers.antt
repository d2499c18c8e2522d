use Rattle.std.proofs.Common.{◌∙◌}
use Rattle.pl_pair.proofs.Steps.{open-empty}
use Rattle.pl_pair.proofs.pairs.Pairs.begin.Goals as goal

pub invariant_of-self : goal.invariant_of-self
invariant_of-self c = (c.clear.ensures.room ∙ c.self.invariant.0, open-empty _ c.clear.ensures.empty)
