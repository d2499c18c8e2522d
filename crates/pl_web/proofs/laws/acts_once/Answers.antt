use Rattle.pl_web.proofs.Once.{once}
use Rattle.pl_web.proofs.laws.acts_once.Goals as goal

pub returns : goal.returns
returns c = once
