use Rattle.std.proofs.Common.{refl}
use Rattle.pl_make.specs.Generated.{drawn}
use Rattle.pl_make.proofs.draw.Draw.of.Goals as goal

pub returns-clause-drawn : goal.returns-clause-drawn
unfolding drawn
returns-clause-drawn c = refl
