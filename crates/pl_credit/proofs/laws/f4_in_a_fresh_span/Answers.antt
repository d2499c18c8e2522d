use Rattle.pl_credit.proofs.Fresh.{f4-fresh}
use Rattle.pl_credit.proofs.laws.f4_in_a_fresh_span.Goals as goal

pub returns : goal.returns
returns c = λ receiver past whole fc. f4-fresh past whole receiver fc
