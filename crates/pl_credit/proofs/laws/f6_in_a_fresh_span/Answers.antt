use Rattle.pl_credit.proofs.Fresh.{f6-fresh}
use Rattle.pl_credit.proofs.laws.f6_in_a_fresh_span.Goals as goal

pub returns : goal.returns
returns c = λ receiver past whole fc. f6-fresh past whole receiver fc
