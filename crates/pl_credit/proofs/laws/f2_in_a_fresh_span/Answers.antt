use Rattle.pl_credit.proofs.Fresh.{f2-fresh}
use Rattle.pl_credit.proofs.laws.f2_in_a_fresh_span.Goals as goal

pub returns : goal.returns
returns c = f2-fresh
