use Rattle.pl_credit.proofs.Fresh.{f7-fresh}
use Rattle.pl_credit.proofs.laws.f7_in_a_fresh_span.Goals as goal

pub returns : goal.returns
returns c = f7-fresh
