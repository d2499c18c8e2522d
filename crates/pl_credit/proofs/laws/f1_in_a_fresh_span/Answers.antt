use Rattle.pl_credit.proofs.Fresh.{f1-fresh}
use Rattle.pl_credit.proofs.laws.f1_in_a_fresh_span.Goals as goal

pub returns : goal.returns
returns c = f1-fresh
