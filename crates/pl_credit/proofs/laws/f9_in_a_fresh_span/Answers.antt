use Rattle.pl_credit.proofs.Fresh.{f9-fresh}
use Rattle.pl_credit.proofs.laws.f9_in_a_fresh_span.Goals as goal

pub returns : goal.returns
returns c = f9-fresh
