use Rattle.pl_credit.proofs.Fresh.{f8-fresh}
use Rattle.pl_credit.proofs.laws.f8_in_a_fresh_span.Goals as goal

pub returns : goal.returns
returns c = f8-fresh
