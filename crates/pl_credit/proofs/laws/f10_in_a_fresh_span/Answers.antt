use Rattle.pl_credit.proofs.Fresh.{f10-fresh}
use Rattle.pl_credit.proofs.laws.f10_in_a_fresh_span.Goals as goal

pub returns : goal.returns
returns c = f10-fresh
