use Rattle.pl_credit.proofs.Fresh.{f3-fresh, f5-fresh}
use Rattle.pl_credit.proofs.laws.f3_and_f5_in_a_fresh_span.Goals as goal

pub returns-clause-f3 : goal.returns-clause-f3
returns-clause-f3 c = f3-fresh

pub returns-clause-f5 : goal.returns-clause-f5
returns-clause-f5 c = f5-fresh
