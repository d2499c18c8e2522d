use Rattle.pl_pair.proofs.Terms.{unasked-fresh, unasked-torn}
use Rattle.pl_pair.proofs.laws.unasked_breaks_c1_in_a_fresh_span.Goals as goal

pub returns-clause-fresh : goal.returns-clause-fresh
returns-clause-fresh c = unasked-fresh

pub returns-clause-torn : goal.returns-clause-torn
returns-clause-torn c = unasked-torn
