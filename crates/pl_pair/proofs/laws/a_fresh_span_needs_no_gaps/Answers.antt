use Rattle.pl_pair.proofs.Fresh.{open-fresh, outstanding-fresh, verdicts-fresh}
use Rattle.pl_pair.proofs.laws.a_fresh_span_needs_no_gaps.Goals as goal

pub returns-clause-verdicts : goal.returns-clause-verdicts
returns-clause-verdicts c = verdicts-fresh

pub returns-clause-open : goal.returns-clause-open
returns-clause-open c = open-fresh

pub returns-clause-outstanding : goal.returns-clause-outstanding
returns-clause-outstanding c = outstanding-fresh
