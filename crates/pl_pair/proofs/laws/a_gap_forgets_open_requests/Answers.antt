use Rattle.pl_pair.proofs.Terms.{gap-forgets, gap-none}
use Rattle.pl_pair.proofs.laws.a_gap_forgets_open_requests.Goals as goal

pub returns-clause-none : goal.returns-clause-none
returns-clause-none c = gap-forgets

pub returns-clause-count : goal.returns-clause-count
returns-clause-count c = gap-none
