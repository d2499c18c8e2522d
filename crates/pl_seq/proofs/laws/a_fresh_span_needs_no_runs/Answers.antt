use Rattle.pl_seq.proofs.Fresh.{place-same, unacknowledged-fresh, verdicts-fresh}
use Rattle.pl_seq.proofs.laws.a_fresh_span_needs_no_runs.Goals as goal

pub returns-clause-verdicts : goal.returns-clause-verdicts
returns-clause-verdicts c = verdicts-fresh

pub returns-clause-place : goal.returns-clause-place
returns-clause-place c = place-same

pub returns-clause-unacknowledged : goal.returns-clause-unacknowledged
returns-clause-unacknowledged c = unacknowledged-fresh
