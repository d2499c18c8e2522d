use Rattle.pl_seq.proofs.Fresh.{fresh-base, fresh-begun}
use Rattle.pl_seq.proofs.laws.a_fresh_span_is_one_run.Goals as goal

pub returns-clause-base : goal.returns-clause-base
returns-clause-base c = fresh-base

pub returns-clause-begun : goal.returns-clause-begun
returns-clause-begun c = fresh-begun
