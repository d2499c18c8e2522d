use Rattle.pl_credit.proofs.Fresh.{grant-fresh, initial-fresh, ready-fresh}
use Rattle.pl_credit.proofs.laws.a_fresh_span_opens_with_the_first_init.Goals as goal

pub returns-clause-initial : goal.returns-clause-initial
returns-clause-initial c = initial-fresh

pub returns-clause-grant : goal.returns-clause-grant
returns-clause-grant c = grant-fresh

pub returns-clause-ready : goal.returns-clause-ready
returns-clause-ready c = ready-fresh
