use Rattle.pl_credit.proofs.Torn.{f1-torn, f2-torn, f7-torn, initial-torn}
use Rattle.pl_credit.proofs.laws.a_torn_span_is_judged_from_what_came.Goals as goal

pub returns-clause-f1 : goal.returns-clause-f1
returns-clause-f1 c = f1-torn

pub returns-clause-f2 : goal.returns-clause-f2
returns-clause-f2 c = f2-torn

pub returns-clause-f7 : goal.returns-clause-f7
returns-clause-f7 c = f7-torn

pub returns-clause-initial : goal.returns-clause-initial
returns-clause-initial c = initial-torn
