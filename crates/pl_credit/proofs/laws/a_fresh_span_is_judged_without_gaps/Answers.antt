use Rattle.pl_credit.proofs.Fresh.{verdicts-fresh}
use Rattle.pl_credit.proofs.FreshLink.{link-fresh}
use Rattle.pl_credit.proofs.laws.a_fresh_span_is_judged_without_gaps.Goals as goal

pub returns-clause-channel : goal.returns-clause-channel
returns-clause-channel c = verdicts-fresh

pub returns-clause-link : goal.returns-clause-link
returns-clause-link c = link-fresh
