use Rattle.pl_web.proofs.Benches.{own}
use Rattle.pl_web.proofs.Growing.{others_stay}
use Rattle.pl_web.proofs.laws.own_bench.Goals as goal

pub returns-clause-reply : goal.returns-clause-reply
returns-clause-reply c = own

pub returns-clause-others : goal.returns-clause-others
returns-clause-others c = others_stay
