use Rattle.pl_credit.proofs.Limits.{short}
use Rattle.pl_credit.proofs.limit.Limit.falls_short.Goals as goal

pub returns : goal.returns
returns c = λ pool initial grant sum is used.
    rw used (short pool initial grant sum c.args.cost c.args.self is)
