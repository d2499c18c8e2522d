use Rattle.pl_seq.proofs.Confirmed.{confirmed-by, confirmed-some}
use Rattle.pl_seq.proofs.laws.confirmed_means_answered.Goals as goal

pub returns : goal.returns
returns c = λ past. (confirmed-some past, confirmed-by past)
