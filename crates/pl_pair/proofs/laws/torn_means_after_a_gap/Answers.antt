use Rattle.pl_pair.proofs.Terms.{after-torn, torn-after}
use Rattle.pl_pair.proofs.laws.torn_means_after_a_gap.Goals as goal

pub returns : goal.returns
returns c = λ past. (torn-after past, after-torn past)
