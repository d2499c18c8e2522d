use Rattle.pl_credit.proofs.FreshLink.{torn-everywhere}
use Rattle.pl_credit.proofs.laws.a_gap_tears_every_channel.Goals as goal

pub returns : goal.returns
returns c = torn-everywhere
