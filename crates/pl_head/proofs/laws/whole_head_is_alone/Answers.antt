use Rattle.pl_head.proofs.Beginnings.{one_beginning}
use Rattle.pl_head.proofs.laws.whole_head_is_alone.Goals as goal

pub returns : goal.returns
returns c = one_beginning
