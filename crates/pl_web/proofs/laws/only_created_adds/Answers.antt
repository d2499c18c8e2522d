use Rattle.pl_web.proofs.Created.{only_created}
use Rattle.pl_web.proofs.laws.only_created_adds.Goals as goal

pub returns : goal.returns
returns c = only_created
