use Rattle.pl_head.proofs.Beginnings.{some_beginning}
use Rattle.pl_head.proofs.laws.each_text_begins.Goals as goal

pub returns : goal.returns
returns c = some_beginning
