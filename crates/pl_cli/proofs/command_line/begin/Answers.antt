use Rattle.pl_cli.proofs.CommandWords.{first_is}
use Rattle.pl_cli.proofs.command_line.begin.Goals as goal

pub returns-then-words-count-clause-begin : goal.returns-then-words-count-clause-begin
returns-then-words-count-clause-begin c = first_is c.args.words.now _ c.args.name.now c.args.count c.eq.result c.requires c.if-words-count.true c.eq.ensures
