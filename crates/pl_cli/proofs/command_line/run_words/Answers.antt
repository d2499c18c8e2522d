use Rattle.std.proofs.Common.{codes, refl}
use Rattle.pl_cli.specs.Output.{Check, Report}
use Rattle.pl_cli.specs.Promise.{shows, tries}
use Rattle.pl_cli.proofs.CommandWords.{four_words, of_list, three_words}
use Rattle.pl_cli.proofs.command_line.run_words.Goals as goal

pub returns-then-begin : goal.returns-then-begin
returns-then-begin g c =
    record { runs = shows Check _ _ (three_words c.args.words.now _ (codes "check") (c.begin.ensures.begin.0 c.if-begin.true)) c.check.ensures.shows }

pub returns-then-begin-2 : goal.returns-then-begin-2
returns-then-begin-2 g c =
    record { runs = of_list (four_words c.args.words.now _ (codes "list") (c.begin-else-begin.ensures.begin.0 c.if-begin-2.true)) c.list.ensures.lists }

pub returns-then-begin-3 : goal.returns-then-begin-3
returns-then-begin-3 g c =
    record { runs = shows Report _ _ (three_words c.args.words.now _ (codes "report") (c.begin-else-begin-2.ensures.begin.0 c.if-begin-3.true)) c.report.ensures.shows }

pub returns-in-Some : goal.returns-in-Some
returns-in-Some g c = record { runs = tries c.in-Some.number c.in-Some.count c.in-Some.ensures refl c.trial.ensures }
