use Rattle.pl_cli.specs.Progress.{tells}
use Rattle.pl_cli.proofs.Gathered.{gathers_nothing}
use Rattle.pl_cli.proofs.held.Held.make_room.Goals as goal

pub returns-else-remaining_capacity-size-clause-gathered : goal.returns-else-remaining_capacity-size-clause-gathered
returns-else-remaining_capacity-size-clause-gathered g c = gathers_nothing c.args.self.now.bytes.items (tells g.O.Sink c.args.out.now)
