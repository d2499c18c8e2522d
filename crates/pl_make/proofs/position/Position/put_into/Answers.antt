use Rattle.pl_make.proofs.Lefts.{at_first, at_second, at_round}
use Rattle.pl_make.proofs.position.Position.put_into.Goals as goal

pub returns-in-FirstInit : goal.returns-in-FirstInit
returns-in-FirstInit c = rw (at_first c.args.self.now c.in-FirstInit.is) c.put_bring_up.ensures

pub returns-in-SecondInit : goal.returns-in-SecondInit
returns-in-SecondInit c = rw (at_second c.args.self.now c.in-SecondInit.is)
    c.put_bring_up-in-SecondInit.ensures

pub returns-in-Round : goal.returns-in-Round
returns-in-Round c = rw (at_round c.args.self.now c.in-Round.is) c.put_round.ensures
