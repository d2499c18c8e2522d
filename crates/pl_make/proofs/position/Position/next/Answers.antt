use Rattle.pl_make.proofs.Lefts.{next_in_six, next_of_first, next_of_second, next_of_round}
use Rattle.pl_make.proofs.Lefts.{none_behind}
use Rattle.pl_make.proofs.position.Position.next.Goals as goal

pub returns-then-self-lt5 : goal.returns-then-self-lt5
returns-then-self-lt5 c =
    next_in_six c.args.count c.args.self.now c.at.result c.if-self-lt5.true c.at.ensures.group
    c.at.ensures.index c.at.ensures.round c.at.ensures.x

pub returns-in-FirstInit : goal.returns-in-FirstInit
returns-in-FirstInit c =
    next_of_first c.args.count c.args.self.now c.at-in-FirstInit.result c.if-self-lt5.false
    c.args.self.now.of_six c.in-FirstInit.is c.at-in-FirstInit.ensures.group
    c.at-in-FirstInit.ensures.index c.at-in-FirstInit.ensures.x

pub returns-in-SecondInit : goal.returns-in-SecondInit
returns-in-SecondInit c =
    next_of_second c.args.count c.args.self.now c.of_round.result c.if-self-lt5.false
    c.args.self.now.of_six c.in-SecondInit.is
    c.of_round.ensures.group c.of_round.ensures.index c.of_round.ensures.round c.of_round.ensures.x
    c.requires.some

pub returns-then-self-count : goal.returns-then-self-count
returns-then-self-count c =
    next_of_round c.args.count c.args.self.now c.of_round-then-self-count.result c.if-self-lt5.false
    c.args.self.now.of_six c.in-Round.is
    c.of_round-then-self-count.ensures.group c.of_round-then-self-count.ensures.index
    c.of_round-then-self-count.ensures.round c.of_round-then-self-count.ensures.x
    c.if-self-count.true

pub returns-else-self-count : goal.returns-else-self-count
returns-else-self-count c = none_behind c.args.count c.args.self.now c.if-self-lt5.false
    c.args.self.now.of_six c.in-Round.is c.if-self-count.false
