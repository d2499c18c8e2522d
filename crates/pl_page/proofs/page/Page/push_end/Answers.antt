use Rattle.std.proofs.Common.{◌-◌, arith}
use Rattle.pl_page.proofs.Placed.{written_behind}
use Rattle.pl_page.proofs.page.Page.push_end.Goals as goal

pub returns-in-Some-clause-gathered : goal.returns-in-Some-clause-gathered
returns-in-Some-clause-gathered g c =
    written_behind c.args.self.now c.make_room.new.self c.self.inside.filled c.in-Some.size
    (16384 - c.self.inside.filled) c.self.inside.bytes c.write_end.new.out _ _ _
    c.in-Ok.ensures.gathered c.self.view_is (omega arith) c.in-Some.ensures
