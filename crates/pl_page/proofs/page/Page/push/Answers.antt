use Rattle.std.proofs.Common.{length, ◌+◌, ◌-◌, arith}
use Rattle.pl_page.proofs.Placed.{copied_behind}
use Rattle.pl_page.proofs.page.Page.push.Goals as goal

pub returns-in-Ok-clause-gathered : goal.returns-in-Ok-clause-gathered
returns-in-Ok-clause-gathered g c =
    copied_behind c.args.self.now c.make_room.new.self c.self.inside.filled
    (c.self.inside.filled + length c.args.bytes.now - c.self.inside.filled)
    c.self.inside.bytes c.copy_from_slice.new.self c.args.bytes.now
    c.in-Ok.ensures.gathered c.self.view_is (omega arith) c.copy_from_slice.ensures.after
