use Rattle.std.proofs.Common.{arith, length-take, take}
use Rattle.pl_merge.proofs.Finishing.{too_long}
use Rattle.pl_merge.proofs.side.Side.look_behind.Goals as goal

pub returns-in-Ok-clause-refills : goal.returns-in-Ok-clause-refills
returns-in-Ok-clause-refills g c = λ file items r.
    too_long c.args.self.now _ _ file (take c.in-Ok.field-0 c.read.new.buf) items c.requires.none c.requires.full
    c.in-Ok.ensures.bytes (omega (arith, c.in-Ok.field-0-test, c.in-Ok.ensures.most, length-take c.in-Ok.field-0 c.read.new.buf)) r
