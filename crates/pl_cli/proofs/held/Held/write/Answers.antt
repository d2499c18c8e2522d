use Rattle.pl_cli.specs.Progress.{tells}
use Rattle.pl_cli.proofs.Gathered.{gathers_nothing, wrote_all, wrote_part}
use Rattle.pl_cli.proofs.held.Held.write.Goals as goal

pub returns-then-is_empty-clause-gathered : goal.returns-then-is_empty-clause-gathered
returns-then-is_empty-clause-gathered g c = gathers_nothing c.args.self.now.bytes.items (tells g.O.Sink c.args.out.now)

pub returns-in-Ok-clause-gathered : goal.returns-in-Ok-clause-gathered
returns-in-Ok-clause-gathered g c =
    wrote_all c.args.self.now.bytes.items _ c.as_slice.result.now c.as_slice.ensures.value c.clear.ensures c.in-Ok.ensures.appended c.in-Ok.ensures.room_left

pub returns-in-Err-clause-gathered : goal.returns-in-Err-clause-gathered
returns-in-Err-clause-gathered g c =
    wrote_part c.args.self.now.bytes.items c.as_slice.result.now c.as_slice.ensures.value c.in-Err.ensures.part
    (λ room. let fits = c.in-Err.ensures.fits room in cc)
