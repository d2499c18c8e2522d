use Rattle.std.proofs.Common.{◌/◌, arith}
use Rattle.std.proofs.lemmas.List.{get_or_default}
use Rattle.pl_index.proofs.Places.{shifted_place}
use Rattle.pl_index.proofs.blocks.place_of.Goals as goal

pub returns : goal.returns
returns c =
    omega (arith, c.index.ensures, get_or_default c.args.shifts.now.items (c.args.at / 16) c.index.result.now 0 c.requires.block, shifted_place _ _ c.requires.block c.requires.shifts)
