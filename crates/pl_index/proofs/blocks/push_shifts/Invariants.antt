use Rattle.std.proofs.Common.{◌≤◌}
use Rattle.std.specs.Vec.{vec_capacity}
use Rattle.pl_index.specs.Blocks.{AreUnbegun}
use Rattle.pl_index.proofs.blocks.push_shifts.Given as goal

abbrev pub invariant-loop-block : goal.invariant-loop-block
invariant-loop-block l = record {
  unbegun : AreUnbegun l.shifts.items l.block;
  room : l.blocks ≤ vec_capacity l.shifts;
}
