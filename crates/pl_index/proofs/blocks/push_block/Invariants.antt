use Rattle.std.proofs.Common.{◌≡◌, ◌+◌, ◌++◌, replicate}
use Rattle.std.specs.Vec.{vec_len, vec_capacity}
use Rattle.pl_index.proofs.blocks.push_block.Given as goal

abbrev pub invariant-loop-pushed : goal.invariant-loop-pushed
invariant-loop-pushed g l = record {
  items : l.items.items ≡ l.fn.items.items ++ replicate l._pushed l.blank;
  len : vec_len l.items ≡ vec_len l.fn.items + l._pushed;
  room : vec_capacity l.items ≡ vec_capacity l.fn.items;
}
