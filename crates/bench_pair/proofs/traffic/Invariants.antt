use Rattle.std.proofs.Common.{◌≡◌, ◌≤◌, ◌+◌, ◌*◌, ◌^◌}
use Rattle.arrayvec.specs.ArrayVec.{array_vec_len}
use Rattle.bench_pair.proofs.traffic.Given as goal

abbrev pub invariant-loop-number : goal.invariant-loop-number
invariant-loop-number l = (l.broken ≤ l.number) × (array_vec_len l.found ≡ 0)

abbrev pub invariant-loop-number-2 : goal.invariant-loop-number-2
invariant-loop-number-2 l = (l.broken ≤ 2 ^ 32 + 2 * l.number) × (array_vec_len l.found ≡ 0)
