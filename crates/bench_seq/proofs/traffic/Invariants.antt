use Rattle.std.proofs.Common.{◌≤◌, ◌*◌}
use Rattle.pl_seq.specs.Lane.{latest_position}
use Rattle.bench_seq.proofs.traffic.Given as goal

abbrev pub invariant-loop-i : goal.invariant-loop-i
invariant-loop-i l = (latest_position l.lane.latest_tlp ≤ 2 * l.i) × (l.broken ≤ 2 * l.i)
