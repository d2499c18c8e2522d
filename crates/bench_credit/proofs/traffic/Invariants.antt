use Rattle.std.proofs.Common.{◌≡◌, ◌≤◌, ◌+◌, ◌*◌}
use Rattle.bench_credit.proofs.traffic.Given as goal

abbrev pub invariant-loop-class : goal.invariant-loop-class
invariant-loop-class l = (l.credits.profile ≡ l.profile) × (l.broken ≤ l.class-index)

abbrev pub invariant-loop-i : goal.invariant-loop-i
invariant-loop-i l = (l.credits.profile ≡ l.profile) × (l.broken ≤ 4 + 2 * l.i)
