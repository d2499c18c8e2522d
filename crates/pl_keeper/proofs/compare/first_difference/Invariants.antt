use Rattle.std.proofs.Common.{◌≡◌, ℕ, ◌<◌, ◌≤◌, ◌-◌, length, get_or}
use Rattle.pl_keeper.proofs.compare.first_difference.Given as goal

abbrev pub invariant-bytes : goal.invariant-bytes
invariant-bytes l = record {
  in_old : l.place ≤ length l.old;
  in_new : l.place ≤ length l.new;
  same : (k : ℕ) → k < l.place → get_or l.old k 0 ≡ get_or l.new k 0;
}

abbrev pub decreases-bytes : goal.decreases-bytes
decreases-bytes l = length l.old - l.place
