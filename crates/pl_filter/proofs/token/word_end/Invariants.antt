use Rattle.std.proofs.Common.{◌≡◌, ◌+◌, ◌-◌, ◌≤◌, length, drop}
use Rattle.pl_filter.specs.Reading.{run_length}
use Rattle.pl_filter.proofs.token.word_end.Given as goal

abbrev pub invariant-loop-end : goal.invariant-loop-end
invariant-loop-end l =
    (l.end + run_length (drop l.end l.text) ≡ l.from + run_length (drop l.from l.text)) × (l.end ≤ length l.text)

abbrev pub decreases-loop-end : goal.decreases-loop-end
decreases-loop-end l = length l.text - l.end
