use Rattle.std.proofs.Common.{◌≡◌, ◌≤◌, ◌+◌, ◌-◌, ℕ, length, take}
use Rattle.std.specs.List.{concat}
use Rattle.pl_io.specs.Told.{plus, HasRoom}
use Rattle.pl_report.specs.Summary.{summary_lines}
use Rattle.pl_cli.proofs.closing.write_counts.Given as goal

abbrev pub invariant-loop-line : goal.invariant-loop-line
invariant-loop-line g l = record {
  bound : l.k ≤ length (summary_lines l.tally);
  written : g.O.Sink.written l.out ≡ plus (g.O.Sink.written l.initial.out) (concat (take l.k (summary_lines l.tally)));
  room_left : (n : ℕ) → HasRoom (g.O.Sink.room l.initial.out) (length (concat (take l.k (summary_lines l.tally))) + n) → HasRoom (g.O.Sink.room l.out) n;
  kept : g.O.Sink.faults l.out ≡ g.O.Sink.faults l.initial.out;
}

abbrev pub decreases-loop-line : goal.decreases-loop-line
decreases-loop-line g l = length (summary_lines l.tally) - l.k
