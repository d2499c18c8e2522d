use Rattle.std.proofs.Common.{◌≡◌, ◌≤◌, ◌+◌, ◌-◌, ℕ, length, take}
use Rattle.pl_io.specs.Told.{plus, HasRoom, Lowered}
use Rattle.pl_io.proofs.sink.write_all.Given as goal

abbrev pub invariant-loop-done : goal.invariant-loop-done
invariant-loop-done g l = record {
  bound : l.done ≤ length l.bytes;
  written : g.S.Sink.written l.sink ≡ plus (g.S.Sink.written l.initial.sink) (take l.done l.bytes);
  left : (k : ℕ) → HasRoom (g.S.Sink.room l.initial.sink) (l.done + k) → HasRoom (g.S.Sink.room l.sink) k;
  taken : Lowered (g.S.Sink.room l.initial.sink) l.done (g.S.Sink.room l.sink);
  kept : g.S.Sink.faults l.sink ≡ g.S.Sink.faults l.initial.sink;
}

abbrev pub decreases-loop-done : goal.decreases-loop-done
decreases-loop-done g l = length l.initial.bytes - l.done
