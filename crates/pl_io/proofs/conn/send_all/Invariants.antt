use Rattle.std.proofs.Common.{◌≡◌, ◌≤◌, ◌+◌, ◌-◌, ℕ, length, take}
use Rattle.pl_io.specs.Told.{plus, HasRoom, Lowered}
use Rattle.pl_io.proofs.conn.send_all.Given as goal

abbrev pub invariant-loop-done : goal.invariant-loop-done
invariant-loop-done g l = record {
  bound : l.done ≤ length l.bytes;
  written : g.C.Conn.written l.conn ≡ plus (g.C.Conn.written l.initial.conn) (take l.done l.bytes);
  left : (k : ℕ) → HasRoom (g.C.Conn.room l.initial.conn) (l.done + k) → HasRoom (g.C.Conn.room l.conn) k;
  taken : Lowered (g.C.Conn.room l.initial.conn) l.done (g.C.Conn.room l.conn);
  incoming : g.C.Conn.incoming l.conn ≡ g.C.Conn.incoming l.initial.conn;
  kept : g.C.Conn.faults l.conn ≡ g.C.Conn.faults l.initial.conn;
}

abbrev pub decreases-loop-done : goal.decreases-loop-done
decreases-loop-done g l = length l.initial.bytes - l.done
