use Rattle.std.proofs.Common.{◌≡◌, ◌≤◌, ◌-◌, length, take}
use Rattle.std.specs.Prelude.{IsSome}
use Rattle.pl_io.specs.Told.{ahead}
use Rattle.pl_head.proofs.front.read_front.Given as goal

abbrev pub invariant-loop-head : goal.invariant-loop-head
invariant-loop-head g l = record {
  inside : l.filled ≤ length l.buf;
  buffer : length l.buf ≡ 16384;
  room : 8192 ≤ length l.fields;
  bytes : g.C.Conn.incoming l.initial.conn
      ≡ ahead (take l.filled l.buf) (g.C.Conn.incoming l.conn);
  written : g.C.Conn.written l.conn ≡ g.C.Conn.written l.initial.conn;
  room_kept : IsSome (g.C.Conn.room l.initial.conn) →
      g.C.Conn.room l.conn ≡ g.C.Conn.room l.initial.conn;
  kept : g.C.Conn.faults l.conn ≡ g.C.Conn.faults l.initial.conn;
}

abbrev pub decreases-loop-head : goal.decreases-loop-head
decreases-loop-head g l = length l.initial.buf - l.filled
