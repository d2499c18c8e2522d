use Rattle.std.proofs.Common.{◌≡◌, ◌≤◌, ◌-◌, length}
use Rattle.std.specs.Prelude.{IsSome, vec_len}
use Rattle.pl_io.specs.Told.{ahead}
use Rattle.pl_web.proofs.body.read_body.Given as goal

-- what was read stands in front of what is still to come
abbrev pub invariant-loop-chunk : goal.invariant-loop-chunk
invariant-loop-chunk g l = record {
  bound : vec_len l.body ≤ l.size;
  buffer : length l.chunk ≡ 8192;
  bytes :
      ahead l.have (g.C.Conn.incoming l.initial.conn)
      ≡ ahead l.body.items (g.C.Conn.incoming l.conn);
  written : g.C.Conn.written l.conn ≡ g.C.Conn.written l.initial.conn;
  room :
      IsSome (g.C.Conn.room l.initial.conn)
      → g.C.Conn.room l.conn ≡ g.C.Conn.room l.initial.conn;
  faults : g.C.Conn.faults l.conn ≡ g.C.Conn.faults l.initial.conn;
}

abbrev pub decreases-loop-chunk : goal.decreases-loop-chunk
decreases-loop-chunk g l = l.size - vec_len l.body
