-- Connections in memory, as the links of a door.
use Rattle.std.specs.Prelude.{ℕ, List, Bool, ◌&&◌, nat_eq, length, drop, map}
use Rattle.std.specs.Prelude.{Option, Some, None, if◌then◌else◌}
use Rattle.std.specs.List.{list_all}
use Rattle.pl_io.specs.FaultPlan.{is_sure}
use Rattle.pl_io.specs.Links.{Coming}
use Rattle.pl_io.specs.declared.memory.conn.MemConn.{MemConn}

-- what a connection will give, and how many bytes it takes
abbrev pub coming : MemConn → Coming
coming link = record {
  incoming = drop link.place link.bytes.items;
  room = link.sent.left;
}

-- it tells its room, and has nothing written
abbrev pub is_unwritten : MemConn → Bool
is_unwritten link = is_sure link.plan && nat_eq (length link.sent.bytes.items) 0

-- the links to come, where no call of the door is still to fail and each of them is unwritten
abbrev pub told_links : Bool → List MemConn → Option (List Coming)
told_links sure links =
    if sure && list_all is_unwritten links then Some (map coming links) else None

-- what the links had written
abbrev pub replies_of : List MemConn → List (List ℕ)
replies_of links = map (λ link. link.sent.bytes.items) links
