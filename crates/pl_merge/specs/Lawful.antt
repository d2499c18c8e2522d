-- How far a file of one direction is lawful.
use Rattle.std.specs.Prelude.{ℕ, ◌^◌, Bool, true, false, ◌&&◌, not, nat_lt, List, [], ◌∷◌, ◌++◌}
use Rattle.std.specs.Prelude.{length, take, if◌then◌else◌}
use Rattle.pl_base.specs.declared.link.Dir.{Dir}
use Rattle.pl_base.specs.declared.stop.Stop.{Stop}
use Rattle.pl_base.specs.declared.stop.Stop.TheVariants as stop
use Rattle.pl_base.specs.Link.{is_same_direction}
use Rattle.pl_capture.specs.declared.item.ItemKind.{ItemKind}
use Rattle.pl_capture.specs.declared.item.ItemKind.TheVariants.{Tlp, Dllp, LinkDown, Gap}
use Rattle.pl_capture.specs.Entry.{Entry}
use Rattle.pl_capture.specs.Reading as reading
use Rattle.pl_capture.specs.Reading.{Ending, reading}
use Rattle.pl_merge.specs.declared.end.End.{End}
use Rattle.pl_merge.specs.declared.end.End.TheVariants as end

-- the bytes of a file that are read at most
abbrev pub limit : ℕ
limit = 2 ^ 40

-- The lawful items of a file, and what comes behind the last of them.
pub record Lawful : Type 0 where
  pub items : List Entry
  pub end : End

abbrev pub stops : End → Lawful
stops e = record { items = []; end = e }

abbrev pub behind : List Entry → Lawful → Lawful
behind items l = record { items = items ++ l.items; end = l.end }

-- TLPs and DLLPs travel.
abbrev pub travels : ItemKind → Bool
travels Tlp = true
travels Dllp = true
travels LinkDown = false
travels Gap = false

-- It has the wrong direction for a file of this one.
abbrev pub strays : Dir → Entry → Bool
strays dir x = travels x.kind && not (is_same_direction x.dir dir)

-- The lawful ones of these items, which stand behind one of this time, and this end.
unfoldable pub lawful_after : Dir → ℕ → List Entry → End → Lawful
lawful_after dir latest [] e = stops e
lawful_after dir latest (x ∷ xs) e =
    if strays dir x then stops end.WrongDirection
    else if nat_lt x.time latest then stops end.FallenTime
    else behind (x ∷ []) (lawful_after dir x.time xs e)

-- A reading refuses bytes as malformed or as unsupported, and as nothing else.
abbrev pub end_by : Stop → End
end_by (stop.Malformed fault place) = end.Malformed
end_by (stop.Unsupported form place) = end.Unsupported
end_by (stop.Outstanding most place) = end.Malformed
end_by (stop.Unacknowledged most place) = end.Malformed
end_by stop.Memory = end.Malformed

abbrev pub or_too_long : Bool → End → End
or_too_long longer e = if longer then end.TooLong else e

-- The end of a file by how the bytes end that are read of it, and by whether it is longer.
abbrev pub end_of_file : Ending → Bool → End
end_of_file reading.Ended longer = or_too_long longer end.Ended
end_of_file (reading.Bad s) longer = end_by s
end_of_file (reading.Open place pending) longer = or_too_long longer end.Malformed

-- The lawful items of a file of this direction.
unfoldable pub lawful_of : Dir → List ℕ → Lawful
lawful_of dir file =
    let r = reading (take limit file) in
    lawful_after dir 0 r.items (end_of_file r.ending (nat_lt limit (length file)))
