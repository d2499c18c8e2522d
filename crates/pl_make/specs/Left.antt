-- What is left of a capture while it is made and read.
use Rattle.std.specs.Prelude.{ℕ, suc, ◌+◌, ◌-◌, ◌*◌, List, [], ◌++◌, get_or, take, drop, Option}
use Rattle.std.specs.Prelude.{Some, None}
use Rattle.std.specs.List.{flat_map}
use Rattle.pl_base.specs.declared.link.Dir.TheVariants.{Down}
use Rattle.pl_capture.specs.Entry.{Entry}
use Rattle.pl_capture.specs.Record.{record_of, end_of}
use Rattle.pl_dllp.specs.declared.packet.Stage.TheVariants.{Init1, Init2}
use Rattle.pl_make.specs.declared.making.Making.{Making}
use Rattle.pl_make.specs.declared.making.Next.{Next}
use Rattle.pl_make.specs.declared.making.Next.TheVariants as next
use Rattle.pl_make.specs.declared.position.Group.{Group}
use Rattle.pl_make.specs.declared.position.Group.TheVariants as group
use Rattle.pl_make.specs.declared.position.Position.{Position}
use Rattle.pl_make.specs.declared.record.Record.{Record}
use Rattle.pl_make.specs.Generated.{bring_up, dllp, round, rounds}

-- what is left of a record
abbrev pub unread : Record → List ℕ
unread r = drop r.given (take r.size r.bytes)

-- the six items of a group: of the bring-up, or of round k with the generator's number x
unfoldable pub six : Group → ℕ → ℕ → List Entry
six group.FirstInit k x = bring_up Init1 1
six group.SecondInit k x = bring_up Init2 7
six group.Round k x = round k x

-- the items of a capture with `count` rounds that stand behind a group
unfoldable pub behind : ℕ → Group → ℕ → ℕ → List Entry
behind count group.FirstInit k x = bring_up Init2 7 ++ rounds x 0 count
behind count group.SecondInit k x = rounds x 0 count
behind count group.Round k x = rounds x (suc k) (count - suc k)

-- where there is no item
abbrev pub nothing : Entry
nothing = dllp 0 Down []

-- the item at a position
unfoldable pub item_at : Position → Entry
item_at p = get_or (six p.group p.round p.x) p.index nothing

-- this item and those behind it
unfoldable pub items_from : ℕ → Position → List Entry
items_from count p = drop p.index (six p.group p.round p.x) ++ behind count p.group p.round p.x

unfoldable pub items_from_next : ℕ → Option Position → List Entry
items_from_next count None = []
items_from_next count (Some p) = items_from count p

-- the bytes that are still to be made, of a capture with `count` rounds
unfoldable pub to_make : ℕ → Next → List ℕ
to_make count (next.Item p) = flat_map record_of (items_from count p) ++ end_of (12 + 6 * count) 0
to_make count next.End = end_of (12 + 6 * count) 0
to_make count next.Nothing = []

-- what is left of a capture
abbrev pub left : Making → List ℕ
left m = unread m.at_hand ++ to_make m.count m.next
