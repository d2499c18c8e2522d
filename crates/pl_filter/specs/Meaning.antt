-- What filters mean.
use Rattle.std.specs.Prelude.{ℕ, ◌==◌, nat_lt, Bool, true, false, not, ◌&&◌, ◌||◌}
use Rattle.std.specs.Prelude.{Option, Some, None}
use Rattle.pl_base.specs.declared.link.Body.{Body}
use Rattle.pl_base.specs.declared.link.Body.TheVariants.{Whole, Nullified, Spoiled}
use Rattle.pl_base.specs.declared.link.Dir.{Dir}
use Rattle.pl_base.specs.declared.link.Dir.TheVariants as dir
use Rattle.pl_capture.specs.Entry.{Entry}
use Rattle.pl_capture.specs.declared.item.ItemKind.{ItemKind}
use Rattle.pl_capture.specs.declared.item.ItemKind.TheVariants as item
use Rattle.pl_dllp.specs.declared.packet.Decoded.{Decoded}
use Rattle.pl_dllp.specs.declared.packet.Decoded.TheVariants as decoded
use Rattle.pl_dllp.specs.Frame.{frame}
use Rattle.pl_engine.specs.Packets.{is_tlp, is_dllp, is_link_down, sequence_number}
use Rattle.pl_engine.specs.State.{state_of}
use Rattle.pl_tlp.specs.Fields.{Fields}
use Rattle.pl_filter.specs.Items.{fields_of, item_name}
use Rattle.pl_filter.specs.Names.{same_name}
use Rattle.pl_filter.specs.Trees.{Tree, Both, Either, Negated, Passes}
use Rattle.pl_filter.specs.declared.filter.Test.{Test}
use Rattle.pl_filter.specs.declared.filter.Test.TheVariants as test
use Rattle.pl_filter.specs.declared.name.Name.{Name}

-- whether an item is a packet in this direction; a link down and a gap have none
abbrev pub goes_up : Dir → Bool
goes_up dir.Down = false
goes_up dir.Up = true

abbrev pub is_packet : ItemKind → Bool
is_packet item.Tlp = true
is_packet item.Dllp = true
is_packet item.LinkDown = false
is_packet item.Gap = false

-- whether a packet is spoiled, or nullified
abbrev pub is_bad_crc : Decoded → Bool
is_bad_crc (decoded.Ok d) = false
is_bad_crc decoded.BadCrc = true
is_bad_crc decoded.Reserved = false

abbrev pub is_spoiled : Body → Bool
is_spoiled Whole = false
is_spoiled Nullified = false
is_spoiled Spoiled = true

abbrev pub is_nullified : Body → Bool
is_nullified Whole = false
is_nullified Nullified = true
is_nullified Spoiled = false

abbrev pub spoiled : ItemKind → Entry → Bool
spoiled item.Tlp x = is_spoiled (state_of x)
spoiled item.Dllp x = is_bad_crc (frame x.body)
spoiled item.LinkDown x = false
spoiled item.Gap x = false

-- whether a name or a field is there and is this one
abbrev pub is_name : Name → Option Name → Bool
is_name n None = false
is_name n (Some m) = same_name m n

abbrev pub is_field : (Fields → ℕ) → ℕ → Option Fields → Bool
is_field field n None = false
is_field field n (Some fields) = field fields == n

-- whether an item passes a test
abbrev pub passes : Test → Entry → Bool
passes test.Any x = true
passes test.Up x = is_packet x.kind && goes_up x.dir
passes test.Down x = is_packet x.kind && not (goes_up x.dir)
passes test.Tlp x = is_tlp x.kind
passes test.Dllp x = is_dllp x.kind
passes test.LinkDown x = is_link_down x.kind
passes test.Spoiled x = spoiled x.kind x
passes test.Nullified x = is_tlp x.kind && is_nullified (state_of x)
passes (test.Kind n) x = is_name n (item_name x)
passes (test.Number n) x = is_tlp x.kind && (sequence_number x.body == n)
passes (test.Tag n) x = is_field (λ f. f.tag) n (fields_of x)
passes (test.Requester n) x = is_field (λ f. f.requester) n (fields_of x)
passes (test.Tc n) x = is_field (λ f. f.tc) n (fields_of x)
passes (test.Before n) x = nat_lt x.time n
passes (test.After n) x = nat_lt n x.time

-- whether a filter holds for an item
abbrev pub holds : Tree → Entry → Bool
holds (Both f g) x = holds f x && holds g x
holds (Either f g) x = holds f x || holds g x
holds (Negated f) x = not (holds f x)
holds (Passes t) x = passes t x
