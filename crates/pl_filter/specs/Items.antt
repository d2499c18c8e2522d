-- What an item carries.
use Rattle.std.specs.Prelude.{ℕ, List, Option, Some, None}
use Rattle.std.specs.Option.{unwrap_or}
use Rattle.pl_base.specs.declared.link.Body.{Body}
use Rattle.pl_base.specs.declared.link.Body.TheVariants.{Whole, Nullified, Spoiled}
use Rattle.pl_capture.specs.Entry.{Entry}
use Rattle.pl_capture.specs.declared.item.ItemKind.{ItemKind}
use Rattle.pl_capture.specs.declared.item.ItemKind.TheVariants as item
use Rattle.pl_dllp.specs.declared.packet.Decoded.{Decoded}
use Rattle.pl_dllp.specs.declared.packet.Decoded.TheVariants as decoded
use Rattle.pl_dllp.specs.declared.packet.Dllp.{Dllp}
use Rattle.pl_dllp.specs.Frame.{frame}
use Rattle.pl_dllp.specs.Name as dllp
use Rattle.pl_engine.specs.Packets.{tlp_of}
use Rattle.pl_engine.specs.State.{state_of}
use Rattle.pl_tlp.specs.Fields.{Fields, Outcome, view_of}
use Rattle.pl_tlp.specs.Fields as outcome
use Rattle.pl_filter.specs.Names.{named}
use Rattle.pl_filter.specs.declared.name.Name.{Name}
use Rattle.pl_filter.specs.declared.name.Name.TheVariants as name

-- the view of a TLP that arrived like this; only whole ones are seen
abbrev pub seen_as : Body → List ℕ → Option Outcome
seen_as Whole body = Some (view_of (tlp_of body))
seen_as Nullified body = None
seen_as Spoiled body = None

abbrev pub tlp_view : ItemKind → Entry → Option Outcome
tlp_view item.Tlp x = seen_as (state_of x) x.body
tlp_view item.Dllp x = None
tlp_view item.LinkDown x = None
tlp_view item.Gap x = None

-- the fields of a whole TLP of the right size
abbrev pub fields_in : Option Outcome → Option Fields
fields_in None = None
fields_in (Some (outcome.Whole fields)) = Some fields
fields_in (Some outcome.Undefined) = None
fields_in (Some outcome.WrongSize) = None

abbrev pub fields_of : Entry → Option Fields
fields_of x = fields_in (tlp_view x.kind x)

-- the name of a whole TLP
abbrev pub tlp_name : Option Outcome → Option Name
tlp_name None = None
tlp_name (Some (outcome.Whole fields)) = Some (name.Tlp fields.kind)
tlp_name (Some outcome.Undefined) = Some name.Undefined
tlp_name (Some outcome.WrongSize) = Some name.WrongSize

-- the name of a DLLP with a right CRC is that with the text of its type
abbrev pub type_name : Dllp → Name
type_name d = unwrap_or (named (dllp.name_of d)) name.Other

abbrev pub dllp_name : Decoded → Name
dllp_name (decoded.Ok d) = type_name d
dllp_name decoded.BadCrc = name.BadCrc
dllp_name decoded.Reserved = name.Reserved

-- the name of an item; a link down, a gap, a spoiled TLP and a nullified one have none
abbrev pub name_in : ItemKind → Entry → Option Name
name_in item.Tlp x = tlp_name (seen_as (state_of x) x.body)
name_in item.Dllp x = Some (dllp_name (frame x.body))
name_in item.LinkDown x = None
name_in item.Gap x = None

abbrev pub item_name : Entry → Option Name
item_name x = name_in x.kind x
