-- The names of what items carry, each with its text: the one table that filters and lines share.
-- PCI Express Base Specification 5.0, chapter 2 (TLP types) and chapter 3 (DLLP types).
use Rattle.std.specs.Prelude.{ℕ, Bool, List, [], ◌∷◌, ◌++◌, map, codes, find, Option}
use Rattle.std.specs.Str.{bytes_eq}
use Rattle.pl_base.specs.declared.link.Class.{Class}
use Rattle.pl_base.specs.declared.link.Class.TheVariants.{P, Np, Cpl}
use Rattle.pl_dllp.specs.declared.packet.Stage.{Stage}
use Rattle.pl_dllp.specs.declared.packet.Stage.TheVariants.{Init1, Init2, Update}
use Rattle.pl_tlp.specs.Kinds.{kinds, name_of}
use Rattle.pl_filter.specs.declared.name.Name.{Name}
use Rattle.pl_filter.specs.declared.name.Name.TheVariants as name

-- a stage and a class of flow control, as in UpdateFC-NP
abbrev pub stage_text : Stage → List ℕ
stage_text Init1 = codes "InitFC1-"
stage_text Init2 = codes "InitFC2-"
stage_text Update = codes "UpdateFC-"

abbrev pub class_text : Class → List ℕ
class_text P = codes "P"
class_text Np = codes "NP"
class_text Cpl = codes "Cpl"

abbrev pub text_of : Name → List ℕ
text_of (name.Tlp kind) = name_of kind
text_of name.Ack = codes "Ack"
text_of name.Nak = codes "Nak"
text_of name.MRInit = codes "MRInit"
text_of name.DataLinkFeature = codes "Data_Link_Feature"
text_of name.PmEnterL1 = codes "PM_Enter_L1"
text_of name.PmEnterL23 = codes "PM_Enter_L23"
text_of name.PmActiveStateRequestL1 = codes "PM_Active_State_Request_L1"
text_of name.PmRequestAck = codes "PM_Request_Ack"
text_of name.Vendor = codes "Vendor"
text_of name.Nop = codes "NOP"
text_of (name.Flow stage class) = stage_text stage ++ class_text class
text_of name.Other = codes "other"
text_of name.BadCrc = codes "badcrc"
text_of name.Reserved = codes "reserved"
text_of name.Undefined = codes "undefined"
text_of name.WrongSize = codes "wrongsize"

abbrev pub flow_names : Stage → List Name
flow_names stage = name.Flow stage P ∷ name.Flow stage Np ∷ name.Flow stage Cpl ∷ []

-- every name: of the TLPs, of the DLLPs, and of what neither has
abbrev pub names : List Name
names =
    map name.Tlp kinds
    ++ (name.Ack ∷ name.Nak ∷ name.MRInit ∷ name.DataLinkFeature ∷ name.PmEnterL1 ∷ name.PmEnterL23
    ∷ name.PmActiveStateRequestL1 ∷ name.PmRequestAck ∷ name.Vendor ∷ name.Nop ∷ [])
    ++ flow_names Init1 ++ flow_names Init2 ++ flow_names Update
    ++ (name.Other ∷ name.BadCrc ∷ name.Reserved ∷ name.Undefined ∷ name.WrongSize ∷ [])

-- the name with this text, where there is one
unfoldable pub named : List ℕ → Option Name
named text = find (λ n. bytes_eq (text_of n) text) names

-- names are told apart by their texts
abbrev pub same_name : Name → Name → Bool
same_name a b = bytes_eq (text_of a) (text_of b)
