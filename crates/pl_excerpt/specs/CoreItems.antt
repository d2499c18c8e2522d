-- The items on which a verdict rests. A history is the list of the items so far, newest first, and
-- an item comes behind it.
-- PCI Express Base Specification 5.0, chapter 2: transaction descriptor, completion rules.
use Rattle.std.specs.Prelude.{ℕ, ◌+◌, Bool, false, ◌&&◌, ◌||◌, ◌==◌, nat_le, nat_lt, List, [], ◌∷◌}
use Rattle.std.specs.Prelude.{Option, Some, None, option_and_then, if◌then◌else◌}
use Rattle.pl_base.specs.Rule.{index_of}
use Rattle.pl_base.specs.declared.link.Dir.{Dir}
use Rattle.pl_base.specs.declared.rule.Rule.{Rule}
use Rattle.pl_base.specs.declared.rule.Rule.TheVariants.{C2}
use Rattle.pl_capture.specs.Entry.{Entry}
use Rattle.pl_tlp.specs.Fields.{Fields}
use Rattle.pl_tlp.specs.Groups.{is_completion}
use Rattle.pl_pair.specs.History.{answered_id, is_same, request_id}
use Rattle.pl_pair.specs.declared.transaction.TransactionId.{TransactionId}
use Rattle.pl_engine.specs.Events.{number_after, well_formed}
use Rattle.pl_engine.specs.Packets.{is_gap, is_link_down}
use Rattle.pl_excerpt.specs.declared.case.Case.{Case}

-- the number of the link down or gap behind which the span of a history begins, or 0
abbrev pub span_start : List Entry → ℕ
span_start [] = 0
span_start (x ∷ past) =
    if is_link_down x.kind || is_gap x.kind then number_after past else span_start past

-- the item with this number stands before that of the verdict, and in its span
abbrev pub is_in_span : Case → ℕ → Bool
is_in_span case number = nat_lt case.start number && nat_lt number case.at

abbrev pub is_number : Option ℕ → ℕ → Bool
is_number None number = false
is_number (Some cited) number = cited == number

-- ---- the parts of a request

-- C2 to C10 cite an open request first
abbrev pub cites_request : Rule → Bool
cites_request rule = nat_le (index_of C2) (index_of rule)

abbrev pub id_if : Dir → Option Fields → Option TransactionId
id_if dir None = None
id_if dir (Some x) = Some (request_id dir x)

-- the transaction ID of the well-formed TLP with this number
abbrev pub id_at : ℕ → List Entry → Option TransactionId
id_at number [] = None
id_at number (x ∷ past) =
    if number_after past == number then id_if x.dir (well_formed past x) else id_at number past

-- that of the request that the verdict cites
abbrev pub cited_id : Case → List Entry → Option TransactionId
cited_id case past =
    if cites_request case.verdict.rule
    then option_and_then (λ number. id_at number past) case.verdict.first else None

abbrev pub answers : Option TransactionId → Dir → Option Fields → Bool
answers None dir x = false
answers (Some id) dir None = false
answers (Some id) dir (Some x) = is_completion x.kind && is_same id (answered_id dir x)

-- a well-formed completion that comes behind the request that the verdict cites, and answers it
abbrev pub is_part : Case → List Entry → Entry → Bool
is_part case past x = answers (cited_id case past) x.dir (well_formed past x)

-- the request that the verdict cites has this number
abbrev pub cites_as_request : Case → ℕ → Bool
cites_as_request case number =
    cites_request case.verdict.rule && is_number case.verdict.first number

-- ---- the core

-- the item of the verdict, and those that it cites
abbrev pub is_cited : Case → ℕ → Bool
is_cited case number =
    case.at == number
    || (is_number case.verdict.first number || is_number case.verdict.second number)

-- and the parts of the request that it cites
abbrev pub is_core : Case → List Entry → Entry → Bool
is_core case past x =
    is_cited case (number_after past)
    || (is_in_span case (number_after past) && is_part case past x)

-- the item of a history that has this number is of the core
abbrev pub is_core_at : Case → List Entry → ℕ → Bool
is_core_at case [] number = false
is_core_at case (x ∷ past) number =
    if number_after past == number then is_core case past x else is_core_at case past number

-- how many items of a history are of the core
abbrev pub core_size : Case → List Entry → ℕ
core_size case [] = 0
core_size case (x ∷ past) =
    if is_core case past x then core_size case past + 1 else core_size case past
