-- A span that no gap began, in terms that know of none: what a capture without gaps gives.
-- PCI Express Base Specification 5.0, chapter 2: transaction descriptor, completion rules.
use Rattle.std.specs.Prelude.{ℕ, true, if◌then◌else◌, List, [], ◌∷◌, ◌++◌, count_by, Option, Some}
use Rattle.std.specs.Prelude.{None, is_some}
use Rattle.pl_base.specs.declared.rule.Rule.TheVariants.{C1}
use Rattle.pl_base.specs.declared.verdict.Verdict.{Verdict}
use Rattle.pl_base.specs.Verdict.{verdict_if}
use Rattle.pl_profile.specs.declared.profile.Profile.{Profile}
use Rattle.pl_tlp.specs.Fields.{Fields}
use Rattle.pl_pair.specs.declared.request.OpenRequest.{OpenRequest}
use Rattle.pl_pair.specs.declared.transaction.TransactionId.{TransactionId}
use Rattle.pl_pair.specs.Parts as transaction
use Rattle.pl_pair.specs.History.{Event, Request, Completion, Gap, answered_id, is_among, part}
use Rattle.pl_pair.specs.History.{request_id}
use Rattle.pl_pair.specs.Rules.{boundary_of, part_verdicts, request_verdicts}

-- the history of a transaction ID
abbrev pub seen : TransactionId → List Event → List transaction.Event
seen id [] = []
seen id (event ∷ past) = part id event ++ seen id past

-- its open request
abbrev pub open_request : TransactionId → List Event → Option OpenRequest
open_request id past = transaction.open_in (seen id past)

-- the transaction IDs of all requests, each once
abbrev pub ids : List Event → List TransactionId
ids [] = []
ids (Request dir x at ∷ past) =
    if is_among (request_id dir x) (ids past) then ids past else request_id dir x ∷ ids past
ids (Completion dir x at ∷ past) = ids past
ids (Gap ∷ past) = ids past

-- how many of them have an open request
abbrev pub outstanding : List Event → ℕ
outstanding past = count_by (λ (id : TransactionId). is_some (open_request id past)) (ids past)

-- C1: it names no open request, and then no other rule is judged
abbrev pub completion_verdicts : ℕ → Option OpenRequest → Fields → ℕ → List Verdict
completion_verdicts boundary None x at = verdict_if true C1 at None None
completion_verdicts boundary (Some opened) x at = part_verdicts boundary opened x at

-- the verdicts of an event after a history without a gap
unfoldable pub verdicts : Profile → List Event → Event → List Verdict
verdicts profile past (Request dir x at) =
    request_verdicts (open_request (request_id dir x) past) at
verdicts profile past (Completion dir x at) =
    completion_verdicts (boundary_of profile dir) (open_request (answered_id dir x) past) x at
verdicts profile past Gap = []
