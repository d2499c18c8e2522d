-- In a span that no gap began the open requests and the rules are those that know of none.
use Rattle.std.proofs.Common.{◌≡◌, ℕ, ◌+◌, Bool, true, false, cond, if◌then◌else◌, List, [], ◌∷◌, ◌++◌, Option, Some, None, refl, sym, ap, ap₂, ◌∙◌}
use Rattle.std.specs.List.{count_by}
use Rattle.std.specs.Option.{is_some}
use Rattle.pl_base.specs.declared.verdict.Verdict.{Verdict}
use Rattle.pl_profile.specs.declared.profile.Profile.{Profile}
use Rattle.pl_tlp.specs.Fields.{Fields}
use Rattle.pl_pair.specs.declared.request.OpenRequest.{OpenRequest}
use Rattle.pl_pair.specs.declared.transaction.TransactionId.{TransactionId}
use Rattle.pl_pair.specs.Parts as transaction
use Rattle.pl_pair.specs.Fresh as fresh
use Rattle.pl_pair.specs.History.{Event, Request, Completion, Gap, answered_id, ids, is_among, is_torn, open_request, outstanding, part, request_id, seen}
use Rattle.pl_pair.specs.Rules.{boundary_of, completion_verdicts, pair_verdicts, request_verdicts}
use Rattle.pl_pair.proofs.Counts.{count-cons, weight}

seen-fresh : (id : TransactionId) (past : List Event) → is_torn past ≡ false → seen id past ≡ fresh.seen id past
seen-fresh id [] whole = refl
seen-fresh id (Request dir x at ∷ past) whole = ap (λ (older : List transaction.Event). part id (Request dir x at) ++ older) (seen-fresh id past whole)
seen-fresh id (Completion dir x at ∷ past) whole = ap (λ (older : List transaction.Event). part id (Completion dir x at) ++ older) (seen-fresh id past whole)
seen-fresh id (Gap ∷ past) whole = cc

pub open-fresh : (id : TransactionId) (past : List Event) → is_torn past ≡ false → open_request id past ≡ fresh.open_request id past
open-fresh id past whole = ap transaction.open_in (seen-fresh id past whole)

ids-fresh : (past : List Event) → is_torn past ≡ false → ids past ≡ fresh.ids past
ids-fresh [] whole = refl
ids-fresh (Request dir x at ∷ past) whole =
    ap (λ (others : List TransactionId). if is_among (request_id dir x) others then others else request_id dir x ∷ others) (ids-fresh past whole)
ids-fresh (Completion dir x at ∷ past) whole = ids-fresh past whole
ids-fresh (Gap ∷ past) whole = cc

count-alike : (f g : TransactionId → Bool) → ((id : TransactionId) → f id ≡ g id) → (xs : List TransactionId) → count_by f xs ≡ count_by g xs
count-alike f g alike [] = refl
count-alike f g alike (id ∷ xs) =
    count-cons f id xs ∙ ap₂ (λ (one others : ℕ). one + others) (ap weight (alike id)) (count-alike f g alike xs) ∙ sym (count-cons g id xs)

pub outstanding-fresh : (past : List Event) → is_torn past ≡ false → outstanding past ≡ fresh.outstanding past
outstanding-fresh past whole =
    count-alike (λ (id : TransactionId). is_some (open_request id past)) (λ (id : TransactionId). is_some (fresh.open_request id past))
    (λ id. ap is_some (open-fresh id past whole)) (ids past)
    ∙ ap (λ (all : List TransactionId). count_by (λ (id : TransactionId). is_some (fresh.open_request id past)) all) (ids-fresh past whole)

judged-fresh : (boundary : ℕ) (o : Option OpenRequest) (x : Fields) (at : ℕ) → completion_verdicts boundary false o x at ≡ fresh.completion_verdicts boundary o x at
judged-fresh boundary None x at = refl
judged-fresh boundary (Some opened) x at = refl

pub verdicts-fresh : (profile : Profile) (past : List Event) → is_torn past ≡ false → (event : Event) → pair_verdicts profile past event ≡ fresh.verdicts profile past event
unfolding pair_verdicts fresh.verdicts
verdicts-fresh profile past whole (Request dir x at) =
    ap (λ (o : Option OpenRequest). request_verdicts o at) (open-fresh (request_id dir x) past whole)
verdicts-fresh profile past whole (Completion dir x at) =
    ap (λ (torn : Bool). completion_verdicts (boundary_of profile dir) torn (open_request (answered_id dir x) past) x at) whole
    ∙ ap (λ (o : Option OpenRequest). completion_verdicts (boundary_of profile dir) false o x at) (open-fresh (answered_id dir x) past whole)
    ∙ judged-fresh (boundary_of profile dir) (fresh.open_request (answered_id dir x) past) x at
verdicts-fresh profile past whole Gap = refl
