-- What the keeper answered, and the reply that was made of it.
use Rattle.std.proofs.Common.{◌≡◌, ◌≢◌, ℕ, List, refl, sym, subst}
use Rattle.std.specs.Prelude.{Option, None, Result, Ok, Err, IfOk, IsOk, Vec, length, take}
use Rattle.std.specs.declared.alloc.Global.{Global}
use Rattle.pl_capture.specs.Reading.{reading}
use Rattle.pl_engine.specs.Judged.{judged_items, judged_verdicts}
use Rattle.pl_engine.specs.declared.judged.Judged.{Judged}
use Rattle.pl_head.specs.declared.reply.Media.TheVariants.{Json}
use Rattle.pl_head.specs.declared.status.Status.TheVariants.{Success}
use Rattle.pl_profile.specs.declared.profile.Profile.{Profile as PortProfile}
use Rattle.std.proofs.lemmas.Bool.{false≢true}
use Rattle.pl_keeper.specs.Archive.{Archive, Profile, Capture, captures_of}
use Rattle.pl_keeper.specs.Listing.{Line, Lists, Ascends}
use Rattle.pl_keeper.specs.Puts.{after_profile, after_capture, put_of_capture}
use Rattle.pl_keeper.specs.declared.keeper.Put.{Put}
use Rattle.pl_keeper.specs.declared.keeper.Put.TheVariants.{New, Same, OtherProfile, OtherBytes}
use Rattle.pl_keeper.specs.declared.keeper.Put.TheVariants.{NoProfile, Full}
use Rattle.pl_web.specs.Answer.{json}
use Rattle.pl_web.specs.Answers.{Answers, AnswersJson, IsAnswer}
use Rattle.pl_web.specs.Ended.{ConnCause, IsUnlost}
use Rattle.pl_web.specs.Ended.{OfKeeper, OnlyMemory}
use Rattle.pl_web.specs.Bodies.{list_body, profile_body, capture_body, verdicts_body}
use Rattle.pl_web.specs.Gets.{captures_listed, verdicts_found, verdicts_under}
use Rattle.pl_web.specs.Judged.{Judges, IsJudged}
use Rattle.pl_web.specs.Judging.{Finding, judged, unjudged, finding, no_profile}
use Rattle.pl_web.specs.Puts.{put_answer, profile_stored, capture_stored, capture_found}
use Rattle.pl_web.specs.declared.judging.Judging.{Judging}
use Rattle.pl_web.specs.declared.judging.Judging.TheVariants as code
use Rattle.pl_web.specs.declared.reply.Reply.{Reply}
use Rattle.pl_web.specs.declared.ended.Ended.{Ended}
use Rattle.pl_web.specs.declared.ended.Ended.TheVariants.{Gone, Lost, Store, Memory}

pub listed_answers : (a : Archive) (bench : List ℕ) (lines : List Line)
    (Tells : Archive → Type 0) (result : Result Reply Ended)
    → Lists (captures_of a bench) lines → Ascends lines
    → IfOk result (λ reply. reply.status ≡ Success) → IfOk result (λ reply. reply.media ≡ Json)
    → IfOk result (λ reply. reply.body.items ≡ list_body bench lines)
    → OnlyMemory result → Tells a
    → Answers (captures_listed a bench) a Tells result
listed_answers a bench lines Tells (Ok reply) one_each by_key status media body memory rows = (
  (
    status,
    media,
    record { lines = lines; one_each = one_each; by_key = by_key; printed = body },
  ),
  rows,
)
listed_answers a bench lines Tells (Err Memory) one_each by_key status media body memory rows =
    rows
listed_answers a bench lines Tells (Err Gone) one_each by_key status media body memory rows =
    absurd memory
listed_answers a bench lines Tells (Err Lost) one_each by_key status media body memory rows =
    absurd memory
listed_answers a bench lines Tells (Err Store) one_each by_key status media body memory rows =
    absurd memory

-- where the reply to a put wants memory, the put was no new row
same_profiles : (a : Archive) (p : Profile) (put : Put) (Tells : Archive → Type 0)
    → put ≢ New → Tells (after_profile put a p) → Tells a
same_profiles a p New Tells old rows = absurd (old refl)
same_profiles a p Same Tells old rows = rows
same_profiles a p OtherProfile Tells old rows = rows
same_profiles a p (OtherBytes size place) Tells old rows = rows
same_profiles a p NoProfile Tells old rows = rows
same_profiles a p Full Tells old rows = rows

same_captures : (a : Archive) (c : Capture) (put : Put) (Tells : Archive → Type 0)
    → put ≢ New → Tells (after_capture put a c) → Tells a
same_captures a c New Tells old rows = absurd (old refl)
same_captures a c Same Tells old rows = rows
same_captures a c OtherProfile Tells old rows = rows
same_captures a c (OtherBytes size place) Tells old rows = rows
same_captures a c NoProfile Tells old rows = rows
same_captures a c Full Tells old rows = rows

pub profile_cases : (a : Archive) (p : Profile) (put : Put) (Tells : Archive → Type 0)
    (row : List ℕ) (result : Result Reply Ended)
    → Tells (after_profile put a p) → row ≡ profile_body p.bench p.name
    → IfOk result (λ reply. IsAnswer (put_answer row (length p.bytes) 16 put) reply)
    → OnlyMemory result → (put ≡ New → IsOk result)
    → Answers (profile_stored a p put) a Tells result
profile_cases a p put Tells row (Ok reply) rows made says memory new =
    (subst (λ r. IsAnswer (put_answer r (length p.bytes) 16 put) reply) made says, rows)
profile_cases a p put Tells row (Err Memory) rows made says memory new =
    same_profiles a p put Tells (λ is. false≢true (new is)) rows
profile_cases a p put Tells row (Err Gone) rows made says memory new = absurd memory
profile_cases a p put Tells row (Err Lost) rows made says memory new = absurd memory
profile_cases a p put Tells row (Err Store) rows made says memory new = absurd memory

pub capture_cases : (a : Archive) (c : Capture) (items verdicts : ℕ) (put : Put)
    (Tells : Archive → Type 0) (row : List ℕ) (result : Result Reply Ended)
    → Tells (after_capture put a c) → row ≡ capture_body c.bench c.key c.profile items verdicts
    → IfOk result (λ reply. IsAnswer (put_answer row (length c.bytes) 64 put) reply)
    → OnlyMemory result → (put ≡ New → IsOk result)
    → Answers (capture_stored a c items verdicts put) a Tells result
capture_cases a c items verdicts put Tells row (Ok reply) rows made says memory new =
    (subst (λ r. IsAnswer (put_answer r (length c.bytes) 64 put) reply) made says, rows)
capture_cases a c items verdicts put Tells row (Err Memory) rows made says memory new =
    same_captures a c put Tells (λ is. false≢true (new is)) rows
capture_cases a c items verdicts put Tells row (Err Gone) rows made says memory new =
    absurd memory
capture_cases a c items verdicts put Tells row (Err Lost) rows made says memory new =
    absurd memory
capture_cases a c items verdicts put Tells row (Err Store) rows made says memory new =
    absurd memory

-- what is the keeper's alone is no fault of the connection
pub keeper_unlost : (r : Result Reply Ended) → OfKeeper r → IsUnlost r
keeper_unlost (Ok reply) of is = cc
keeper_unlost (Err Gone) of is = absurd of
keeper_unlost (Err Lost) of is = absurd of
keeper_unlost (Err Store) of is = cc
keeper_unlost (Err Memory) of is = cc

pub keeper_alone : (before now : ℕ) (r : Result Reply Ended) → OfKeeper r → now ≡ before
    → ConnCause before now r
keeper_alone before now (Ok reply) of same = same
keeper_alone before now (Err Gone) of same = absurd of
keeper_alone before now (Err Lost) of same = absurd of
keeper_alone before now (Err Store) of same = same
keeper_alone before now (Err Memory) of same = same

pub ruleset of_keeper = (keeper_unlost, keeper_alone)

-- ---- the reply to a capture that was judged, or wasn't

-- there is no profile of the name
pub judged_without : (text : Option (List ℕ)) (capture : List ℕ) (most : ℕ)
    (result : Result Judging Ended) → text ≡ None
    → IfOk result (λ judging. (capture : List ℕ) (most : ℕ)
    → Judges (unjudged no_profile) capture most judging)
    → IfOk result (λ judging. Judges (finding text capture) capture most judging)
judged_without text capture most (Ok judging) none refuses =
    subst (λ t. Judges (finding t capture) capture most judging) (sym none)
    (refuses capture most)
judged_without text capture most (Err ended) none refuses = refuses

pub stored_judged : (a : Archive) (c : Capture) (f : Finding) (most : ℕ) (j : Judged)
    (Tells : Archive → Type 0) (result : Result Reply Ended)
    → Judges f c.bytes most (code.Judged j)
    → Answers (capture_stored a c j.items j.total (put_of_capture a c)) a Tells result
    → Answers (capture_found a c f) a Tells result
stored_judged a c (judged profile) most j Tells result judges answers =
    subst (λ n. Answers (capture_stored a c n
    (length (judged_verdicts profile (reading c.bytes))) (put_of_capture a c)) a Tells result)
    judges.items
    (subst (λ n. Answers (capture_stored a c j.items n (put_of_capture a c)) a Tells result)
    judges.total answers)
stored_judged a c (unjudged answer) most j Tells result judges answers = absurd judges

pub stored_refused : (a : Archive) (c : Capture) (f : Finding) (most : ℕ) (reply : Reply)
    (Tells : Archive → Type 0)
    → Judges f c.bytes most (code.Refused reply) → Tells a
    → Answers (capture_found a c f) a Tells (Ok reply)
stored_refused a c (judged profile) most reply Tells judges rows = absurd judges
stored_refused a c (unjudged answer) most reply Tells judges rows = (judges, rows)

pub shown_refused : (a : Archive) (bench key capture : List ℕ) (f : Finding) (most : ℕ)
    (reply : Reply) (Tells : Archive → Type 0)
    → Judges f capture most (code.Refused reply) → Tells a
    → Answers (verdicts_found a bench key capture f) a Tells (Ok reply)
shown_refused a bench key capture (judged profile) most reply Tells judges rows = absurd judges
shown_refused a bench key capture (unjudged answer) most reply Tells judges rows = (judges, rows)

shown_as : (bench key capture : List ℕ) (profile : PortProfile) (j : Judged) (reply : Reply)
    → IsJudged profile capture 10000 j
    → IsAnswer (json Success (verdicts_body bench key j.items j.total j.verdicts.items)) reply
    → IsAnswer (verdicts_under bench key capture profile) reply
shown_as bench key capture profile j reply judges says =
    let all = judged_verdicts profile (reading capture) in
    let items = length (judged_items profile (reading capture)) in
    subst (λ n. IsAnswer (json Success (verdicts_body bench key n (length all) (take 10000 all)))
    reply) judges.items
    (subst (λ n. IsAnswer (json Success (verdicts_body bench key j.items n (take 10000 all)))
    reply) judges.total
    (subst (λ vs. IsAnswer (json Success (verdicts_body bench key j.items j.total vs)) reply)
    judges.verdicts says))

pub shown_judged : {E : Type 0} (a : Archive) (bench key capture : List ℕ) (f : Finding)
    (j : Judged) (Tells : Archive → Type 0) (body : Result (Vec ℕ Global) E)
    (result : Result Reply Ended)
    → Judges f capture 10000 (code.Judged j)
    → IfOk body (λ b. b.items ≡ verdicts_body bench key j.items j.total j.verdicts.items)
    → AnswersJson Success body result → Tells a
    → Answers (verdicts_found a bench key capture f) a Tells result
shown_judged a bench key capture (unjudged answer) j Tells body result judges made says rows =
    absurd judges
shown_judged a bench key capture (judged profile) j Tells (Ok body) (Ok reply) judges made says
    rows = (
      shown_as bench key capture profile j reply judges
          (subst (λ text. IsAnswer (json Success text) reply) made says),
      rows,
    )
shown_judged a bench key capture (judged profile) j Tells (Ok body) (Err e) judges made says rows =
    absurd says
shown_judged a bench key capture (judged profile) j Tells (Err none) (Ok reply) judges made says
    rows = absurd says
shown_judged a bench key capture (judged profile) j Tells (Err none) (Err Memory) judges made says
    rows = rows
shown_judged a bench key capture (judged profile) j Tells (Err none) (Err Gone) judges made says
    rows = cc
shown_judged a bench key capture (judged profile) j Tells (Err none) (Err Lost) judges made says
    rows = cc
shown_judged a bench key capture (judged profile) j Tells (Err none) (Err Store) judges made says
    rows = cc
