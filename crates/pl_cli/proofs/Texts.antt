-- What is written and answered for a reading, by what the engine makes of its items.
use Rattle.std.proofs.Common.{◌≡◌, ◌++◌, ◌+◌, List, ℕ, [], ◌∷◌, refl, ap, ◌∙◌, sym, length, append_assoc, append-nil, Some, None}
use Rattle.std.proofs.lemmas.List.Concat.{flat_map-append}
use Rattle.std.proofs.lemmas.List.Sums.{sum_by-append}
use Rattle.pl_base.specs.declared.stop.Stop.{Stop}
use Rattle.pl_base.specs.declared.verdict.Verdict.{Verdict}
use Rattle.pl_capture.specs.Entry.{Entry}
use Rattle.pl_capture.specs.Reading.{Reading}
use Rattle.pl_profile.specs.declared.profile.Profile.{Profile}
use Rattle.pl_engine.specs.declared.refused.Refused.{Refused}
use Rattle.pl_engine.specs.Events.{number_after}
use Rattle.pl_engine.specs.Verdicts.{accept, accepted, blocked, history_after, refusal, refuse, stop_of, verdicts_after}
use Rattle.pl_report.specs.Lines.{stop_text, verdict_text}
use Rattle.pl_engine.specs.Judged.{judged_items}
use Rattle.pl_engine.proofs.Lists.{accepted-append, accepted_all, refusal-append}
use Rattle.pl_cli.specs.Output.{How, Cause, AtRefusal, View, cause_of, cause_of_ending, cause_status, last_text, lines, lines_after, lines_at, listed, status, stop_status, summary, tally_after, text, text_of}

pub lines-append : (a b : List Verdict) → lines (a ++ b) ≡ lines a ++ lines b
lines-append a b = flat_map-append verdict_text a b

-- the lines of items, one part after another
pub lines_after-append : (v : View) (p : Profile) (past xs ys : List Entry) →
    lines_after v p past (xs ++ ys) ≡ lines_after v p past xs ++ lines_after v p (history_after past xs) ys
lines_after-append v p past [] ys = refl
lines_after-append v p past (x ∷ xs) ys =
    ap (λ (l : List ℕ). lines_at v p past x ++ l) (lines_after-append v p (x ∷ past) xs ys)
    ∙ sym (append_assoc (lines_at v p past x) (lines_after v p (x ∷ past) xs) (lines_after v p (history_after (x ∷ past) xs) ys))

-- and of one item more
pub lines_after-more : (v : View) (p : Profile) (xs : List Entry) (x : Entry) →
    lines_after v p [] (xs ++ x ∷ []) ≡ lines_after v p [] xs ++ lines_at v p (history_after [] xs) x
lines_after-more v p xs x =
    lines_after-append v p [] xs (x ∷ [])
    ∙ ap (λ (l : List ℕ). lines_after v p [] xs ++ l) (append-nil (lines_at v p (history_after [] xs) x))

pub listed-append : (v : View) (xs ys : List Entry) → listed v (xs ++ ys) ≡ listed v xs + listed v ys
listed-append v xs ys = sum_by-append _ xs ys

abbrev pub status_by : Profile → List Entry → Cause → ℕ
status_by p xs c = cause_status (length (verdicts_after p [] xs)) c

by_parts : (v : View) (p : Profile) (r : Reading) (how : How) (xs : List Entry) (c : Cause) → judged_items p r ≡ xs → cause_of (refusal p [] r.items) r.ending how ≡ c →
    (text v p r how ≡ text_of v p xs c) × (status p r how ≡ status_by p xs c)
unfolding text status
by_parts v p r how xs c h k = (
  ap (λ l. text_of v p l (cause_of (refusal p [] r.items) r.ending how)) h ∙ ap (text_of v p xs) k,
  ap (λ l. status_by p l (cause_of (refusal p [] r.items) r.ending how)) h ∙ ap (status_by p xs) k,
)

-- where the engine refuses none of the items
pub all_judged : (v : View) (p : Profile) (r : Reading) (how : How) → refusal p [] r.items ≡ None →
    (text v p r how ≡ text_of v p r.items (cause_of_ending r.ending how)) × (status p r how ≡ status_by p r.items (cause_of_ending r.ending how))
all_judged v p r how h = by_parts v p r how r.items _ (accepted_all p [] r.items h) (ap (λ o. cause_of o r.ending how) h)

-- where it refuses the item behind these
pub one_refused : (v : View) (p : Profile) (r : Reading) (how : How) (xs : List Entry) (x : Entry) (tail : List Entry) (refused : Refused) →
    r.items ≡ xs ++ x ∷ tail → refusal p [] xs ≡ None → blocked p (history_after [] xs) x ≡ Some refused →
    (judged_items p r ≡ xs)
    × (text v p r how ≡ lines_after v p [] xs ++ (summary v (tally_after p xs) ++ stop_text (stop_of refused (number_after (history_after [] xs)))))
    × (status p r how ≡ stop_status (stop_of refused (number_after (history_after [] xs))))
one_refused v p r how xs x tail refused i h b =
    let past : List Entry = history_after [] xs in
    let s : Stop = stop_of refused (number_after past) in
    let judged : judged_items p r ≡ xs =
    ap (accepted p []) i ∙ accepted-append p [] xs (x ∷ tail) h
    ∙ ap (λ o. xs ++ accept o x (accepted p (x ∷ past) tail)) b ∙ append-nil xs in
    let refusal_is : refusal p [] r.items ≡ Some s =
    ap (refusal p []) i ∙ refusal-append p [] xs (x ∷ tail) h
    ∙ ap (λ o. refuse o (number_after past) (refusal p (x ∷ past) tail)) b in
    let both = by_parts v p r how xs (AtRefusal s) judged (ap (λ o. cause_of o r.ending how) refusal_is) in
    (judged, both.0, both.1)

-- where it refuses none of the first items, whatever follows
pub front_text : (v : View) (p : Profile) (r : Reading) (how : How) (xs tail : List Entry) → r.items ≡ xs ++ tail → refusal p [] xs ≡ None →
    (rest : List ℕ) × (text v p r how ≡ lines_after v p [] xs ++ rest)
front_text v p r how xs tail i h =
    let past : List Entry = history_after [] xs in
    let more : List Entry = accepted p past tail in
    let all : List Entry = xs ++ more in
    let judged : judged_items p r ≡ all = ap (accepted p []) i ∙ accepted-append p [] xs tail h in
    let c : Cause = cause_of (refusal p [] r.items) r.ending how in
    let last : List ℕ = summary v (tally_after p all) ++ last_text v (length all) (listed v all) (length (verdicts_after p [] all)) c in
    let later : List ℕ = lines_after v p past more in (
      later ++ last,
      (by_parts v p r how all c judged refl).0
          ∙ ap (λ l. l ++ last) (lines_after-append v p [] xs more)
          ∙ append_assoc (lines_after v p [] xs) later last,
    )
