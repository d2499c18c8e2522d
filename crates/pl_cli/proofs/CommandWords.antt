-- The words of a command, and what its status says.
use Rattle.std.proofs.Common.{◌≡◌, ◌≢◌, ◌≤◌, ◌<◌, ◌==◌, ◌⊎◌, inl, inr, List, ℕ, Bool, true, false, if◌then◌else◌, [], ◌∷◌, refl, ap, ◌∙◌, sym, length, take, get_or, Bor, arith, Option, Some, None, Result, Err}
use Rattle.std.specs.Prelude.{codes, bytes_eq, slice_get}
use Rattle.std.proofs.lemmas.Slice.Eq.{bytes_eq-Decides}
use Rattle.std.proofs.lemmas.Bool.{cases_lt}
use Rattle.std.proofs.lemmas.List.{length-map, take_all}
use Rattle.std.proofs.lemmas.Grind.{common_steps}
use Rattle.std.proofs.lemmas.Bool.Decides.{nat_tests}
use Rattle.pl_base.specs.declared.stop.Stop.{Stop}
use Rattle.pl_base.specs.declared.stop.Stop.TheVariants.{Malformed, Unsupported, Outstanding, Unacknowledged, Memory}
use Rattle.pl_base.specs.declared.verdict.Verdict.{Verdict}
use Rattle.pl_capture.specs.Reading.{Reading, Ending, reading, Ended, Bad, Open}
use Rattle.pl_io.specs.declared.shelf.Shelf as shelf
use Rattle.pl_io.specs.declared.sink.Sink as sink
use Rattle.pl_io.specs.Faults.{Rose}
use Rattle.pl_profile.specs.declared.profile.Profile.{Profile}
use Rattle.pl_engine.specs.Verdicts.{refusal, verdicts_after}
use Rattle.pl_filter.specs.Answers.{IsAnswer}
use Rattle.pl_filter.specs.Trees.{Tree}
use Rattle.pl_filter.specs.declared.error.FilterError.{FilterError}
use Rattle.pl_filter.specs.declared.error.FilterError.TheVariants as error
use Rattle.pl_engine.specs.Judged.{judged_verdicts}
use Rattle.pl_cli.specs.Output.{Cause, AtEnd, AtRefusal, AtLimit, AtFault, Listing, How, Whole, TooLong, Fault, cause, cause_of, cause_of_ending, cause_status, how_of, limit, status, status_of, stop_status}
use Rattle.pl_cli.specs.Promise.{Begins, IsList, IsNoJudging, IsTrial, Lists, Runs, filter_refused, lacking, listed, no_filter, refused, shows, texts}
use Rattle.pl_cli.specs.Source.{RefusesFilter}
use Rattle.pl_cli.specs.Words.{IsUnrisen, RunsCleanly}
use Rattle.pl_engine.proofs.Lists.{accepted_all}

-- a count that didn't rise
pub not_risen : (before now : ℕ) → IsUnrisen before now → Rose before now → ⊥
not_risen before now h rose = omega (arith, h.0, h.1, rose)

-- a refusal has a status above 0
stop_above : (s : Stop) → stop_status s ≡ 0 → ⊥
stop_above (Malformed fault item) h = omega arith
stop_above (Unsupported form item) h = omega arith
stop_above (Outstanding count item) h = omega arith
stop_above (Unacknowledged count item) h = omega arith
stop_above Memory h = omega arith

no_verdicts : (n : ℕ) (b : Bool) → b ≡ (n == 0) → (let answer : ℕ = if b then 0 else 1 in answer ≡ 0) → n ≡ 0
no_verdicts n true e h = grind (arith, nat_tests, common_steps)
no_verdicts n false e h = absurd (omega arith)

-- what status 0 says of the cause
at_end : (n : ℕ) (c : Cause) → cause_status n c ≡ 0 → (c ≡ AtEnd) × (n ≡ 0)
at_end n AtEnd h = (refl, no_verdicts n (n == 0) refl h)
at_end n (AtRefusal s) h = absurd (stop_above s h)
at_end n AtLimit h = absurd (omega arith)
at_end n AtFault h = absurd (omega arith)

ending_is : (e : Ending) (how : How) → cause_of_ending e how ≡ AtEnd → (e ≡ Ended) × (how ≡ Whole)
ending_is Ended Whole h = (refl, refl)
ending_is Ended TooLong h = absurd cc
ending_is Ended Fault h = absurd cc
ending_is (Bad s) how h = absurd cc
ending_is (Open place pending) Whole h = absurd cc
ending_is (Open place pending) TooLong h = absurd cc
ending_is (Open place pending) Fault h = absurd cc

nothing_refused : (o : Option Stop) (e : Ending) (how : How) → cause_of o e how ≡ AtEnd → (o ≡ None) × (e ≡ Ended) × (how ≡ Whole)
nothing_refused None e how h = let k = ending_is e how h in (refl, k.0, k.1)
nothing_refused (Some s) e how h = absurd cc

whole_file : (file : List ℕ) → how_of file ≡ Whole → length file ≤ limit
whole_file file h = by (cases_lt limit (length file))
  where
    by : (limit < length file) ⊎ (length file ≤ limit) → length file ≤ limit
    by (inl lt) = let e : how_of file ≡ TooLong = grind (arith, nat_tests, common_steps) in absurd (differ (sym e ∙ h))
      where
        differ : TooLong ≡ Whole → ⊥
        differ k = cc
    by (inr le) = le

none_left : (xs : List Verdict) → length xs ≡ 0 → xs ≡ []
none_left [] h = refl
none_left (x ∷ xs) h = absurd (omega arith)

-- status 0 for a whole file
pub clean_file : (p : Profile) (file : List ℕ) → status_of p file ≡ 0 → RunsCleanly p file
unfolding status
clean_file p file h =
    let r : Reading = reading (take limit file) in
    let e = at_end (length (judged_verdicts p r)) (cause p r (how_of file)) h in
    let n = nothing_refused (refusal p [] r.items) r.ending (how_of file) e.0 in
    let size : length file ≤ limit = whole_file file n.2 in
    let same : reading (take limit file) ≡ reading file = ap reading (take_all limit file size) in
    record {
      size = size;
      ended = ap (λ (x : Reading). x.ending) (sym same) ∙ n.1;
      judged = ap (λ (x : Reading). refusal p [] x.items) (sym same) ∙ n.0;
      clean = ap (λ (x : Reading). verdicts_after p [] x.items) (sym same)
          ∙ ap (verdicts_after p []) (sym (accepted_all p [] r.items n.0)) ∙ none_left (judged_verdicts p r) e.1;
    }

-- ---- the words

-- the first of some words
pub first_is : (words : List (Bor (List ℕ))) (d : Bor (List ℕ)) (name : List ℕ) (count : ℕ) (r : Bool) → 0 < count → length words ≡ count →
    r ≡ bytes_eq (get_or words 0 d).now name → (r ≡ true → Begins (texts words) name count) × (Begins (texts words) name count → r ≡ true)
first_is [] d name count r some len e = absurd (omega arith)
first_is (w ∷ words) d name count r some len e = (
  λ yes. (length-map (w ∷ words) (λ (x : Bor (List ℕ)). x.now) ∙ len, ap Some ((bytes_eq-Decides w.now name).0 (sym e ∙ yes))),
  λ begins. e ∙ (bytes_eq-Decides w.now name).1 (same begins.1),
)
  where
    same : Some w.now ≡ Some name → w.now ≡ name
    same h = cc

-- another count of words
pub other_count : (words : List (Bor (List ℕ))) (name : List ℕ) (count : ℕ) → (length words ≡ count → ⊥) → Begins (texts words) name count → ⊥
other_count words name count differ begins = differ (sym (length-map words (λ (x : Bor (List ℕ)). x.now)) ∙ begins.0)

-- three words, by the first and the places of the others
pub three_words : (words : List (Bor (List ℕ))) (d : Bor (List ℕ)) (name : List ℕ) → Begins (texts words) name 3 →
    texts words ≡ name ∷ (get_or words 1 d).now ∷ (get_or words 2 d).now ∷ []
three_words [] d name h = absurd (omega (arith, h.0))
three_words (a ∷ []) d name h = absurd (omega (arith, h.0))
three_words (a ∷ b ∷ []) d name h = absurd (omega (arith, h.0))
three_words (a ∷ b ∷ c ∷ []) d name h = let same : Some a.now ≡ Some name = h.1 in let first : a.now ≡ name = cc in ap (λ (l : List ℕ). l ∷ b.now ∷ c.now ∷ []) first
three_words (a ∷ b ∷ c ∷ x ∷ more) d name h = absurd (omega (arith, h.0))

pub four_words : (words : List (Bor (List ℕ))) (d : Bor (List ℕ)) (name : List ℕ) → Begins (texts words) name 4 →
    texts words ≡ name ∷ (get_or words 1 d).now ∷ (get_or words 2 d).now ∷ (get_or words 3 d).now ∷ []
four_words [] d name h = absurd (omega (arith, h.0))
four_words (a ∷ []) d name h = absurd (omega (arith, h.0))
four_words (a ∷ b ∷ []) d name h = absurd (omega (arith, h.0))
four_words (a ∷ b ∷ c ∷ []) d name h = absurd (omega (arith, h.0))
four_words (a ∷ b ∷ c ∷ e ∷ []) d name h = let same : Some a.now ≡ Some name = h.1 in let first : a.now ≡ name = cc in ap (λ (l : List ℕ). l ∷ b.now ∷ c.now ∷ e.now ∷ []) first
four_words (a ∷ b ∷ c ∷ e ∷ x ∷ more) d name h = absurd (omega (arith, h.0))

-- words that begin with no command
pub no_words : (words : List (List ℕ)) → (Begins words (codes "check") 3 → ⊥) → (Begins words (codes "list") 4 → ⊥) → (Begins words (codes "report") 3 → ⊥) →
    ((number count : ℕ) → IsTrial words number count → ⊥) → IsNoJudging words
no_words words check list report trial = record {
  no_check = λ profile capture is. check (ap (λ (l : List (List ℕ)). length l) is, ap (λ (l : List (List ℕ)). slice_get l 0) is);
  no_list = λ filter is. list (ap (λ (l : List (List ℕ)). length l) is.2, ap (λ (l : List (List ℕ)). slice_get l 0) is.2);
  no_report = λ profile capture is. report (ap (λ (l : List (List ℕ)). length l) is, ap (λ (l : List (List ℕ)). slice_get l 0) is);
  no_trial = trial;
}

-- ---- what a list comes to, as a run

pub of_list : {H O : Type 0} {S : shelf.Ghosts H} {T : sink.Ghosts O} {words : List (List ℕ)} {profile capture filter : List ℕ} {old new : H} {out out' : O} {answer : ℕ} →
    IsList words profile capture filter → Lists S T profile capture filter old new out out' answer → Runs S T words old new out out' answer
of_list {profile = profile} {capture} {filter} is (refused e bad same a) = filter_refused filter e (profile, capture, is) bad same a
of_list {profile = profile} {capture} {filter} is (lacking same none is9) = no_filter filter (profile, capture, is) same none is9
of_list {profile = profile} {capture} {filter} is (listed f good r) = shows (Listing f) profile capture (filter, is, good) r

-- a filter that is refused
pub refused_list : {H O : Type 0} {S : shelf.Ghosts H} {T : sink.Ghosts O} {profile capture filter : List ℕ} {old : H} {out out' : O} {answer : ℕ} (e : FilterError) →
    (let r : Result Tree FilterError = Err e in r ≢ Err error.Memory → IsAnswer filter r) → RefusesFilter T e out out' answer →
    Lists S T profile capture filter old old out out' answer
refused_list (error.Syntax at) right h = refused (error.Syntax at) (right (λ k. cc)) refl h
refused_list (error.TooDeep at) right h = refused (error.TooDeep at) (right (λ k. cc)) refl h
refused_list error.Memory right h = lacking refl h.0 h.1
