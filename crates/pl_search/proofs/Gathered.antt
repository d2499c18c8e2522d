-- The hits of one capture after another.
use Rattle.std.proofs.Common.{◌≡◌, ◌+◌, ◌-◌, ◌<◌, ◌≤◌, ℕ, List, [], ◌∷◌, ◌++◌, length, take, map, refl}
use Rattle.std.proofs.Common.{sym, ap, ◌∙◌, subst, arith, append_assoc, append-nil, length-append}
use Rattle.std.proofs.Common.{drop, drop-cons, get_or, suc}
use Rattle.std.specs.Prelude.{Option, None, Result, Ok, Err}
use Rattle.std.specs.Result.{IsErrAnd}
use Rattle.std.proofs.lemmas.List.{length-map, map-append, take-append-drop, take-map, take_all}
use Rattle.std.proofs.lemmas.List.{take_more}
use Rattle.pl_base.specs.declared.rule.Rule.{Rule}
use Rattle.pl_base.specs.declared.stop.Stop.{Stop}
use Rattle.pl_base.specs.declared.verdict.Verdict.{Verdict}
use Rattle.pl_capture.specs.Reading.{reading}
use Rattle.pl_engine.specs.Judged.{rule_verdicts, stop_of_reading}
use Rattle.pl_engine.specs.declared.judged.Judged.{Judged}
use Rattle.pl_engine.proofs.Asked.{take-on}
use Rattle.pl_keeper.specs.Archive.{Archive}
use Rattle.pl_keeper.specs.Listing.{Line}
use Rattle.pl_profile.specs.declared.profile.Profile.{Profile as PortProfile}
use Rattle.pl_search.specs.Answers.{Answers, IsFree, most_found}
use Rattle.pl_search.specs.Hits.{by_stop, hit_of, hits_at, hits_of, hits_over, joined, keys_of}
use Rattle.pl_search.specs.Steps.{Adds, Holds, Judges}
use Rattle.pl_search.specs.declared.error.SearchError.{SearchError}
use Rattle.pl_search.specs.declared.error.SearchError.TheVariants.{Store, Profile, Capture, Memory}
use Rattle.pl_search.specs.declared.hit.Hit.{Hit}
use Rattle.pl_search.specs.declared.found.Search.{Search}

-- ---- a judged capture

pub judged-hits : (rule : Rule) (key capture : List ℕ) (profile : PortProfile) (most : ℕ)
    (judged : Judged) → stop_of_reading profile (reading capture) ≡ None
    → judged.total ≡ length (rule_verdicts rule profile (reading capture))
    → judged.verdicts.items ≡ take most (rule_verdicts rule profile (reading capture))
    → Judges (by_stop rule key capture profile (stop_of_reading profile (reading capture))) key most
    (Ok judged)
judged-hits rule key capture profile most judged ended total verdicts =
    let all : List Verdict = rule_verdicts rule profile (reading capture) in
    let here : Judges (by_stop rule key capture profile None) key most (Ok judged) = record {
      total = total ∙ sym (length-map all (hit_of key));
      found = ap (map (hit_of key)) verdicts ∙ sym (take-map (hit_of key) most all);
    } in
    subst (λ (o : Option Stop). Judges (by_stop rule key capture profile o) key most (Ok judged))
    (sym ended) here

-- what it is judged to was added, or it is refused
pub added : (what : Result (List Hit) SearchError) (key : List ℕ) (judged : Judged)
    (old new : Search) → Judges what key (most_found - length old.found) (Ok judged)
    → new.total ≡ old.total + judged.total
    → new.found ≡ old.found ++ map (hit_of key) judged.verdicts.items
    → Adds what old new (Ok tt)
added (Ok hits) key judged old new is total found = record {
  total = total ∙ ap (λ (n : ℕ). old.total + n) is.total;
  found = found ∙ ap (λ (l : List Hit). old.found ++ l) is.found;
}
added (Err refused) key judged old new is total found = absurd is

pub not_added : (what : Result (List Hit) SearchError) (old new : Search) (key : List ℕ) (most : ℕ)
    (error : SearchError) → Judges what key most (Err error) → Adds what old new (Err error)
not_added (Ok hits) old new key most error is = is
not_added (Err refused) old new key most error is = is

-- want of memory and a failed keeper come in place of any answer
free-adds : (what : Result (List Hit) SearchError) (old new : Search) (error : SearchError)
    → IsFree error → Adds what old new (Err error)
free-adds (Ok hits) old new error free = free
free-adds (Err refused) old new Store free = tt
free-adds (Err refused) old new (Profile key number) free = absurd free
free-adds (Err refused) old new (Capture key stop) free = absurd free
free-adds (Err refused) old new Memory free = tt

pub store-adds : (what : Result (List Hit) SearchError) (old new : Search)
    → Adds what old new (Err Store)
store-adds what old new = free-adds what old new Store tt

pub memory-adds : (what : Result (List Hit) SearchError) (old new : Search)
    → Adds what old new (Err Memory)
memory-adds what old new = free-adds what old new Memory tt

-- ---- one capture behind others

joined-none : (more : Result (List Hit) SearchError) → joined (Ok []) more ≡ more
joined-none (Ok hits) = refl
joined-none (Err error) = refl

joined-assoc : (one two three : Result (List Hit) SearchError)
    → joined (joined one two) three ≡ joined one (joined two three)
joined-assoc (Err error) two three = refl
joined-assoc (Ok hits) (Err error) three = refl
joined-assoc (Ok hits) (Ok more) (Err error) = refl
joined-assoc (Ok hits) (Ok more) (Ok most) =
    let P : List Hit → Result (List Hit) SearchError = λ l. Ok l in
    ap P (append_assoc hits more most)

pub over-append : (a : Archive) (bench : List ℕ) (rule : Rule) (keys more : List (List ℕ))
    → hits_over a bench rule (keys ++ more)
    ≡ joined (hits_over a bench rule keys) (hits_over a bench rule more)
over-append a bench rule [] more = sym (joined-none (hits_over a bench rule more))
over-append a bench rule (key ∷ keys) more =
    ap (joined (hits_at a bench key rule)) (over-append a bench rule keys more)
    ∙ sym (joined-assoc (hits_at a bench key rule) (hits_over a bench rule keys)
    (hits_over a bench rule more))

joined-end : (one : Result (List Hit) SearchError) → joined one (Ok []) ≡ one
joined-end (Ok hits) =
    let P : List Hit → Result (List Hit) SearchError = λ l. Ok l in
    ap P (append-nil hits)
joined-end (Err error) = refl

abbrev pub keys : List Line → List (List ℕ)
keys lines = map (λ (line : Line). line.key) lines

module _ (a : Archive) (bench : List ℕ) (rule : Rule) (lines : List Line) (i : ℕ) (line : Line)
    (below : i < length lines) (is : line ≡ get_or lines i line) where
  pub more-keys : hits_over a bench rule (keys (take (i + 1) lines))
      ≡ joined (hits_over a bench rule (keys (take i lines))) (hits_at a bench line.key rule)
  more-keys =
      ap (λ (some : List Line). hits_over a bench rule (keys some))
      (take_more lines i line below ∙ ap (λ (l : Line). take i lines ++ l ∷ []) (sym is))
      ∙ ap (hits_over a bench rule) (map-append _ (take i lines) (line ∷ []))
      ∙ over-append a bench rule (keys (take i lines)) (line.key ∷ [])
      ∙ ap (joined (hits_over a bench rule (keys (take i lines))))
      (joined-end (hits_at a bench line.key rule))

  -- those before a line, its own, and those behind it
  pub all-keys : hits_over a bench rule (keys lines)
      ≡ joined (hits_over a bench rule (keys (take i lines)))
      (joined (hits_at a bench line.key rule)
      (hits_over a bench rule (keys (drop (suc i) lines))))
  all-keys =
      ap (λ (some : List Line). hits_over a bench rule (keys some))
      (sym (take-append-drop i lines)
      ∙ ap (λ (rest : List Line). take i lines ++ rest)
      (drop-cons lines i line below
      ∙ ap (λ (l : Line). l ∷ drop (suc i) lines) (sym is)))
      ∙ ap (hits_over a bench rule) (map-append _ (take i lines) (line ∷ drop (suc i) lines))
      ∙ over-append a bench rule (keys (take i lines)) (line.key ∷ keys (drop (suc i) lines))

-- ---- what is held so far

pub holds-more : (so_far what : Result (List Hit) SearchError) (old new : Search)
    → Holds so_far old → Adds what old new (Ok tt) → Holds (joined so_far what) new
holds-more (Ok hits) (Ok more) old new holds adds =
    let total : new.total ≡ length (hits ++ more) =
    omega (
      arith,
      adds.total,
      ap (λ (s : Search). s.total) holds,
      length-append hits more,
    ) in
    let found : new.found ≡ take most_found (hits ++ more) =
    adds.found
    ∙ ap (λ (s : Search). s.found ++ take (most_found - length s.found) more) holds
    ∙ sym (take-on most_found hits more) in
    λ i. record { total = total i; found = found i }
holds-more (Ok hits) (Err refused) old new holds adds = absurd adds
holds-more (Err refused) what old new holds adds = absurd holds

pub answers-held : (what : Result (List Hit) SearchError) (search : Search)
    → Holds what search → Answers what (Ok search)
answers-held (Ok hits) search holds = holds
answers-held (Err refused) search holds = absurd holds

-- a capture that is refused behind those that are held is the answer
pub answers-refused : (so_far what later : Result (List Hit) SearchError) (old new : Search)
    (error : SearchError) → Holds so_far old → Adds what old new (Err error)
    → Answers (joined so_far (joined what later)) (Err error)
answers-refused (Err refused) what later old new error holds adds = absurd holds
answers-refused (Ok hits) (Err refused) later old new error holds adds = adds
answers-refused (Ok hits) (Ok more) (Ok most) old new error holds adds = adds
answers-refused (Ok hits) (Ok more) (Err refused) old new Store holds adds = tt
answers-refused (Ok hits) (Ok more) (Err refused) old new (Profile key number) holds adds =
    absurd adds
answers-refused (Ok hits) (Ok more) (Err refused) old new (Capture key stop) holds adds =
    absurd adds
answers-refused (Ok hits) (Ok more) (Err refused) old new Memory holds adds = tt

module _ (a : Archive) (bench : List ℕ) (rule : Rule) (lines : List Line) (i : ℕ) (line : Line)
    (below : i < length lines) (is : line ≡ get_or lines i line) (key : List ℕ)
    (same : key ≡ line.key) (old new : Search)
    (holds : Holds (hits_over a bench rule (keys (take i lines))) old) where
  -- the capture of a line was added
  pub search-on : Adds (hits_at a bench key rule) old new (Ok tt)
      → Holds (hits_over a bench rule (keys (take (i + 1) lines))) new
  search-on adds =
      let here : Adds (hits_at a bench line.key rule) old new (Ok tt) =
      subst (λ (k : List ℕ). Adds (hits_at a bench k rule) old new (Ok tt)) same adds in
      subst (λ (what : Result (List Hit) SearchError). Holds what new)
      (sym (more-keys a bench rule lines i line below is))
      (holds-more (hits_over a bench rule (keys (take i lines))) (hits_at a bench line.key rule)
      old new holds here)

  -- it is refused
  pub search-refused : (error : SearchError) → keys lines ≡ keys_of a bench
      → Adds (hits_at a bench key rule) old new (Err error)
      → Answers (hits_of a bench rule) (Err error)
  search-refused error listed adds =
      let here : Adds (hits_at a bench line.key rule) old new (Err error) =
      subst (λ (k : List ℕ). Adds (hits_at a bench k rule) old new (Err error)) same adds in
      subst (λ (what : Result (List Hit) SearchError). Answers what (Err error))
      (sym (all-keys a bench rule lines i line below is) ∙ ap (hits_over a bench rule) listed)
      (answers-refused (hits_over a bench rule (keys (take i lines)))
      (hits_at a bench line.key rule) (hits_over a bench rule (keys (drop (suc i) lines)))
      old new error holds here)

-- all lines are done
pub search-done : (a : Archive) (bench : List ℕ) (rule : Rule) (lines : List Line) (i : ℕ)
    (search : Search) → length lines ≤ i → keys lines ≡ keys_of a bench
    → Holds (hits_over a bench rule (keys (take i lines))) search
    → Answers (hits_of a bench rule) (Ok search)
search-done a bench rule lines i search past listed holds =
    answers-held (hits_of a bench rule) search
    (subst (λ (what : Result (List Hit) SearchError). Holds what search)
    (ap (λ (some : List Line). hits_over a bench rule (keys some)) (take_all i lines past)
    ∙ ap (hits_over a bench rule) listed) holds)

-- an error that is handed on
pub handed : (what : Result (List Hit) SearchError) (error : SearchError)
    (result : Result Search SearchError) → IsErrAnd result (λ e. e ≡ error)
    → Answers what (Err error) → Answers what result
handed what error (Ok search) is answers = absurd is
handed what error (Err e) is answers =
    subst (λ (e' : SearchError). Answers what (Err e')) (sym is) answers
