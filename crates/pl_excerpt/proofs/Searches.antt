-- The first reading: one item behind others, and how it ends.
use Rattle.std.proofs.Common.{◌≡◌, ℕ, ◌+◌, ◌-◌, ◌<◌, ◌≤◌, Bool, true, false, List, [], ◌∷◌, ◌++◌}
use Rattle.std.proofs.Common.{length, take, refl, ap, sym, subst, ◌∙◌, arith, append_assoc, append-nil}
use Rattle.std.proofs.Common.{length-append, nat_lt, Option, Some, None, Ok, Err}
use Rattle.std.proofs.Common.{get_or, ◌||◌, if◌then◌else◌}
use Rattle.std.specs.Prelude.{slice_get}
use Rattle.std.proofs.lemmas.Option.{slice_get_past, slice_get-get_or}
use Rattle.pl_base.specs.declared.stop.Stop.{Stop}
use Rattle.pl_base.specs.declared.verdict.Verdict.{Verdict}
use Rattle.pl_io.specs.declared.shelf.Shelf as shelf
use Rattle.pl_capture.specs.Entry.{Entry}
use Rattle.pl_capture.specs.Reading.{reading}
use Rattle.pl_capture.specs.Standing as reader
use Rattle.pl_io.specs.Told.{ahead}
use Rattle.pl_profile.specs.declared.profile.Profile.{Profile}
use Rattle.pl_engine.specs.declared.engine.Engine.{Engine}
use Rattle.pl_engine.specs.declared.refused.Refused.{Refused}
use Rattle.pl_engine.specs.Engine.{StandsFor}
use Rattle.pl_engine.specs.Events.{number_after}
use Rattle.pl_engine.specs.Packets.{is_gap, is_link_down}
use Rattle.pl_engine.specs.Verdicts.{accept, accepted, blocked, history_after, refusal, refuse}
use Rattle.pl_engine.specs.Verdicts.{stop_of, verdicts_at}
use Rattle.pl_engine.proofs.Lists.{accepted-append, accepted_all, history-append, length-history}
use Rattle.pl_engine.proofs.Lists.{refusal-append}
use Rattle.pl_engine.proofs.Captures.{no_items}
use Rattle.pl_excerpt.specs.declared.case.Case.{Case}
use Rattle.pl_excerpt.specs.declared.finding.Search.{Search}
use Rattle.pl_excerpt.specs.declared.outcome.Outcome.TheVariants as outcome
use Rattle.pl_excerpt.specs.declared.source.Ended.{Ended}
use Rattle.pl_excerpt.specs.declared.source.Ended.TheVariants as ended
use Rattle.pl_excerpt.specs.Answer.{answer_at, answer_before, limit}
use Rattle.pl_excerpt.specs.Answer.{without_verdict}
use Rattle.pl_excerpt.specs.Cases.{case_after, case_or}
use Rattle.pl_excerpt.specs.CoreItems.{span_start}
use Rattle.pl_excerpt.specs.Searching.{SearchedTo, Finds, Blocks, LacksCase, Searched}
use Rattle.pl_excerpt.specs.Sources.{Sight, Reached, Lends, HasAll, Halts, Steady, fresh}
use Rattle.pl_excerpt.proofs.Finishing.{ahead_none}
use Rattle.pl_excerpt.proofs.Longer.{longer, waiting_goes}
use Rattle.pl_excerpt.proofs.Steadies.{Kept, kept_none, kept_on}
use Rattle.pl_excerpt.proofs.Taking.{front_read, told}

-- ---- one item behind others

pub number_is : {p : Profile} {number : ℕ} {items : List Entry} {search : Search} {kept : Engine}
    → SearchedTo p number items search kept
    → number_after (history_after [] items) ≡ search.items + 1
number_is {items = items} s = omega (arith, s.items_are, length-history [] items)

pub broken_start : (x : Entry) (past : List Entry) (n : ℕ) (is_break : Bool) → is_break ≡ true
    → is_break ≡ (is_link_down x.kind || is_gap x.kind) → n ≡ number_after past
    → n ≡ span_start (x ∷ past)
broken_start x past n is_break breaks is h =
    h ∙ ap (λ (b : Bool). if b then number_after past else span_start past) (sym breaks ∙ is)

pub same_start : (x : Entry) (past : List Entry) (n : ℕ) (is_break : Bool) → is_break ≡ false
    → is_break ≡ (is_link_down x.kind || is_gap x.kind) → n ≡ span_start past
    → n ≡ span_start (x ∷ past)
same_start x past n is_break goes is h =
    h ∙ ap (λ (b : Bool). if b then number_after past else span_start past) (sym goes ∙ is)

-- what comes of the verdicts on one item more
one_more : {p : Profile} {number : ℕ} {items : List Entry} {search : Search} {kept : Engine}
    (x : Entry) (found : List Verdict) → SearchedTo p number items search kept
    → found ≡ verdicts_at kept.profile (history_after [] items) x → (more : List Entry)
    → case_after p (number - 1) [] ((items ++ x ∷ []) ++ more)
    ≡ case_or (slice_get found search.left) (history_after [] items)
    (case_after p (search.left - length found) (x ∷ history_after [] items) more)
one_more {p} {number} {items} {search} x found s is more =
    let past : List Entry = history_after [] items in
    let here : verdicts_at p past x ≡ found =
    ap (λ (q : Profile). verdicts_at q past x) (sym s.profile_is) ∙ sym is in
    ap (case_after p (number - 1) []) (append_assoc items (x ∷ []) more)
    ∙ s.left_is (x ∷ more)
    ∙ ap (λ (vs : List Verdict). case_or (slice_get vs search.left) past
    (case_after p (search.left - length vs) (x ∷ past) more)) here

accepted_one : {p : Profile} {number : ℕ} {items : List Entry} {search : Search} {kept : Engine}
    (x : Entry) → SearchedTo p number items search kept
    → blocked kept.profile (history_after [] items) x ≡ None
    → refusal p [] (items ++ x ∷ []) ≡ None
accepted_one {p} {items = items} x s allowed =
    let past : List Entry = history_after [] items in
    refusal-append p [] items (x ∷ []) s.accepted
    ∙ ap (λ (o : Option Refused). refuse o (number_after past) None)
    (ap (λ (q : Profile). blocked q past x) (sym s.profile_is) ∙ allowed)

pub passes : {p : Profile} {number : ℕ} {items : List Entry} {search search' : Search}
    {kept kept' : Engine} (x : Entry) (found : List Verdict)
    → SearchedTo p number items search kept → kept'.profile ≡ kept.profile
    → blocked kept.profile (history_after [] items) x ≡ None
    → found ≡ verdicts_at kept.profile (history_after [] items) x
    → StandsFor kept' (x ∷ history_after [] items)
    → search'.items ≡ search.items + 1 → length found ≤ search.left
    → search'.left ≡ search.left - length found
    → search'.start ≡ span_start (x ∷ history_after [] items)
    → SearchedTo p number (items ++ x ∷ []) search' kept'
passes {p} {number} {items} {search} {search'} {kept} {kept'} x found s profile allowed is stands
    count le left start =
    let past : List Entry = history_after [] items in
    let history : history_after [] (items ++ x ∷ []) ≡ x ∷ past = history-append [] items (x ∷ []) in
    record {
      profile_is = profile ∙ s.profile_is;
      engine_stands = subst (StandsFor kept') (sym history) stands;
      accepted = accepted_one x s allowed;
      items_are = count ∙ ap (λ (n : ℕ). n + 1) s.items_are ∙ sym (length-append items (x ∷ []));
      start_is = start ∙ ap span_start (sym history);
      left_is = λ more.
          one_more x found s is more
          ∙ ap (λ (o : Option Verdict). case_or o past
          (case_after p (search.left - length found) (x ∷ past) more))
          (slice_get_past found search.left le)
          ∙ ap (λ (n : ℕ). case_after p n (x ∷ past) more) (sym left)
          ∙ ap (λ (h : List Entry). case_after p search'.left h more) (sym history);
    }

pub is_found : {p : Profile} {number : ℕ} {items : List Entry} {search : Search} {kept : Engine}
    (x : Entry) (found seen : List Verdict) (other : Verdict)
    → SearchedTo p number items search kept
    → blocked kept.profile (history_after [] items) x ≡ None
    → found ≡ verdicts_at kept.profile (history_after [] items) x
    → seen ≡ found → search.left < length found
    → Finds p number (items ++ x ∷ [])
    (record { verdict = get_or seen search.left other; at = search.items + 1; start = search.start })
is_found {p} {number} {items} {search} x found seen other s allowed is same lt =
    let past : List Entry = history_after [] items in
    let verdict : Verdict = get_or seen search.left other in
    let got : slice_get found search.left ≡ Some verdict =
    slice_get-get_or found search.left other lt
    ∙ ap (λ (vs : List Verdict). Some (get_or vs search.left other)) (sym same) in
    record {
      accepted = accepted_one x s allowed;
      case_is = λ more.
          one_more x found s is more
          ∙ ap (λ (o : Option Verdict). case_or o past
          (case_after p (search.left - length found) (x ∷ past) more)) got
          ∙ ap (λ (n : ℕ). Some (record { verdict = verdict; at = n; start = span_start past }))
          (number_is s)
          ∙ ap (λ (n : ℕ). Some (record { verdict = verdict; at = search.items + 1; start = n }))
          (sym s.start_is);
    }

pub is_refused : {p : Profile} {number : ℕ} {items : List Entry} {search : Search} {kept : Engine}
    (x : Entry) (refused : Refused) (s : Stop) → SearchedTo p number items search kept
    → blocked kept.profile (history_after [] items) x ≡ Some refused
    → s ≡ stop_of refused (search.items + 1) → Blocks p number items x s
is_refused {p} {number} {items} {search} x refused s t is_blocked stop_is = record {
  accepted = t.accepted;
  refused = refused;
  is_blocked = ap (λ (q : Profile). blocked q (history_after [] items) x) (sym t.profile_is)
      ∙ is_blocked;
  stop_is = stop_is ∙ ap (stop_of refused) (sym (number_is t));
  none = ap (case_after p (number - 1) []) (sym (append-nil items)) ∙ t.left_is [];
}

-- ---- how the reading ends

-- the items that were read come first in the file
pub front_items : {source : Sight} {rest file : Option (List ℕ)} {items : List Entry}
    (whole : List ℕ) → Reached source rest file items → file ≡ Some whole
    → (tail : List Entry) × ((reading (take limit whole)).items ≡ items ++ tail)
front_items {source} {items = items} whole r is =
    let behind = told whole r.took is in
    let more : List ℕ = take (limit - length r.bytes) (source.left ++ behind.0) in
    let tail = longer r.bytes more in
    let le : length r.bytes ≤ limit = omega (arith, r.took.within, r.took.used) in (
      tail.0,
      ap (λ (b : List ℕ). (reading (take limit b)).items) behind.2
          ∙ ap (λ (b : List ℕ). (reading b).items)
          (front_read r.bytes (source.left ++ behind.0) limit le)
          ∙ tail.1 ∙ ap (λ (xs : List Entry). xs ++ tail.0) r.items_are,
    )

pub found_in : {p : Profile} {number : ℕ} {source : Sight} {rest file : Option (List ℕ)}
    {items : List Entry} {case : Case} → Reached source rest file items
    → Finds p number items case → Searched p number file (Ok case)
found_in {p} {number} {items = items} r f = λ whole is.
    let front = front_items whole r is in
    ap (λ (xs : List Entry). case_after p (number - 1) [] (accepted p [] xs)) front.1
    ∙ ap (case_after p (number - 1) []) (accepted-append p [] items front.0 f.accepted)
    ∙ f.case_is (accepted p (history_after [] items) front.0)

pub refused_in : {p : Profile} {number : ℕ} {source : Sight} {rest file : Option (List ℕ)}
    {items : List Entry} {x : Entry} {s : Stop} → Reached source rest file (items ++ x ∷ [])
    → Blocks p number items x s → Searched p number file (Err (outcome.Stop s))
refused_in {p} {number} {items = items} {x} {s} r b = λ whole is.
    let past : List Entry = history_after [] items in
    let front = front_items whole r is in
    let all : (reading (take limit whole)).items ≡ items ++ (x ∷ front.0) =
    front.1 ∙ append_assoc items (x ∷ []) front.0 in
    let judged : accepted p [] (items ++ (x ∷ front.0)) ≡ items =
    accepted-append p [] items (x ∷ front.0) b.accepted
    ∙ ap (λ (o : Option Refused). items ++ accept o x (accepted p (x ∷ past) front.0)) b.is_blocked
    ∙ append-nil items in
    let stop : refusal p [] (items ++ (x ∷ front.0)) ≡ Some s =
    refusal-append p [] items (x ∷ front.0) b.accepted
    ∙ ap (λ (o : Option Refused). refuse o (number_after past) (refusal p (x ∷ past) front.0))
    b.is_blocked
    ∙ ap Some (sym b.stop_is) in
    record {
      none = ap (λ (xs : List Entry). case_after p (number - 1) [] (accepted p [] xs)) all
          ∙ ap (case_after p (number - 1) []) judged ∙ b.none;
      answer_is =
          ap (λ (o : Option Stop). answer_before o
          (answer_at (reading (take limit whole)).ending (nat_lt limit (length whole))))
          (ap (refusal p []) all ∙ stop);
    }

lacks : {p : Profile} {number : ℕ} {file : Option (List ℕ)} {items : List Entry} {search : Search}
    {kept : Engine} (e : Ended) → HasAll e file items → SearchedTo p number items search kept
    → (whole : List ℕ) → file ≡ Some whole → LacksCase p number whole (without_verdict e)
lacks {p} {number} {items = items} e h s whole is =
    let all = h.items_are whole is in
    record {
      none = ap (λ (xs : List Entry). case_after p (number - 1) [] (accepted p [] xs)) all
          ∙ ap (case_after p (number - 1) []) (accepted_all p [] items s.accepted ∙ sym (append-nil items))
          ∙ s.left_is [];
      answer_is =
          ap (λ (o : Option Stop). answer_before o
          (answer_at (reading (take limit whole)).ending (nat_lt limit (length whole))))
          (ap (refusal p []) all ∙ s.accepted)
          ∙ h.ending_is whole is;
    }

pub ended_in : {p : Profile} {number : ℕ} {items : List Entry} {search : Search} {kept : Engine}
    (e : Ended) (source : Sight) (rest file : Option (List ℕ))
    → Halts e source rest file items → SearchedTo p number items search kept
    → Searched p number file (Err (without_verdict e))
ended_in ended.Whole source rest file h s = lacks ended.Whole h s
ended_in (ended.Refused t) source rest file h s = lacks (ended.Refused t) h s
ended_in ended.TooLong source rest file h s = lacks ended.TooLong h s
ended_in ended.Fault source rest file h s = tt

-- ---- on the way

pub record OnTheWay {H : Type 0} (S : shelf.Ghosts H) (p : Profile) (number : ℕ) (source : Sight)
    (search : Search) (kept : Engine) (start at : H) : Type 0 where
  pub items : List Entry
  pub reached : Reached source (S.rest at) (S.rest start) items
  pub searched : SearchedTo p number items search kept
  pub shelf_kept : Kept S start at
  pub bound : source.used + length source.left ≤ limit
  pub few : search.items ≤ source.used
  pub engine_few : kept.items ≤ source.used

pub begins : {H : Type 0} (S : shelf.Ghosts H) {p : Profile} (number : ℕ) (source : Sight)
    (search : Search) (kept : Engine) (at : H) → S.is_open at ≡ true → source ≡ fresh
    → reader.StandsFor source.reader [] → kept.profile ≡ p → StandsFor kept []
    → search ≡ record { left = number - 1; items = 0; start = 0 }
    → OnTheWay S p number source search kept at at
begins S {p} number source search kept at opened none stands profile engine begun =
    let left : source.left ≡ [] = ap (λ (s : Sight). s.left) none in
    let used : source.used ≡ 0 = ap (λ (s : Sight). s.used) none in
    let phase : source.reader.phase ≡ reader.Waiting [] = ap (λ (s : Sight). s.reader.phase) none in
    let count : search.items ≡ 0 = ap (λ (s : Search). s.items) begun in
    let skipped : search.left ≡ number - 1 = ap (λ (s : Search). s.left) begun in
    let zero : search.start ≡ 0 = ap (λ (s : Search). s.start) begun in
    record {
      items = [];
      reached = record {
        bytes = [];
        took = record {
          file_is = sym (ap (λ (l : List ℕ). ahead [] (ahead l (S.rest at))) left
              ∙ ahead_none (ahead [] (S.rest at)) ∙ ahead_none (S.rest at));
          stands = stands;
          goes_on = waiting_goes source.reader [] [] phase stands;
          used = used;
          within = omega (arith, used, ap (λ (l : List ℕ). length l) left);
        };
        items_are = no_items;
      };
      searched = record {
        profile_is = profile;
        engine_stands = engine;
        accepted = refl;
        items_are = count;
        start_is = zero;
        left_is = λ more. ap (λ (n : ℕ). case_after p n [] more) (sym skipped);
      };
      shelf_kept = kept_none S at opened;
      bound = omega (arith, used, ap (λ (l : List ℕ). length l) left);
      few = omega (arith, count);
      engine_few = omega (arith, engine.items);
    }

pub goes_on : {H : Type 0} (S : shelf.Ghosts H) {p : Profile} {number : ℕ} {source source' : Sight}
    {search search' : Search} {kept kept' : Engine} {start at at' : H} (x : Entry)
    (way : OnTheWay S p number source search kept start at)
    → Lends source' (S.rest at') (S.rest start) way.items x
    → SearchedTo p number (way.items ++ x ∷ []) search' kept'
    → Steady S None at at' → source'.used + length source'.left ≤ limit
    → source.used < source'.used → search'.items ≤ search.items + 1
    → kept'.items ≤ kept.items + 1
    → OnTheWay S p number source' search' kept' start at'
goes_on S x way lends searched steady bound on few engine = record {
  items = way.items ++ x ∷ [];
  reached = lends.reached;
  searched = searched;
  shelf_kept = kept_on S _ _ _ way.shelf_kept steady;
  bound = bound;
  few = omega (arith, way.few);
  engine_few = omega (arith, way.engine_few);
}
