-- One link more of those that are served.
use Rattle.std.proofs.Common.{◌≡◌, ◌≢◌, ℕ, suc, ◌+◌, ◌<◌, ◌≤◌, List, [], ◌∷◌, ◌++◌, length, take}
use Rattle.std.proofs.Common.{drop, map, Bool, true, false, refl, sym, subst, ap, ◌∙◌, arith}
use Rattle.std.proofs.Common.{append_assoc}
use Rattle.std.proofs.Common.{length-append, length-drop, append-nil, get_or, add-one, cond}
use Rattle.std.proofs.Common.{◌⊎◌, inl, inr, decimal}
use Rattle.std.specs.Prelude.{◌||◌, ◌==◌, nat_lt, Option, Some, None}
use Rattle.std.proofs.Math.Seq.{drop-cons}
use Rattle.std.proofs.lemmas.Bool.Decides.{Decides-eqb, nat_tests}
use Rattle.std.proofs.lemmas.Fmt.{length-decimal-le}
use Rattle.std.proofs.lemmas.Grind.{flat_map-append}
use Rattle.std.proofs.lemmas.List.{map-append, take_all, take_more}
use Rattle.std.specs.List.{list_any}
use Rattle.std.proofs.lemmas.List.Folds.{list_any-append}
use Rattle.pl_io.specs.Faults.{Rose, last_count, raised}
use Rattle.pl_io.specs.Links.{Coming, Closed}
use Rattle.pl_io.specs.Told.{HasRoom, plus}
use Rattle.pl_io.proofs.Told.{plus-plus}
use Rattle.pl_keeper.specs.Archive.{Archive}
use Rattle.pl_report.specs.ServedLines.{served_text}
use Rattle.pl_web.specs.Turns.{Serves, Turn, line_of}
use Rattle.pl_web.specs.declared.serve.Served.{Served}
use Rattle.pl_cli.specs.Serving.{ClosedAll, Handled, IsServed, Risen, ServesAll, Session, Turns}
use Rattle.pl_cli.specs.Serving.{failed_store}
use Rattle.pl_cli.specs.Serving.{fault_status, last_text, served_lines, store_failed, turned_by}
use Rattle.pl_cli.specs.declared.serving.Turned.{Turned}
use Rattle.pl_cli.specs.declared.serving.Turned.TheVariants as turned

-- the first of the links were served, and the others are to come
pub record SoMany (links : List Coming) (count : ℕ) (left : Option (List Coming))
    (Lives : Type 0) (Told Tells : Archive → Type 0) (before now : ℕ)
    (old new : Option (List (List ℕ))) (written_old written_new : Option (List ℕ))
    (failed : Bool) : Type 0 where
  pub some : count ≤ length links
  pub left_is : left ≡ Some (drop count links)
  pub handled : List Handled
  pub serves : ServesAll (take count links) Lives Told Tells before now old new handled
  pub written : written_new ≡ plus written_old (served_lines handled)
  pub failed_is : failed ≡ list_any store_failed handled

Turns_more : (links : List Coming) (link : Coming) (a mid after : Archive) (before now last : ℕ)
    (handled : List Handled) (h : Handled) → Turns links a mid before now handled
    → Turn link mid after now last h.written h.served
    → Turns (links ++ link ∷ []) a after before last (handled ++ h ∷ [])
Turns_more [] link a mid after before now last [] h all one = (
  after,
  last,
  subst (λ m. Turn link m after before last h.written h.served) all.0
      (subst (λ n. Turn link mid after n last h.written h.served) all.1 one),
  (refl, refl),
)
Turns_more [] link a mid after before now last (g ∷ handled) h all one = absurd all
Turns_more (first ∷ links) link a mid after before now last [] h all one = absurd all
Turns_more (first ∷ links) link a mid after before now last (g ∷ handled) h all one = (
  all.0,
  all.1,
  all.2,
  Turns_more links link all.0 mid after all.1 now last handled h all.3 one,
)

ClosedAll_more : (old mid new : Option (List (List ℕ))) (handled : List Handled) (h : Handled)
    → ClosedAll old handled mid → Closed mid (Some h.written) new
    → ClosedAll old (handled ++ h ∷ []) new
ClosedAll_more None mid new handled h all one = tt
ClosedAll_more (Some replies) None new handled h all one = cc
ClosedAll_more (Some replies) (Some more) new handled h all one =
    let same : more ≡ replies ++ map (λ (g : Handled). g.written) handled = cc in
    one ∙ ap (λ m. Some (m ++ h.written ∷ [])) same
    ∙ ap Some (append_assoc replies (map (λ (g : Handled). g.written) handled) (h.written ∷ []))
    ∙ ap (λ ws. Some (replies ++ ws))
    (sym (map-append (λ (g : Handled). g.written) handled (h ∷ [])))

lines_more : (handled : List Handled) (h : Handled)
    → served_lines (handled ++ h ∷ []) ≡ served_lines handled ++ served_text (line_of h.served)
lines_more handled h =
    flat_map-append (λ (g : Handled). served_text (line_of g.served)) handled (h ∷ [])
    ∙ ap (λ t. served_lines handled ++ t) (append-nil (served_text (line_of h.served)))

-- ---- the links that are left

take_next : (links : List Coming) (i : ℕ) (link : Coming) (others : List Coming)
    → drop i links ≡ link ∷ others
    → (i < length links) × (take (i + 1) links ≡ take i links ++ link ∷ [])
    × (drop (i + 1) links ≡ others)
take_next links i link others is =
    let size : length (drop i links) ≡ suc (length others) = ap length is in
    let lt : i < length links = omega (arith, length-drop i links) in
    let front : link ∷ others ≡ get_or links i link ∷ drop (suc i) links =
    sym is ∙ drop-cons links i link lt in
    let head : link ≡ get_or links i link = cc in
    let tail : others ≡ drop (suc i) links = cc in (
      lt,
      take_more links i link lt ∙ ap (λ l. take i links ++ l ∷ []) (sym head),
      rw add-one (sym tail),
    )

one_failed : (b : Bool) → failed_store (cond b turned.StoreFailed turned.Served) ≡ (b || false)
one_failed true = refl
one_failed false = refl

one_more : (links : List Coming) (count : ℕ) (left_mid left : Option (List Coming))
    (link : Coming) (others : List Coming) (Lives_mid Lives : Type 0)
    (Told Tells_mid Tells : Archive → Type 0) (before now last : ℕ)
    (old mid new : Option (List (List ℕ))) (w0 w1 w2 : Option (List ℕ)) (failed : Bool)
    (served : Served) (t : Turned)
    → drop count links ≡ link ∷ others
    → SoMany links count left_mid Lives_mid Told Tells_mid before now old mid w0 w1 failed
    → (Lives → Lives_mid) → Serves link Lives Tells_mid Tells now last mid new served
    → w2 ≡ plus w1 (served_text (line_of served)) → left ≡ Some others → t ≡ turned_by served
    → SoMany links (count + 1) left Lives Told Tells before last old new w0 w2
    (failed || failed_store t)
one_more links count left_mid left link others Lives_mid Lives Told Tells_mid Tells before now last
    old mid new w0 w1 w2 failed served t is so_far lived one line gives by =
    let next = take_next links count link others is in
    let h : Handled = record { served = served; written = one.written } in
    record {
      some = omega (arith, next.0);
      left_is = gives ∙ ap Some (sym next.2);
      handled = so_far.handled ++ h ∷ [];
      serves = record {
        each =
            length-append so_far.handled (h ∷ []) ∙ ap (λ n. n + 1) so_far.serves.each
            ∙ sym (length-append (take count links) (link ∷ [])) ∙ ap length (sym next.1);
        closed =
            ClosedAll_more old mid new so_far.handled h so_far.serves.closed one.closed;
        turns = λ lives a told.
            let turns = so_far.serves.turns (lived lives) a told in
            let turned = one.turned lives turns.0 turns.1 in (
              turned.after,
              turned.rows,
              subst (λ ls. Turns ls a turned.after before last (so_far.handled ++ h ∷ []))
                  (sym next.1)
                  (Turns_more (take count links) link a turns.0 turned.after before now last
                  so_far.handled h turns.2 turned.turn),
            );
      };
      written =
          line ∙ ap (λ o. plus o (served_text (line_of served))) so_far.written
          ∙ plus-plus w0 (served_lines so_far.handled) (served_text (line_of served))
          ∙ ap (plus w0) (sym (lines_more so_far.handled h));
      failed_is =
          ap (λ b. b || failed_store t) so_far.failed_is
          ∙ ap (λ u. list_any store_failed so_far.handled || failed_store u) by
          ∙ ap (λ b. list_any store_failed so_far.handled || b)
          (one_failed (served.status == 503))
          ∙ sym (list_any-append store_failed so_far.handled (h ∷ []));
    }

-- ---- the last line

not_less : (n m : ℕ) → m ≤ n → nat_lt n m ≡ false
not_less n m at_most = grind (arith, nat_tests)

is_less : (n m : ℕ) → n < m → nat_lt n m ≡ true
is_less n m below = grind (arith, nat_tests)

module _ (links : List Coming) (turns : ℕ) (Lives : Type 0) (Told Tells : Archive → Type 0)
    (before now : ℕ) (old new : Option (List (List ℕ))) (w0 w1 w2 : Option (List ℕ))
    (failed : Bool) (door_before door_now answer : ℕ) where
  -- by whether the links are fewer than the turns
  ended_by : (short : Bool) (count : ℕ) (left : Option (List Coming))
      → nat_lt (length links) turns ≡ short → take turns links ≡ take count links
      → SoMany links count left Lives Told Tells before now old new w0 w1 failed
      → w2 ≡ plus w1 (last_text failed short) → answer ≡ fault_status failed short
      → door_now ≡ cond short (raised door_before) door_before
      → Session links turns Lives Told Tells before now old new w0 w2 door_before door_now answer
  ended_by short count left few same so_far line status door = record {
    handled = so_far.handled;
    serves =
        subst (λ ls. ServesAll ls Lives Told Tells before now old new so_far.handled) (sym same)
        so_far.serves;
    written =
        line ∙ ap (λ o. plus o (last_text failed short)) so_far.written
        ∙ plus-plus w0 (served_lines so_far.handled) (last_text failed short)
        ∙ ap (λ f. plus w0 (served_lines so_far.handled ++ last_text f short)) so_far.failed_is
        ∙ ap (λ d. plus w0 (served_lines so_far.handled
        ++ last_text (list_any store_failed so_far.handled) d)) (sym few);
    status =
        status ∙ ap (λ f. fault_status f short) so_far.failed_is
        ∙ ap (fault_status (list_any store_failed so_far.handled)) (sym few);
    door = door ∙ ap (λ d. cond d (raised door_before) door_before) (sym few);
  }

  pub all_served : (count : ℕ) (left : Option (List Coming)) → count ≤ turns
      → (count < turns → ⊥)
      → SoMany links count left Lives Told Tells before now old new w0 w1 failed
      → w2 ≡ plus w1 (last_text failed false) → answer ≡ fault_status failed false
      → door_now ≡ door_before
      → Session links turns Lives Told Tells before now old new w0 w2 door_before door_now answer
  all_served count left within done so_far line status door =
      let same : turns ≡ count = omega arith in
      ended_by false count left (not_less (length links) turns (omega (arith, so_far.some)))
      (ap (λ n. take n links) same) so_far line status door

  pub none_left : (count : ℕ) (left : Option (List Coming)) → count < turns
      → drop count links ≡ []
      → SoMany links count left Lives Told Tells before now old new w0 w1 failed
      → w2 ≡ plus w1 (last_text failed true) → answer ≡ fault_status failed true
      → door_now ≡ raised door_before
      → Session links turns Lives Told Tells before now old new w0 w2 door_before door_now answer
  none_left count left more is so_far line status door =
      let size : length (drop count links) ≡ 0 = ap length is in
      let short : length links ≤ count = omega (arith, length-drop count links) in
      ended_by true count left (is_less (length links) turns (omega arith))
      (take_all turns links (omega arith) ∙ sym (take_all count links short)) so_far line status
      door

-- ---- one turn

pub has_less : (room : Option ℕ) (n m : ℕ) → m ≤ n → HasRoom room n → HasRoom room m
has_less None n m less has = has
has_less (Some room) n m less has = omega arith

line_small : (sent : Bool) (status : ℕ) → status < 1000 → cond sent status 0 < 1000
line_small true status small = small
line_small false status small = omega arith

-- a line of 503 is that of a reply of 503
pub store_line : (sent : Bool) (status : ℕ) → cond sent status 0 ≡ 503 → status ≡ 503
store_line true status is = is
store_line false status is = absurd (omega arith)

text_short : (n : ℕ) → n < 1000 → length (served_text n) ≤ 11
unfolding served_text
text_short n small =
    let digits : length (decimal n) ≤ 3 =
    length-decimal-le 3 n (omega arith) (omega arith) (omega arith) in
    simp length-append (omega arith)

pub line_short : (served : Served) → served.status < 1000
    → length (served_text (line_of served)) ≤ 11
line_short served small =
    text_short (line_of served) (line_small served.sent served.status small)

pub turned_failed : (served : Served) → served.status ≡ 503
    → turned.StoreFailed ≡ turned_by served
turned_failed served is =
    sym (ap (λ b. cond b turned.StoreFailed turned.Served) ((Decides-eqb served.status 503).1 is))

turned_other : (served : Served) (b : Bool) → (served.status == 503) ≡ b → served.status ≢ 503
    → turned.Served ≡ cond b turned.StoreFailed turned.Served
turned_other served true is other = absurd (other ((Decides-eqb served.status 503).0 is))
turned_other served false is other = refl

pub turned_served : (served : Served) → served.status ≢ 503 → turned.Served ≡ turned_by served
turned_served served other = turned_other served (served.status == 503) refl other

pub is_served : (t : Turned) → t ≢ turned.NoLink → t ≢ turned.Unwritten → IsServed t
is_served turned.Served some out = tt
is_served turned.StoreFailed some out = tt
is_served turned.NoLink some out = some refl
is_served turned.Unwritten some out = out refl

-- ---- the keeper's count

rose_by : (mid now : ℕ) (b : Bool) → nat_lt mid last_count ≡ b → Rose mid now
    → (now ≡ mid + 1) ⊎ (now ≡ last_count)
rose_by mid now true is rose = inl (grind (arith, nat_tests))
rose_by mid now false is rose = inr (grind (arith, nat_tests))

rose_cases : (mid now : ℕ) → Rose mid now → (now ≡ mid + 1) ⊎ (now ≡ last_count)
rose_cases mid now rose = rose_by mid now (nat_lt mid last_count) refl rose

risen_by : (before mid now : ℕ) → before ≤ mid → Rose mid now → Risen before now
risen_by before mid now most rose =
    elim (rose_cases mid now rose) [ inl one ↦ inl (omega arith) | inr last ↦ inr last ]

risen_more_by : (before mid now : ℕ) → Risen before mid → Rose mid now → Risen before now
risen_more_by before mid now risen rose =
    elim risen [
      | inl below ↦ risen_by before mid now (omega arith) rose
      | inr last ↦ inr (omega arith)
    ]

or_true : (b : Bool) → (b || false) ≡ true → b ≡ true
or_true true is = refl
or_true false is = is

or_false : (b : Bool) → (b || false) ≡ false → b ≡ false
or_false true is = is
or_false false is = refl

pub risen_more : (before mid now : ℕ) (failed : Bool) (t : Turned) → IsServed t
    → (t ≡ turned.StoreFailed → Rose mid now) → (t ≡ turned.Served → now ≡ mid)
    → (failed ≡ true → Risen before mid) → (failed ≡ false → mid ≡ before)
    → (failed || failed_store t) ≡ true → Risen before now
risen_more before mid now failed turned.Served served store kept risen unrisen is =
    subst (Risen before) (sym (kept refl)) (risen (or_true failed is))
risen_more before mid now true turned.StoreFailed served store kept risen unrisen is =
    risen_more_by before mid now (risen refl) (store refl)
risen_more before mid now false turned.StoreFailed served store kept risen unrisen is =
    let same : mid ≡ before = unrisen refl in
    risen_by before mid now (omega arith) (store refl)
risen_more before mid now failed turned.NoLink served store kept risen unrisen is = absurd served
risen_more before mid now failed turned.Unwritten served store kept risen unrisen is =
    absurd served

pub unrisen_more : (before mid now : ℕ) (failed : Bool) (t : Turned) → IsServed t
    → (t ≡ turned.Served → now ≡ mid) → (failed ≡ false → mid ≡ before)
    → (failed || failed_store t) ≡ false → now ≡ before
unrisen_more before mid now failed turned.Served served kept unrisen is =
    kept refl ∙ unrisen (or_false failed is)
unrisen_more before mid now true turned.StoreFailed served kept unrisen is = cc
unrisen_more before mid now false turned.StoreFailed served kept unrisen is = cc
unrisen_more before mid now failed turned.NoLink served kept unrisen is = absurd served
unrisen_more before mid now failed turned.Unwritten served kept unrisen is = absurd served

pub still_sure : (failed : Bool) (t : Turned) → IsServed t → failed ≡ false
    → t ≢ turned.StoreFailed → (failed || failed_store t) ≡ false
still_sure true t served is never = cc
still_sure false turned.Served served is never = refl
still_sure false turned.StoreFailed served is never = absurd (never refl)
still_sure false turned.NoLink served is never = absurd served
still_sure false turned.Unwritten served is never = absurd served

-- ---- the first turn, and one more

plus_nothing : (told : Option (List ℕ)) → told ≡ plus told []
plus_nothing None = refl
plus_nothing (Some bytes) = ap Some (sym (append-nil bytes))

closed_none : (told : Option (List (List ℕ))) → ClosedAll told [] told
closed_none None = tt
closed_none (Some replies) = ap Some (sym (append-nil replies))

pub none_served : (links : List Coming) (left : Option (List Coming)) (Lives : Type 0)
    (Told : Archive → Type 0) (count : ℕ) (replies : Option (List (List ℕ)))
    (written : Option (List ℕ)) → left ≡ Some links
    → SoMany links 0 left Lives Told Told count count replies replies written written false
none_served links left Lives Told count replies written is = record {
  some = omega arith;
  left_is = is;
  handled = [];
  serves = record {
    each = refl;
    closed = closed_none replies;
    turns = λ lives a told. (a, told, (refl, refl));
  };
  written = plus_nothing written;
  failed_is = refl;
}

module _ (links : List Coming) (count : ℕ) (left_mid left : Option (List Coming))
    (Lives_mid Lives : Type 0) (Told Tells_mid Tells : Archive → Type 0) (before now last : ℕ)
    (old mid new : Option (List (List ℕ))) (w0 w1 w2 : Option (List ℕ)) (failed : Bool)
    (t : Turned)
    (so_far : SoMany links count left_mid Lives_mid Told Tells_mid before now old mid w0 w1 failed)
    (lived : Lives → Lives_mid) (empty : left_mid ≡ Some [] → t ≡ turned.NoLink)
    (some : t ≢ turned.NoLink)
    (gives : (link : Coming) (others : List Coming) → left_mid ≡ Some (link ∷ others)
    → (t ≢ turned.NoLink) × (left ≡ Some others))
    (serves : (link : Coming) (others : List Coming) → left_mid ≡ Some (link ∷ others)
    → IsServed t → (served : Served) × Serves link Lives Tells_mid Tells now last mid new served
    × (w2 ≡ plus w1 (served_text (line_of served))) × (t ≡ turned_by served))
    (is : IsServed t) where
  step_by : (ls : List Coming) → drop count links ≡ ls
      → SoMany links (count + 1) left Lives Told Tells before last old new w0 w2
      (failed || failed_store t)
  step_by [] none = absurd (some (empty (so_far.left_is ∙ ap Some none)))
  step_by (link ∷ others) one =
      let first : left_mid ≡ Some (link ∷ others) = so_far.left_is ∙ ap Some one in
      let found = serves link others first is in
      one_more links count left_mid left link others Lives_mid Lives Told Tells_mid Tells before
      now last old mid new w0 w1 w2 failed found.0 t one so_far lived found.1 found.2
      (gives link others first).1 found.3

  pub step : SoMany links (count + 1) left Lives Told Tells before last old new w0 w2
      (failed || failed_store t)
  step = step_by (drop count links) refl
