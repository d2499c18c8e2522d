-- In a span that no gap began the terms of the run are those of the span.
use Rattle.std.proofs.Common.{◌≡◌, ℕ, false, List, [], ◌∷◌, length, Some, refl, ap, ◌∙◌, arith}
use Rattle.std.proofs.lemmas.Grind.{common_steps}
use Rattle.pl_base.specs.declared.link.Body.{Body}
use Rattle.pl_base.specs.declared.link.Body.TheVariants.{Whole, Nullified, Spoiled}
use Rattle.pl_seq.specs.Sent.{Sent}
use Rattle.pl_seq.specs.Runs.{Run, has_original, is_valid, newly_answered, place_of}
use Rattle.pl_seq.specs.History.{Event, Tlp, Ack, Gap, answered, begins, begun, is_torn}
use Rattle.pl_seq.specs.History.{latest_taken}
use Rattle.pl_seq.specs.History.{original_place, place_after, run, spoiled_since, taken, told}
use Rattle.pl_seq.specs.History.{unacknowledged}
use Rattle.pl_seq.specs.Fresh as fresh
use Rattle.pl_seq.specs.Rules.{lane_verdicts, repeats_unacknowledged}

-- one run, from number 0 on
pub fresh-base : (past : List Event) → is_torn past ≡ false → (told past).base ≡ Some 0
fresh-base [] whole = refl
fresh-base (Gap ∷ past) whole = cc
fresh-base (Tlp number bytes body at ∷ past) whole =
    grind (arith, common_steps, fresh-base past whole)
fresh-base (Ack number at ∷ past) whole = grind (arith, common_steps, fresh-base past whole)

fresh-begins : (event : Event) (past : List Event) → is_torn (event ∷ past) ≡ false
    → begins (run past) event ≡ false
fresh-begins Gap past whole = cc
fresh-begins (Tlp number bytes body at) past whole =
    grind (arith, common_steps, fresh-base past whole)
fresh-begins (Ack number at) past whole = grind (arith, common_steps, fresh-base past whole)

pub fresh-begun : (past : List Event) → is_torn past ≡ false → begun past ≡ 0
fresh-begun [] whole = refl
fresh-begun (Gap ∷ past) whole = cc
fresh-begun (Tlp number bytes body at ∷ past) whole =
    let none = fresh-begins (Tlp number bytes body at) past whole in
    grind (arith, common_steps, fresh-begun past whole, none)
fresh-begun (Ack number at ∷ past) whole =
    let none = fresh-begins (Ack number at) past whole in
    grind (arith, common_steps, fresh-begun past whole, none)

-- by numbers alone
abbrev at-zero : ℕ → ℕ → Run
at-zero count replies =
    record { torn = false; base = Some 0; next = count; answered = replies }

place-at-zero : (next replies number : ℕ) (body : Body)
    → place_of (at-zero next replies) number body ≡ fresh.place_of next number body
place-at-zero next replies number Nullified = refl
place-at-zero next replies number Spoiled = refl
place-at-zero next replies number Whole = grind (arith, common_steps)

module _ (past : List Event) (whole : is_torn past ≡ false) where
  run-at-zero : run past ≡ at-zero (length (taken past)) (answered past)
  run-at-zero = grind (arith, common_steps, fresh-base past whole, whole)

  place-fresh : (number : ℕ) (body : Body)
      → place_after past number body ≡ fresh.place_of (length (taken past)) number body
  place-fresh number body =
      ap (λ (r : Run). place_of r number body) run-at-zero
      ∙ place-at-zero (length (taken past)) (answered past) number body

  valid-fresh : (number : ℕ)
      → is_valid (run past) number ≡ fresh.is_valid (length (taken past)) (answered past) number
  valid-fresh number = grind (arith, common_steps, fresh-base past whole)

  newly-fresh : (number : ℕ) → newly_answered (run past) number
      ≡ fresh.newly_answered (length (taken past)) (answered past) number
  newly-fresh number = grind (arith, common_steps, fresh-base past whole, valid-fresh number)

taken-fresh : (past : List Event) → is_torn past ≡ false → taken past ≡ fresh.taken past
taken-fresh [] whole = refl
taken-fresh (Gap ∷ past) whole = cc
taken-fresh (Tlp number bytes body at ∷ past) whole =
    let none = fresh-begins (Tlp number bytes body at) past whole in
    grind (arith, common_steps, taken-fresh past whole, place-fresh past whole number body, none)
taken-fresh (Ack number at ∷ past) whole =
    let none = fresh-begins (Ack number at) past whole in
    grind (arith, common_steps, taken-fresh past whole, none)

answered-fresh : (past : List Event) → is_torn past ≡ false → answered past ≡ fresh.answered past
answered-fresh [] whole = refl
answered-fresh (Gap ∷ past) whole = cc
answered-fresh (Tlp number bytes body at ∷ past) whole =
    let none = fresh-begins (Tlp number bytes body at) past whole in
    grind (arith, common_steps, answered-fresh past whole, none)
answered-fresh (Ack number at ∷ past) whole =
    let none = fresh-begins (Ack number at) past whole in
    grind (
      arith,
      common_steps,
      answered-fresh past whole,
      taken-fresh past whole,
      newly-fresh past whole number,
      none,
    )

pub place-same : (past : List Event) → is_torn past ≡ false → (number : ℕ) (body : Body)
    → place_after past number body ≡ fresh.place_after past number body
place-same past whole number body =
    place-fresh past whole number body
    ∙ ap (λ (xs : List Sent). fresh.place_of (length xs) number body) (taken-fresh past whole)

latest_taken-fresh : (past : List Event) → is_torn past ≡ false
    → latest_taken past ≡ fresh.latest_taken past
latest_taken-fresh [] whole = refl
latest_taken-fresh (Gap ∷ past) whole = cc
latest_taken-fresh (Tlp number bytes body at ∷ past) whole =
    grind (arith, common_steps, latest_taken-fresh past whole, place-same past whole number body)
latest_taken-fresh (Ack number at ∷ past) whole = latest_taken-fresh past whole

spoiled_since-fresh : (past : List Event) → is_torn past ≡ false
    → spoiled_since past ≡ fresh.spoiled_since past
spoiled_since-fresh [] whole = refl
spoiled_since-fresh (Gap ∷ past) whole = cc
spoiled_since-fresh (Tlp number bytes body at ∷ past) whole =
    grind (arith, common_steps, spoiled_since-fresh past whole, place-same past whole number body)
spoiled_since-fresh (Ack number at ∷ past) whole = spoiled_since-fresh past whole

module _ (past : List Event) (whole : is_torn past ≡ false) where
  original-fresh : (number : ℕ) → original_place past number ≡ fresh.original_place past number
  original-fresh number =
      grind (arith, common_steps, fresh-base past whole, taken-fresh past whole)

  has-original : (number : ℕ)
      → has_original (run past) number ≡ fresh.is_repeat_of (fresh.next past) number
  has-original number =
      grind (arith, common_steps, fresh-base past whole, taken-fresh past whole)

  repeats-fresh : (number : ℕ) (body : Body)
      → repeats_unacknowledged past number body ≡ fresh.repeats_unacknowledged past number body
  repeats-fresh number Nullified = refl
  repeats-fresh number Spoiled = refl
  repeats-fresh number Whole =
      grind (
        arith,
        common_steps,
        place-same past whole number Whole,
        has-original number,
        answered-fresh past whole,
        original-fresh number,
      )

  pub unacknowledged-fresh : unacknowledged past ≡ fresh.unacknowledged past
  unacknowledged-fresh =
      grind (arith, common_steps, taken-fresh past whole, answered-fresh past whole)

pub verdicts-fresh : (past : List Event) → is_torn past ≡ false → (event : Event)
    → lane_verdicts past event ≡ fresh.verdicts past event
unfolding lane_verdicts fresh.verdicts
verdicts-fresh past whole Gap = refl
verdicts-fresh past whole (Ack number at) =
    grind (
      arith,
      common_steps,
      whole,
      valid-fresh past whole number,
      taken-fresh past whole,
      answered-fresh past whole,
      latest_taken-fresh past whole,
    )
verdicts-fresh past whole (Tlp number bytes body at) =
    let none = fresh-begins (Tlp number bytes body at) past whole in
    grind (
      arith,
      common_steps,
      whole,
      place-same past whole number body,
      repeats-fresh past whole number body,
      taken-fresh past whole,
      answered-fresh past whole,
      latest_taken-fresh past whole,
      spoiled_since-fresh past whole,
      original-fresh past whole number,
      none,
    )
