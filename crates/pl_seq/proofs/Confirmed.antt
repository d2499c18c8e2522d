-- A run is confirmed where an Ack or Nak of it answered a TLP of it.
use Rattle.std.proofs.Common.{◌≡◌, ℕ, ◌≤◌, Bool, true, false, List, [], ◌∷◌, ◌++◌, refl, sym, ap}
use Rattle.std.proofs.Common.{◌∙◌, arith}
use Rattle.std.proofs.lemmas.Grind.{common_steps}
use Rattle.pl_base.specs.declared.link.Body.{Body}
use Rattle.pl_seq.specs.Runs.{is_confirmed, newly_answered}
use Rattle.pl_seq.specs.History.{Event, Tlp, Ack, Gap, begins, begun, run}
use Rattle.pl_seq.specs.Laws.{ConfirmedBy}
use Rattle.pl_seq.proofs.Terms.{begun-grows, stays}

-- a confirmed run stays so until one begins
more : (event : Event) (past : List Event) → begins (run past) event ≡ false
    → is_confirmed (run past) ≡ true → is_confirmed (run (event ∷ past)) ≡ true
more (Tlp number bytes body at) past none h = grind (arith, common_steps)
more (Ack number at) past none h = grind (arith, common_steps)
more Gap past none h = cc

confirmed-at : (newer older : List Event) (number at : ℕ)
    → 1 ≤ newly_answered (run older) number
    → begun (newer ++ Ack number at ∷ older) ≡ begun older
    → is_confirmed (run (newer ++ Ack number at ∷ older)) ≡ true
confirmed-at [] older number at some same = grind (arith, common_steps)
confirmed-at (event ∷ newer) older number at some same =
    let past = Ack number at ∷ older in
    let low : begun older ≤ begun past = grind (arith, common_steps) in
    let high : begun past ≤ begun (event ∷ newer ++ past) = begun-grows (event ∷ newer) past in
    let ack : begun past ≡ begun older = omega (arith, low, high, same) in
    let one = stays event newer past (same ∙ sym ack) in
    more event (newer ++ past) one.0 (confirmed-at newer older number at some (one.1 ∙ ack))

pub confirmed-by : (past : List Event) → ConfirmedBy past → is_confirmed (run past) ≡ true
confirmed-by past by =
    ap (λ (xs : List Event). is_confirmed (run xs)) by.split
    ∙ confirmed-at by.newer by.older by.number by.at by.answers
    (sym (ap begun by.split) ∙ by.same_run)

later : (event : Event) (past : List Event) → begins (run past) event ≡ false
    → ConfirmedBy past → ConfirmedBy (event ∷ past)
later event past none by = record {
  newer = event ∷ by.newer;
  older = by.older;
  number = by.number;
  at = by.at;
  split = ap (λ (xs : List Event). event ∷ xs) by.split;
  same_run = grind (arith, common_steps, by.same_run, none);
  answers = by.answers;
}

-- a TLP behind which the run is confirmed begins none
tlp-confirmed : (number : ℕ) (bytes : List ℕ) (body : Body) (at : ℕ) (past : List Event)
    → is_confirmed (run (Tlp number bytes body at ∷ past)) ≡ true
    → (begins (run past) (Tlp number bytes body at) ≡ false) × (is_confirmed (run past) ≡ true)
tlp-confirmed number bytes body at past h =
    (grind (arith, common_steps), grind (arith, common_steps))

-- nor does such an Ack or Nak, which answers one where the run wasn't confirmed before
ack-stays : (number at : ℕ) (past : List Event)
    → is_confirmed (run (Ack number at ∷ past)) ≡ true
    → begins (run past) (Ack number at) ≡ false
ack-stays number at past h = grind (arith, common_steps)

ack-answers : (number at : ℕ) (past : List Event)
    → is_confirmed (run (Ack number at ∷ past)) ≡ true → is_confirmed (run past) ≡ false
    → 1 ≤ newly_answered (run past) number
ack-answers number at past h e = grind (arith, common_steps)

ack-confirmed : (number at : ℕ) (past : List Event) (before : Bool)
    → is_confirmed (run past) ≡ before → is_confirmed (run (Ack number at ∷ past)) ≡ true
    → (is_confirmed (run past) ≡ true → ConfirmedBy past) → ConfirmedBy (Ack number at ∷ past)
ack-confirmed number at past true e h by =
    later (Ack number at) past (ack-stays number at past h) (by e)
ack-confirmed number at past false e h by = record {
  newer = [];
  older = past;
  number = number;
  at = at;
  split = refl;
  same_run = grind (arith, common_steps, ack-stays number at past h);
  answers = ack-answers number at past h e;
}

pub confirmed-some : (past : List Event) → is_confirmed (run past) ≡ true → ConfirmedBy past
confirmed-some [] h = cc
confirmed-some (Gap ∷ past) h = cc
confirmed-some (Tlp number bytes body at ∷ past) h =
    let w = tlp-confirmed number bytes body at past h in
    later (Tlp number bytes body at) past w.0 (confirmed-some past w.1)
confirmed-some (Ack number at ∷ past) h =
    ack-confirmed number at past (is_confirmed (run past)) refl h (confirmed-some past)
