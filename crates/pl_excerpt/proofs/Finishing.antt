-- A capture of which no more is read: at its end, behind the most that is read, or at a fault.
use Rattle.std.proofs.Common.{◌≡◌, ℕ, ◌+◌, ◌-◌, ◌<◌, ◌≤◌, true, false, List, [], ◌∷◌, ◌++◌}
use Rattle.std.proofs.Common.{length, length-drop, length-take, take, drop, refl, ap, sym, subst, ◌∙◌, arith}
use Rattle.std.proofs.Common.{append-nil, length-append, nat_lt, Option, Some, None, inl, inr}
use Rattle.std.proofs.Math.ListN.{drop_of_length-le}
use Rattle.std.proofs.lemmas.Bool.{cases_lt, ltb-true, ltb-false, le-ltb, lt-ltb}
use Rattle.std.proofs.lemmas.List.{take_all}
use Rattle.pl_base.specs.declared.stop.Malformed.TheVariants.{Truncated}
use Rattle.pl_base.specs.declared.stop.Stop.{Stop}
use Rattle.pl_base.specs.declared.stop.Stop.TheVariants as stop
use Rattle.pl_io.specs.Told.{ahead, AtEnd}
use Rattle.pl_capture.specs.Entry.{Entry}
use Rattle.pl_capture.specs.Reading.{Ending, reading, Ended, Bad, Open}
use Rattle.pl_capture.specs.Standing.{StandsFor, Phase, Waiting, Holding, Done, Stopped}
use Rattle.pl_capture.specs.Standing.{finished_step, last_answer}
use Rattle.pl_capture.specs.declared.step.Step.TheVariants as step
use Rattle.pl_excerpt.specs.declared.outcome.Outcome.TheVariants as outcome
use Rattle.pl_excerpt.specs.declared.source.Ended.TheVariants as ended
use Rattle.pl_excerpt.specs.Answer.{answer_at, limit}
use Rattle.pl_excerpt.specs.Sources.{Sight, TookBytes, Reached, HasAll}
use Rattle.pl_excerpt.proofs.Taking.{front_read, told}

pub none_left : (xs : List ℕ) → nat_lt 0 (length xs) ≡ false → xs ≡ []
none_left [] h = refl
none_left (x ∷ xs) h = absurd (omega (arith, ltb-false _ _ h))

pub some_left : (xs : List ℕ) → nat_lt 0 (length xs) ≡ true → 0 < length xs
some_left xs h = ltb-true _ _ h

pub left_lt : (a b n : ℕ) → n ≡ b - a → nat_lt a b ≡ nat_lt 0 n
left_lt a b n h =
    elim (cases_lt a b) [
      | inl less ↦ lt-ltb a b less ∙ sym (lt-ltb 0 n (omega arith))
      | inr le ↦ le-ltb a b le ∙ sym (le-ltb 0 n (omega arith))
    ]

-- the bytes of a file of which nothing is left are the file
end_rest : (rest : Option (List ℕ)) (r : List ℕ) → rest ≡ Some r → AtEnd rest → r ≡ []
end_rest (Some bytes) r h e = cc (h, e)
end_rest None r h e = absurd cc

pub all_taken : (s : Sight) (rest file : Option (List ℕ)) (bytes whole : List ℕ)
    → TookBytes s rest file bytes → s.left ≡ [] → AtEnd rest → file ≡ Some whole → whole ≡ bytes
all_taken s rest file bytes whole t none at_end is =
    let behind = told whole t is in
    behind.2 ∙ ap (λ (l : List ℕ). bytes ++ (l ++ behind.0)) none
    ∙ ap (λ (l : List ℕ). bytes ++ l) (end_rest rest behind.0 behind.1 at_end)
    ∙ append-nil bytes

-- what a reader says at the end, and how the capture ends
ends_by : (e : Ending) (t : Stop) → step.Bad t ≡ last_answer e → ((s : Stop) → e ≡ Bad s → ⊥)
    → answer_at e false ≡ outcome.Stop t
ends_by Ended t h goes = absurd cc
ends_by (Bad s) t h goes = absurd (goes s refl)
ends_by (Open place pending) t h goes =
    let same : t ≡ stop.Malformed Truncated place = cc h in
    sym (ap outcome.Stop same)

ended_by : (e : Ending) (n : ℕ) → step.End n ≡ last_answer e → answer_at e false ≡ outcome.NoVerdict
ended_by Ended n h = refl
ended_by (Bad s) n h = absurd cc
ended_by (Open place pending) n h = absurd cc

-- the file has no more bytes
whole_read : (s : Sight) (rest file : Option (List ℕ)) (items : List Entry) (whole : List ℕ)
    → s.left ≡ [] → AtEnd rest → (r : Reached s rest file items) → file ≡ Some whole
    → (take limit whole ≡ r.bytes) × (nat_lt limit (length whole) ≡ false)
whole_read s rest file items whole none at_end r is =
    let same = all_taken s rest file r.bytes whole r.took none at_end is in
    let le : length whole ≤ limit =
    omega (arith, r.took.within, r.took.used, ap (λ (l : List ℕ). length l) same) in
    (take_all limit whole le ∙ same, le-ltb _ _ le)

pub finish_stops : (s : Sight) (t : Stop) (rest file : Option (List ℕ)) (items : List Entry)
    → s.left ≡ [] → AtEnd rest
    → ((bytes : List ℕ) → StandsFor s.reader bytes → step.Bad t ≡ last_answer (reading bytes).ending)
    → Reached s rest file items → HasAll (ended.Refused t) file items
finish_stops s t rest file items none at_end answers r = record {
  items_are = λ whole is.
      let here = whole_read s rest file items whole none at_end r is in
      ap (λ (b : List ℕ). (reading b).items) here.0 ∙ r.items_are;
  ending_is = λ whole is.
      let here = whole_read s rest file items whole none at_end r is in
      ap (λ (b : List ℕ). answer_at (reading b).ending (nat_lt limit (length whole))) here.0
      ∙ ap (answer_at (reading r.bytes).ending) here.1
      ∙ ends_by (reading r.bytes).ending t (answers r.bytes r.took.stands) r.took.goes_on;
}

pub finish_whole : (s : Sight) (n : ℕ) (rest file : Option (List ℕ)) (items : List Entry)
    → s.left ≡ [] → AtEnd rest
    → ((bytes : List ℕ) → StandsFor s.reader bytes → step.End n ≡ last_answer (reading bytes).ending)
    → Reached s rest file items → HasAll ended.Whole file items
finish_whole s n rest file items none at_end answers r = record {
  items_are = λ whole is.
      let here = whole_read s rest file items whole none at_end r is in
      ap (λ (b : List ℕ). (reading b).items) here.0 ∙ r.items_are;
  ending_is = λ whole is.
      let here = whole_read s rest file items whole none at_end r is in
      ap (λ (b : List ℕ). answer_at (reading b).ending (nat_lt limit (length whole))) here.0
      ∙ ap (answer_at (reading r.bytes).ending) here.1
      ∙ ended_by (reading r.bytes).ending n (answers r.bytes r.took.stands);
}

pub no_more : (place : ℕ) (phase : Phase) → step.More ≡ finished_step place phase → ⊥
no_more place (Waiting pending) h = cc
no_more place (Holding x) h = cc
no_more place Done h = cc
no_more place (Stopped s) h = cc

pub no_item : (place n : ℕ) (phase : Phase) → step.Item n ≡ finished_step place phase → ⊥
no_item place n (Waiting pending) h = cc
no_item place n (Holding x) h = cc
no_item place n Done h = cc
no_item place n (Stopped s) h = cc

-- ---- the most that is read

longer_end : (e : Ending) → ((s : Stop) → e ≡ Bad s → ⊥) → answer_at e true ≡ outcome.Length
longer_end Ended goes = refl
longer_end (Bad s) goes = absurd (goes s refl)
longer_end (Open place pending) goes = refl

ahead_some : (rest rest' : Option (List ℕ)) (extra r : List ℕ) → rest ≡ ahead extra rest'
    → rest ≡ Some r → 0 < length extra → 0 < length r
ahead_some rest None extra r h is some = absurd cc
ahead_some rest (Some more) extra r h is some =
    let same : extra ++ more ≡ r = cc (sym h ∙ is) in
    omega (arith, ap (λ (l : List ℕ). length l) same, length-append extra more)

-- the file has more bytes than are read
more_read : (s : Sight) (rest rest' file : Option (List ℕ)) (extra : List ℕ) (items : List Entry)
    (whole : List ℕ) → s.left ≡ [] → s.used ≡ limit → rest ≡ ahead extra rest'
    → 0 < length extra → (r : Reached s rest file items) → file ≡ Some whole
    → (take limit whole ≡ r.bytes) × (nat_lt limit (length whole) ≡ true)
more_read s rest rest' file extra items whole none full read some r is =
    let behind = told whole r.took is in
    let file_is : whole ≡ r.bytes ++ behind.0 =
    behind.2 ∙ ap (λ (l : List ℕ). r.bytes ++ (l ++ behind.0)) none in
    let size : length r.bytes ≡ limit = sym r.took.used ∙ full in
    let zero : limit - length r.bytes ≡ 0 = omega arith in
    let front : take limit (r.bytes ++ behind.0) ≡ r.bytes =
    front_read r.bytes behind.0 limit (omega arith)
    ∙ ap (λ (n : ℕ). r.bytes ++ take n behind.0) zero ∙ append-nil r.bytes in
    let more : 0 < length behind.0 = ahead_some rest rest' extra behind.0 read behind.1 some in
    let long : limit < length whole =
    omega (arith, ap (λ (l : List ℕ). length l) file_is, length-append r.bytes behind.0) in
    (ap (take limit) file_is ∙ front, lt-ltb _ _ long)

pub too_long : (s : Sight) (rest rest' file : Option (List ℕ)) (extra : List ℕ)
    (items : List Entry) → s.left ≡ [] → s.used ≡ limit → rest ≡ ahead extra rest'
    → 0 < length extra → Reached s rest file items → HasAll ended.TooLong file items
too_long s rest rest' file extra items none full read some r = record {
  items_are = λ whole is.
      let here = more_read s rest rest' file extra items whole none full read some r is in
      ap (λ (b : List ℕ). (reading b).items) here.0 ∙ r.items_are;
  ending_is = λ whole is.
      let here = more_read s rest rest' file extra items whole none full read some r is in
      ap (λ (b : List ℕ). answer_at (reading b).ending (nat_lt limit (length whole))) here.0
      ∙ ap (answer_at (reading r.bytes).ending) here.1
      ∙ longer_end (reading r.bytes).ending r.took.goes_on;
}

-- ---- the next piece

pub ahead_none : (rest : Option (List ℕ)) → ahead [] rest ≡ rest
ahead_none None = refl
ahead_none (Some bytes) = refl

-- nothing is left, whatever the buffer holds
pub still_none : (place filled : ℕ) (old new : List ℕ) → drop place (take filled old) ≡ []
    → filled ≤ length old → drop place (take filled new) ≡ []
still_none place filled old new none fits =
    let before = ap (λ (l : List ℕ). length l) none in
    drop_of_length-le (take filled new)
    (omega (
      arith,
      before,
      length-drop place (take filled old),
      length-take filled old,
      length-take filled new,
    ))

pub refilled : (s : Sight) (piece left : List ℕ) (rest rest' file : Option (List ℕ))
    (items : List Entry) → s.left ≡ [] → left ≡ piece → rest ≡ ahead piece rest'
    → s.used + length left ≤ limit → Reached s rest file items
    → Reached (record { reader = s.reader; left = left; used = s.used }) rest' file items
refilled s piece left rest rest' file items none same read fits r = record {
  bytes = r.bytes;
  took = record {
    file_is = r.took.file_is ∙ ap (λ (l : List ℕ). ahead r.bytes (ahead l rest)) none
        ∙ ap (ahead r.bytes) (ahead_none rest ∙ read ∙ ap (λ (l : List ℕ). ahead l rest') (sym same));
    stands = r.took.stands;
    goes_on = r.took.goes_on;
    used = r.took.used;
    within = fits;
  };
  items_are = r.items_are;
}

-- a read that gave nothing
pub read_none : (n : ℕ) (buf : List ℕ) (rest rest' : Option (List ℕ)) → n ≡ 0
    → rest ≡ ahead (take n buf) rest' → rest ≡ rest'
read_none n buf rest rest' zero read =
    read ∙ ap (λ (k : ℕ). ahead (take k buf) rest') zero ∙ ahead_none rest'

pub still_at_end : (rest rest' : Option (List ℕ)) → rest ≡ rest' → AtEnd rest → AtEnd rest'
still_at_end rest rest' same at_end = subst AtEnd same at_end

pub emptied : (s : Sight) (left : List ℕ) (rest rest' file : Option (List ℕ))
    (items : List Entry) → s.left ≡ [] → left ≡ [] → rest ≡ rest' → Reached s rest file items
    → Reached (record { reader = s.reader; left = left; used = s.used }) rest' file items
emptied s left rest rest' file items none same read r =
    refilled s [] left rest rest' file items none same (read ∙ sym (ahead_none rest'))
    (omega (
      arith,
      r.took.within,
      ap (λ (l : List ℕ). length l) none,
      ap (λ (l : List ℕ). length l) same,
    )) r
