-- A file of which no more is read: at its end, behind the most that is read, or at a fault.
use Rattle.std.proofs.Common.{◌≡◌, ◌≢◌, ℕ, ◌+◌, ◌<◌, ◌≤◌, Bool, true, false, List, [], ◌∷◌, ◌++◌}
use Rattle.std.proofs.Common.{length, length-drop, length-take, take, drop, refl, ap, sym, subst, ◌∙◌, arith, append_assoc}
use Rattle.std.proofs.Common.{append-nil, length-append, nat_lt, Option, Some, None}
use Rattle.std.proofs.Common.{Result, Ok, Err, ◌-◌, ◌⊎◌, inl, inr}
use Rattle.std.proofs.Math.ListN.{drop_of_length-le}
use Rattle.std.proofs.lemmas.Bool.{cases_lt, ltb-true, ltb-false, le-ltb, lt-ltb}
use Rattle.pl_base.specs.declared.stop.Malformed.TheVariants.{Truncated}
use Rattle.pl_base.specs.declared.stop.Stop.{Stop}
use Rattle.pl_base.specs.declared.stop.Stop.TheVariants as stop
use Rattle.pl_io.specs.Told.{ahead, AtEnd}
use Rattle.pl_io.proofs.Told.{ahead-ahead}
use Rattle.pl_capture.specs.Entry.{Entry}
use Rattle.pl_capture.specs.Reading.{Reading, Ending, reading, Ended, Bad, Open, IsEndTime}
use Rattle.pl_capture.specs.Reading.{end_time}
use Rattle.pl_capture.specs.Standing.{Standing, StandsFor, Phase, Waiting, Holding, Done, Stopped}
use Rattle.pl_capture.specs.Standing.{finished_step, last_answer, lent}
use Rattle.pl_capture.specs.declared.step.Step.{Step}
use Rattle.pl_capture.specs.declared.step.Step.TheVariants as step
use Rattle.pl_capture.proofs.Wholes.{whole_trails}
use Rattle.pl_merge.specs.declared.end.End.{End}
use Rattle.pl_merge.specs.declared.end.End.TheVariants as end
use Rattle.pl_merge.specs.declared.end.Halt.{Halt}
use Rattle.pl_merge.specs.declared.end.Halt.TheVariants as halt
use Rattle.pl_merge.specs.Lawful.{Lawful, end_by, end_of_file, lawful_of, limit}
use Rattle.pl_merge.specs.Merged.{is_ended}
use Rattle.pl_merge.specs.Sides.{Lends, Sight, TookBytes, Reached, Over, Stops, Waits}
use Rattle.pl_merge.proofs.Lawfuls.{more_ends, whole_ends}
use Rattle.pl_merge.proofs.Taking.{bad_unlawful, told}

pub none_left : (xs : List ℕ) → nat_lt 0 (length xs) ≡ false → xs ≡ []
none_left [] h = refl
none_left (x ∷ xs) h = absurd (omega (arith, ltb-false _ _ h))

pub some_left : (xs : List ℕ) → nat_lt 0 (length xs) ≡ true → 0 < length xs
some_left xs h = ltb-true _ _ h

pub left_lt : (a b n : ℕ) → n ≡ b - a → nat_lt a b ≡ nat_lt 0 n
left_lt a b n h =
    elim (cases_lt a b) [
      | inl less ↦ lt-ltb a b less ∙ sym (lt-ltb 0 n (omega arith))
      | inr le ↦ le-ltb a b le ∙ sym (le-ltb 0 n (omega arith))
    ]

-- the bytes of a file of which nothing is left are the file
end_rest : (rest : Option (List ℕ)) (r : List ℕ) → rest ≡ Some r → AtEnd rest → r ≡ []
end_rest (Some bytes) r h e = cc (h, e)
end_rest None r h e = absurd cc

pub all_taken : (s : Sight) (rest file : Option (List ℕ)) (bytes whole : List ℕ)
    → TookBytes s rest file bytes → s.left ≡ [] → AtEnd rest → file ≡ Some whole → whole ≡ bytes
all_taken s rest file bytes whole t none at_end is =
    let behind = told whole t is in
    behind.2 ∙ ap (λ (l : List ℕ). bytes ++ (l ++ behind.0)) none
    ∙ ap (λ (l : List ℕ). bytes ++ l) (end_rest rest behind.0 behind.1 at_end)
    ∙ append-nil bytes

rest_none : (s : Sight) (rest file : Option (List ℕ)) (bytes whole : List ℕ)
    → TookBytes s rest file bytes → AtEnd rest → file ≡ Some whole → rest ≡ Some []
rest_none s rest file bytes whole t at_end is =
    let behind = told whole t is in
    behind.1 ∙ ap Some (end_rest rest behind.0 behind.1 at_end)

-- what a reader says at the end, and how the file ends
ends_by : (e : Ending) (t : Stop) → step.Bad t ≡ last_answer e → ((s : Stop) → e ≡ Bad s → ⊥)
    → end_of_file e false ≡ end_by t
ends_by Ended t h goes = absurd cc
ends_by (Bad s) t h goes = absurd (goes s refl)
ends_by (Open place pending) t h goes =
    let same : t ≡ stop.Malformed Truncated place = cc h in
    sym (ap end_by same)

ended_by : (e : Ending) (n : ℕ) → step.End n ≡ last_answer e → e ≡ Ended
ended_by Ended n h = refl
ended_by (Bad s) n h = absurd cc
ended_by (Open place pending) n h = absurd cc

pub finish_stops : (s : Sight) (t : Stop) (rest file : Option (List ℕ)) (items : List Entry)
    → s.left ≡ [] → AtEnd rest
    → ((bytes : List ℕ) → StandsFor s.reader bytes → step.Bad t ≡ last_answer (reading bytes).ending)
    → Reached s rest file items → Stops s.dir file items (end_by t)
finish_stops s t rest file items none at_end answers r = record {
  lawful = λ whole is.
      ap (lawful_of s.dir) (all_taken s rest file r.bytes whole r.took none at_end is)
      ∙ whole_ends s.dir s.latest r.bytes items r.lawful r.items_are
      (omega (arith, r.took.within, r.took.used))
      ∙ ap (λ (e : End). record { items = items; end = e })
      (ends_by (reading r.bytes).ending t (answers r.bytes r.took.stands) r.took.goes_on);
  unlawful = bad_unlawful t;
}

-- the time of a whole capture
time_is : (kept : Option ℕ) (bytes : List ℕ) → IsEndTime kept bytes
    → (reading bytes).ending ≡ Ended → kept ≡ Some (end_time bytes)
time_is None bytes h ended = absurd (h bytes [] (sym (append-nil bytes)) ended)
time_is (Some time) bytes (capture, [], same, whole, is) ended =
    ap Some (is ∙ ap end_time (sym (same ∙ append-nil capture)))
time_is (Some time) bytes (capture, x ∷ more, same, whole, is) ended =
    let trails = ap (λ (r : Reading). r.ending) (whole_trails capture (x ∷ more) whole (omega arith)) in
    let here = ap (λ (b : List ℕ). (reading b).ending) same in
    absurd cc

-- the reader as it is then
pub finish_over : (s : Sight) (reader : Standing) (left : List ℕ) (n : ℕ)
    (rest file : Option (List ℕ)) (items : List Entry) → s.left ≡ [] → AtEnd rest
    → ((bytes : List ℕ) → StandsFor s.reader bytes → step.End n ≡ last_answer (reading bytes).ending)
    → reader.end_time ≡ s.reader.end_time
    → Reached s rest file items
    → Over (record { dir = s.dir; reader = reader; left = left; used = s.used; latest = s.latest })
    rest file items
finish_over s reader left n rest file items none at_end answers same r =
    let ended = ended_by (reading r.bytes).ending n (answers r.bytes r.took.stands) in
    record {
      none_left = λ whole is. rest_none s rest file r.bytes whole r.took at_end is;
      lawful = λ whole is.
          ap (lawful_of s.dir) (all_taken s rest file r.bytes whole r.took none at_end is)
          ∙ whole_ends s.dir s.latest r.bytes items r.lawful r.items_are
          (omega (arith, r.took.within, r.took.used))
          ∙ ap (λ (e : Ending). record { items = items; end = end_of_file e false }) ended;
      time = λ whole is.
          same ∙ time_is s.reader.end_time r.bytes r.took.stands.end_time ended
          ∙ ap (λ (b : List ℕ). Some (end_time b))
          (sym (all_taken s rest file r.bytes whole r.took none at_end is));
    }

-- a reader that says so is done
pub done_by : (place n : ℕ) (phase : Phase) → step.End n ≡ finished_step place phase → phase ≡ Done
done_by place n (Waiting pending) h = absurd cc
done_by place n (Holding x) h = absurd cc
done_by place n Done h = refl
done_by place n (Stopped s) h = absurd cc

pub no_more : (place : ℕ) (phase : Phase) → step.More ≡ finished_step place phase → ⊥
no_more place (Waiting pending) h = cc
no_more place (Holding x) h = cc
no_more place Done h = cc
no_more place (Stopped s) h = cc

pub no_item : (place n : ℕ) (phase : Phase) → step.Item n ≡ finished_step place phase → ⊥
no_item place n (Waiting pending) h = cc
no_item place n (Holding x) h = cc
no_item place n Done h = cc
no_item place n (Stopped s) h = cc

-- ---- the most that is read

longer_end : (e : Ending) → ((s : Stop) → e ≡ Bad s → ⊥) → end_of_file e true ≡ end.TooLong
longer_end Ended goes = refl
longer_end (Bad s) goes = absurd (goes s refl)
longer_end (Open place pending) goes = refl

ahead_some : (rest rest' : Option (List ℕ)) (extra r : List ℕ) → rest ≡ ahead extra rest'
    → rest ≡ Some r → 0 < length extra → 0 < length r
ahead_some rest None extra r h is some = absurd cc
ahead_some rest (Some more) extra r h is some =
    let same : extra ++ more ≡ r = cc (sym h ∙ is) in
    omega (arith, ap (λ (l : List ℕ). length l) same, length-append extra more)

pub too_long : (s : Sight) (rest rest' file : Option (List ℕ)) (extra : List ℕ)
    (items : List Entry) → s.left ≡ [] → s.used ≡ limit → rest ≡ ahead extra rest'
    → 0 < length extra → Reached s rest file items → Stops s.dir file items end.TooLong
too_long s rest rest' file extra items none full read some r = record {
  lawful = λ whole is.
      let behind = told whole r.took is in
      let file_is : whole ≡ r.bytes ++ behind.0 =
      behind.2 ∙ ap (λ (l : List ℕ). r.bytes ++ (l ++ behind.0)) none in
      ap (lawful_of s.dir) file_is
      ∙ more_ends s.dir s.latest r.bytes behind.0 items r.lawful r.items_are
      (sym r.took.used ∙ full) (ahead_some rest rest' extra behind.0 read behind.1 some)
      ∙ ap (λ (e : End). record { items = items; end = e })
      (longer_end (reading r.bytes).ending r.took.goes_on);
  unlawful = refl;
}

-- ---- the next piece

pub ahead_none : (rest : Option (List ℕ)) → ahead [] rest ≡ rest
ahead_none None = refl
ahead_none (Some bytes) = refl

-- nothing is left, whatever the buffer holds
pub still_none : (place filled : ℕ) (old new : List ℕ) → drop place (take filled old) ≡ []
    → filled ≤ length old → drop place (take filled new) ≡ []
still_none place filled old new none fits =
    let before = ap (λ (l : List ℕ). length l) none in
    drop_of_length-le (take filled new)
    (omega (
      arith,
      before,
      length-drop place (take filled old),
      length-take filled old,
      length-take filled new,
    ))

pub refilled : (s : Sight) (piece left : List ℕ) (rest rest' file : Option (List ℕ))
    (items : List Entry) → s.left ≡ [] → left ≡ piece → rest ≡ ahead piece rest'
    → s.used + length left ≤ limit → Reached s rest file items
    → Reached (record {
      dir = s.dir;
      reader = s.reader;
      left = left;
      used = s.used;
      latest = s.latest;
    }) rest' file items
refilled s piece left rest rest' file items none same read fits r = record {
  bytes = r.bytes;
  took = record {
    file_is = r.took.file_is ∙ ap (λ (l : List ℕ). ahead r.bytes (ahead l rest)) none
        ∙ ap (ahead r.bytes) (ahead_none rest ∙ read ∙ ap (λ (l : List ℕ). ahead l rest') (sym same));
    stands = r.took.stands;
    goes_on = r.took.goes_on;
    used = r.took.used;
    within = fits;
  };
  items_are = r.items_are;
  lawful = r.lawful;
}

-- ---- what is lent

pub waits_over : (s : Sight) (rest file : Option (List ℕ)) (items : List Entry)
    → lent s.reader.phase ≡ None → Over s rest file items
    → Waits s rest file items (lent s.reader.phase)
waits_over s rest file items none o = rw none o

pub waits_item : (s : Sight) (rest file : Option (List ℕ)) (items : List Entry) (x : Entry)
    → Lends s rest file items x → Waits s rest file items (lent s.reader.phase)
waits_item s rest file items x l =
    let some : lent s.reader.phase ≡ Some x = ap lent l.holds in
    rw some l
