-- A reader's place says whether it accepted a header.
use Rattle.std.proofs.Common.{◌≡◌, ℕ, zero, suc, ◌+◌, ◌<◌, ◌≤◌, List, length, take, drop, refl}
use Rattle.std.proofs.Common.{Some, None, sym, ap, ◌∙◌, arith, inl, inr}
use Rattle.std.proofs.lemmas.Bool.{cases_lt, le-ltb, lt-ltb}
use Rattle.std.proofs.lemmas.List.{length-drop}
use Rattle.pl_base.specs.declared.stop.Malformed.TheVariants.{Trailing}
use Rattle.pl_base.specs.declared.stop.Stop.{Stop}
use Rattle.pl_base.specs.declared.stop.Stop.TheVariants.{Malformed}
use Rattle.pl_capture.specs.Front.{header_fault}
use Rattle.pl_capture.specs.Reading.{Reading, reading, Bad, Open, records_behind}
use Rattle.pl_capture.specs.Reading.{version_read}
use Rattle.pl_capture.specs.Standing.{Standing, Phase, Waiting, Holding, Done, Stopped, Shows}
use Rattle.pl_capture.specs.Standing.{StandsFor, place_of}
use Rattle.pl_capture.proofs.Answered.{shown_long}
use Rattle.pl_capture.proofs.Continues.{records_continue}
use Rattle.pl_capture.proofs.Fronts.{seen, partial, refused, whole, last, front_short, wanted_least}
use Rattle.pl_capture.proofs.Records.{records_partial, records_refused, records_whole}
use Rattle.pl_capture.proofs.Records.{records_ended, records_trailing}
use Rattle.pl_capture.proofs.Wholes.{header, short, faulty, good, reading_bad, reading_good}
use Rattle.pl_capture.proofs.Wholes.{fault_place, version_in}

read_short : (b : List ℕ) → length b < 16 → version_read b ≡ None
unfolding version_read
read_short b less = rw (lt-ltb _ _ less) refl

read_bad : (b : List ℕ) (s : Stop) → 16 ≤ length b → header_fault (take 16 b) ≡ Some s
    → version_read b ≡ None
unfolding version_read
read_bad b s long e = rw (le-ltb _ _ long, e) refl

pub read_good : (b : List ℕ) → 16 ≤ length b → header_fault (take 16 b) ≡ None
    → version_read b ≡ Some (version_in b)
unfolding version_read
read_good b long e = rw (le-ltb _ _ long, e) refl

-- A record that is refused has a place behind the header's.
refused_behind : (version n count : ℕ) (bytes : List ℕ) (s : Stop) → length bytes ≤ n
    → (records_behind version count bytes).ending ≡ Bad s → 0 < place_of s
refused_behind version zero count bytes s le bad =
    let r = ap (λ (r : Reading). r.ending)
    (records_partial version count bytes (front_short version count bytes
    (omega arith))) in absurd cc
refused_behind version (suc n) count bytes s le bad =
    let least = wanted_least version bytes in
    elim (seen version count bytes) [
      | partial below f ↦ let r = ap (λ (r : Reading). r.ending)
          (records_partial version count bytes f) in
          absurd cc
      | refused e all f ↦
          let r : Bad (Malformed e (count + 1)) ≡ Bad s =
          sym (ap (λ (r : Reading). r.ending) (records_refused version count bytes e f)) ∙ bad in
          let is : Malformed e (count + 1) ≡ s = cc in
          let p : count + 1 ≡ place_of s = ap place_of is in
          omega arith
      | whole size is long f ↦
          let d = length-drop size bytes in
          let ending = ap (λ (r : Reading). r.ending) (records_whole version count bytes size f) in
          refused_behind version n (count + 1) (drop size bytes) s (omega arith)
          (sym ending ∙ bad)
      | last size is long f ↦
          elim (cases_lt size (length bytes)) [
            | inl lt ↦
                let r : Bad (Malformed Trailing (count + 2)) ≡ Bad s =
                sym (ap (λ (r : Reading). r.ending)
                (records_trailing version count bytes size f lt))
                ∙ bad in
                let stop-is : Malformed Trailing (count + 2) ≡ s = cc in
                let p : count + 2 ≡ place_of s = ap place_of stop-is in
                omega arith
            | inr ge ↦ let r = ap (λ (r : Reading). r.ending)
                (records_ended version count bytes size f ge)
                in absurd cc
          ]
    ]

-- Behind a header that is accepted, the place isn't 0.
open_behind : (b pending : List ℕ) (place : ℕ) → 16 ≤ length b → header_fault (take 16 b) ≡ None
    → (reading b).ending ≡ Open place pending → 0 < place
open_behind b pending place long e is_open =
    let r = ap (λ (r : Reading). r.ending) (reading_good b long e) in
    let g = records_continue (version_in b) (length (drop 16 b)) 0 (drop 16 b) place pending
    (omega arith) (sym r ∙ is_open) in
    let p = g.place_is in
    omega arith

accepted_behind : (b : List ℕ) (place : ℕ) (phase : Phase) → 16 ≤ length b
    → header_fault (take 16 b) ≡ None → Shows place phase (reading b) → 0 < place
accepted_behind b place (Waiting pending) long e shows = open_behind b pending place long e shows
accepted_behind b place (Holding x) long e shows = open_behind b _ place long e shows.0
accepted_behind b place Done long e shows = let p = shows.1 in omega arith
accepted_behind b place (Stopped s) long e shows =
    let r = ap (λ (r : Reading). r.ending) (reading_good b long e) in
    let p = shows.1 in
    let some = refused_behind (version_in b) (length (drop 16 b)) 0 (drop 16 b) s (omega arith)
    (sym r ∙ shows.0) in
    omega arith

-- At one that is refused, it is.
refused_at : (b : List ℕ) (t : Stop) (place : ℕ) (phase : Phase) → 16 ≤ length b
    → header_fault (take 16 b) ≡ Some t → Shows place phase (reading b) → place ≡ 0
refused_at b t place (Waiting pending) long e shows =
    let no = sym (ap (λ (r : Reading). r.ending) (reading_bad b t long e)) ∙ shows in absurd cc
refused_at b t place (Holding x) long e shows =
    let no = sym (ap (λ (r : Reading). r.ending) (reading_bad b t long e)) ∙ shows.0 in absurd cc
refused_at b t place Done long e shows =
    let no = sym (ap (λ (r : Reading). r.ending) (reading_bad b t long e)) ∙ shows.0 in absurd cc
refused_at b t place (Stopped s) long e shows =
    let both : Bad t ≡ Bad s =
    sym (ap (λ (r : Reading). r.ending) (reading_bad b t long e)) ∙ shows.0 in
    let same : t ≡ s = cc in
    shows.1 ∙ sym (ap place_of same) ∙ fault_place (take 16 b) t e

pub none_accepted : (s : Standing) (b : List ℕ) → StandsFor s b → s.place ≡ 0
    → version_read b ≡ None
none_accepted s b stands none =
    elim (header b) [
      | short less ↦ read_short b less
      | faulty t long e ↦ read_bad b t long e
      | good long e ↦
          let some = accepted_behind b s.place s.phase long e stands.shows in
          absurd (omega arith)
    ]

pub one_accepted : (s : Standing) (b : List ℕ) → StandsFor s b → 0 < s.place
    → version_read b ≡ Some s.version
one_accepted s b stands some =
    let whole = shown_long s.place s.phase b stands.shows some in
    elim (header b) [
      | short less ↦ absurd (omega arith)
      | faulty t long e ↦
          let none = refused_at b t s.place s.phase long e stands.shows in
          absurd (omega arith)
      | good long e ↦ read_good b long e ∙ ap (λ (n : ℕ). Some n) (sym (stands.version some))
    ]
