-- The status of each refusal is known: none is want of memory.
use Rattle.std.proofs.Common.{◌≡◌, ℕ, zero, suc, ◌+◌, ◌≤◌, List, length, take, drop, Some, sym, ap, subst, ◌∙◌, arith, inl, inr}
use Rattle.std.proofs.lemmas.Bool.{cases_lt}
use Rattle.std.proofs.lemmas.List.{length-drop}
use Rattle.pl_base.specs.declared.stop.Stop.{Stop}
use Rattle.pl_base.specs.declared.stop.Stop.TheVariants.{Malformed}
use Rattle.pl_base.specs.declared.stop.Malformed.TheVariants.{Trailing}
use Rattle.pl_capture.specs.Front.{header_fault}
use Rattle.pl_capture.specs.Reading.{Reading, reading, Bad, records_behind}
use Rattle.pl_capture.proofs.Fronts.{seen, partial, refused, whole, last, front_short, wanted_least}
use Rattle.pl_capture.proofs.Records.{records_partial, records_refused, records_whole, records_ended, records_trailing}
use Rattle.pl_capture.proofs.Wholes.{header, short, faulty, good, reading_bad, reading_good, reading_short, version_in}
use Rattle.pl_engine.specs.declared.refused.Refused.{Refused}
use Rattle.pl_engine.specs.declared.refused.Refused.TheVariants.{Outstanding, Unacknowledged}
use Rattle.pl_engine.specs.Verdicts.{stop_of}
use Rattle.pl_cli.specs.Output.{stop_status}

fault_known : (h : List ℕ) (s : Stop) → header_fault h ≡ Some s → stop_status s ≤ 6
unfolding header_fault
fault_known h s e = grind arith

records_known : (version n count : ℕ) (bytes : List ℕ) (s : Stop) → length bytes ≤ n → (records_behind version count bytes).ending ≡ Bad s → stop_status s ≤ 6
records_known version zero count bytes s le bad =
    let r = ap (λ (r : Reading). r.ending) (records_partial version count bytes (front_short version count bytes (omega arith))) in absurd cc
records_known version (suc n) count bytes s le bad =
    let least = wanted_least version bytes in
    elim (seen version count bytes) [
      | partial below f ↦ let r = ap (λ (r : Reading). r.ending) (records_partial version count bytes f) in absurd cc
      | refused e all f ↦
          let r : Bad (Malformed e (count + 1)) ≡ Bad s = sym (ap (λ (r : Reading). r.ending) (records_refused version count bytes e f)) ∙ bad in
          let is : Malformed e (count + 1) ≡ s = cc in
          let p : 4 ≡ stop_status s = ap stop_status is in
          omega arith
      | whole size is long f ↦
          let d = length-drop size bytes in
          let ending = ap (λ (r : Reading). r.ending) (records_whole version count bytes size f) in
          records_known version n (count + 1) (drop size bytes) s (omega arith) (sym ending ∙ bad)
      | last size is long f ↦
          elim (cases_lt size (length bytes)) [
            | inl lt ↦
                let r : Bad (Malformed Trailing (count + 2)) ≡ Bad s = sym (ap (λ (r : Reading). r.ending) (records_trailing version count bytes size f lt)) ∙ bad in
                let stop-is : Malformed Trailing (count + 2) ≡ s = cc in
                let p : 4 ≡ stop_status s = ap stop_status stop-is in
                omega arith
            | inr ge ↦ let r = ap (λ (r : Reading). r.ending) (records_ended version count bytes size f ge) in absurd cc
          ]
    ]

-- a refusal of the reader
pub reader_known : (b : List ℕ) (s : Stop) → (reading b).ending ≡ Bad s → stop_status s ≤ 6
reader_known b s bad =
    elim (header b) [
      | short less ↦ let r = ap (λ (r : Reading). r.ending) (reading_short b less) in absurd cc
      | faulty t long e ↦
          let r : Bad t ≡ Bad s = sym (ap (λ (r : Reading). r.ending) (reading_bad b t long e)) ∙ bad in
          let same : t ≡ s = cc in
          subst (λ (x : Stop). stop_status x ≤ 6) same (fault_known (take 16 b) t e)
      | good long e ↦
          let r = ap (λ (r : Reading). r.ending) (reading_good b long e) in
          records_known (version_in b) (length (drop 16 b)) 0 (drop 16 b) s (omega arith) (sym r ∙ bad)
    ]

-- a refusal of the engine
pub engine_known : (r : Refused) (n : ℕ) → stop_status (stop_of r n) ≤ 6
engine_known (Outstanding limit) n = omega arith
engine_known (Unacknowledged limit) n = omega arith
