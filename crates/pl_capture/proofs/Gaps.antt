-- The items of a capture of version 1 are no gaps.
use Rattle.std.proofs.Common.{◌≡◌, ◌≢◌, ℕ, zero, suc, ◌+◌, List, take, drop, sym, subst}
use Rattle.std.proofs.Common.{length, arith, inl, inr}
use Rattle.std.proofs.lemmas.Bool.{cases_lt}
use Rattle.std.specs.List.{AllByRecursion}
use Rattle.pl_capture.specs.declared.front.Front.TheVariants.{Whole}
use Rattle.pl_capture.specs.declared.item.ItemKind.TheVariants.{Gap}
use Rattle.pl_capture.specs.Entry.{Entry}
use Rattle.pl_capture.specs.Front.{entry_of, front_at}
use Rattle.pl_capture.specs.Laws.{HasNoGaps}
use Rattle.pl_capture.specs.Next.{IsItemRecord}
use Rattle.pl_capture.specs.Reading.{Reading, records}
use Rattle.pl_capture.proofs.Entries.{item_head, row, allowed_row}
use Rattle.pl_capture.proofs.Fronts.{head_in, seen, partial, refused, whole, last, whole_alone}
use Rattle.pl_capture.proofs.Records.{step_partial, step_refused, step_whole, step_ended}
use Rattle.pl_capture.proofs.Records.{step_trailing}
use Rattle.pl_capture.proofs.Wholes.{header, short, faulty, good, reading_short, reading_bad}
use Rattle.pl_capture.proofs.Wholes.{reading_good}

abbrev AreNoGaps : List Entry → Type 0
AreNoGaps xs = AllByRecursion (λ (x : Entry). x.kind ≢ Gap) xs

-- an item's record is that of a gap in version 2 alone
gap_in_2 : (version : ℕ) (bytes : List ℕ) → IsItemRecord version bytes
    → (entry_of bytes).kind ≡ Gap → version ≡ 2
unfolding entry_of
gap_in_2 version bytes is gap =
    let h = item_head version bytes is in
    allowed_row version (head_in bytes).kind (head_in bytes).flags (head_in bytes).size
    (row version (head_in bytes) h.lawful h.item) gap

no_gap : (count : ℕ) (bytes : List ℕ) (size : ℕ) → front_at 1 count bytes ≡ Whole size
    → (entry_of (take size bytes)).kind ≢ Gap
no_gap count bytes size is gap =
    let two = gap_in_2 1 (take size bytes) (whole_alone 1 count bytes size is) gap in
    absurd (omega arith)

none_by : (a b : Reading) → a ≡ b → AreNoGaps b.items → AreNoGaps a.items
none_by a b same none = subst (λ (r : Reading). AreNoGaps r.items) (sym same) none

no_gaps : (most count : ℕ) (bytes : List ℕ) → AreNoGaps (records 1 most count bytes).items
unfolding records
no_gaps zero count bytes = tt
no_gaps (suc most) count bytes =
    elim (seen 1 count bytes) [
      | partial below f ↦ none_by _ _ (step_partial 1 (suc most) count bytes f) tt
      | refused fault enough f ↦ none_by _ _ (step_refused 1 most count bytes fault f) tt
      | whole size is le f ↦ none_by _ _ (step_whole 1 most count bytes size f) (
        no_gap count bytes size f,
        no_gaps most (count + 1) (drop size bytes),
      )
      | last size is le f ↦ elim (cases_lt size (length bytes)) [
        | inl lt ↦ none_by _ _ (step_trailing 1 most count bytes size f lt) tt
        | inr ge ↦ none_by _ _ (step_ended 1 most count bytes size f ge) tt
      ]
    ]

pub no_gaps_in_version_1 : HasNoGaps
no_gaps_in_version_1 bytes one =
    elim (header bytes) [
      | short less ↦ none_by _ _ (reading_short bytes less) tt
      | faulty s long e ↦ none_by _ _ (reading_bad bytes s long e) tt
      | good long e ↦ none_by _ _ (reading_good bytes long e)
          (subst (λ (n : ℕ). AreNoGaps (records n (length (drop 16 bytes)) 0
          (drop 16 bytes)).items) (sym one)
          (no_gaps (length (drop 16 bytes)) 0 (drop 16 bytes)))
    ]
