-- Where each byte of a header is what the fields put in it, the header is the one that they place.
use Rattle.std.proofs.Common.{◌≡◌, ◌⊎◌, ℕ, ◌<◌, ◌≤◌, Bool, false, List, length, take, get_or, sym}
use Rattle.std.proofs.Common.{ap, ◌∙◌, arith, inl, inr, lit<}
use Rattle.std.specs.Prelude.{if◌then◌else◌}
use Rattle.std.specs.List.{AllByRecursion}
use Rattle.std.proofs.lemmas.List.{length-take-le, get_or-take}
use Rattle.std.proofs.lemmas.Slice.Eq.{text_from_reads}
use Rattle.pl_base.specs.Bits.{bits}
use Rattle.pl_tlp.specs.declared.kind.Kind.TheVariants.{MRd, CplD}
use Rattle.pl_tlp.specs.declared.kind.Layout.TheVariants.{Addressed, Completion}
use Rattle.pl_tlp.specs.Kinds.{layout_of}
use Rattle.pl_tlp.specs.Fields.{Fields}
use Rattle.pl_make.specs.Placed.{placed}
use Rattle.pl_make.specs.Packets.{header_fields, header_bytes}
use Rattle.pl_make.proofs.Placing.{IsBytes, IsReadAs, own, owns, byte_of-owns}

-- each byte of the header is what the fields put in it
pub record Covers (x : Fields) (xs : List ℕ) : Type 0 where
  pub all : (owns 0 (header_fields x) xs ≡ get_or xs 0 0)
      × (owns 1 (header_fields x) xs ≡ get_or xs 1 0)
      × (owns 2 (header_fields x) xs ≡ get_or xs 2 0)
      × (owns 3 (header_fields x) xs ≡ get_or xs 3 0)
      × (owns 4 (header_fields x) xs ≡ get_or xs 4 0)
      × (owns 5 (header_fields x) xs ≡ get_or xs 5 0)
      × (owns 6 (header_fields x) xs ≡ get_or xs 6 0)
      × (owns 7 (header_fields x) xs ≡ get_or xs 7 0)
      × (owns 8 (header_fields x) xs ≡ get_or xs 8 0)
      × (owns 9 (header_fields x) xs ≡ get_or xs 9 0)
      × (owns 10 (header_fields x) xs ≡ get_or xs 10 0)
      × (owns 11 (header_fields x) xs ≡ get_or xs 11 0)

covers-Addressed : (x : Fields) (xs : List ℕ) → layout_of x.kind ≡ Addressed → x.wide ≡ false
    → IsBytes xs → Covers x xs
unfolding owns own bits
covers-Addressed x xs layout short below =
    let b0 = below 0 in
    let b1 = below 1 in
    let b2 = below 2 in
    let b3 = below 3 in
    let b4 = below 4 in
    let b5 = below 5 in
    let b6 = below 6 in
    let b7 = below 7 in
    let b8 = below 8 in
    let b9 = below 9 in
    let b10 = below 10 in
    let b11 = below 11 in
    record {
      all = rw (layout, short) (
        omega arith,
        omega arith,
        omega arith,
        omega arith,
        omega arith,
        omega arith,
        omega arith,
        omega arith,
        omega arith,
        omega arith,
        omega arith,
        omega arith,
      );
    }

covers-Completion : (x : Fields) (xs : List ℕ) → layout_of x.kind ≡ Completion → x.wide ≡ false
    → IsBytes xs → Covers x xs
unfolding owns own bits
covers-Completion x xs layout short below =
    let b0 = below 0 in
    let b1 = below 1 in
    let b2 = below 2 in
    let b3 = below 3 in
    let b4 = below 4 in
    let b5 = below 5 in
    let b6 = below 6 in
    let b7 = below 7 in
    let b8 = below 8 in
    let b9 = below 9 in
    let b10 = below 10 in
    let b11 = below 11 in
    record {
      all = rw layout (
        omega arith,
        omega arith,
        omega arith,
        omega arith,
        omega arith,
        omega arith,
        omega arith,
        omega arith,
        omega arith,
        omega arith,
        omega arith,
        omega arith,
      );
    }

pub covers : (x : Fields) (xs : List ℕ) → (x.kind ≡ MRd) ⊎ (x.kind ≡ CplD) → x.wide ≡ false
    → IsBytes xs → Covers x xs
covers x xs (inl read) short below = covers-Addressed x xs (ap layout_of read) short below
covers x xs (inr completion) short below =
    covers-Completion x xs (ap layout_of completion) short below

front_length : (bytes : List ℕ) → 12 ≤ length bytes → length (take 12 bytes) ≡ 12
front_length bytes le = length-take-le 12 bytes le

pub header_placed : (x : Fields) (xs : List ℕ) → 12 ≤ length xs → x.wide ≡ false → Covers x xs
    → AllByRecursion (IsReadAs xs) (header_fields x) → take 12 xs ≡ header_bytes x
unfolding placed
header_placed x xs len short c all =
    let bytes : take 12 xs ≡ placed 0 12 (header_fields x) =
    text_from_reads (take 12 xs) _ (front_length xs len) (
      get_or-take 12 xs 0 0 (lit< tt) ∙ sym (byte_of-owns 0 (header_fields x) xs all ∙ c.all.0),
      (get_or-take 12 xs 1 0 (lit< tt) ∙ sym (byte_of-owns 1 (header_fields x) xs all ∙ c.all.1), (get_or-take 12 xs 2 0 (lit< tt) ∙ sym (byte_of-owns 2 (header_fields x) xs all ∙ c.all.2), (get_or-take 12 xs 3 0 (lit< tt) ∙ sym (byte_of-owns 3 (header_fields x) xs all ∙ c.all.3), (get_or-take 12 xs 4 0 (lit< tt) ∙ sym (byte_of-owns 4 (header_fields x) xs all ∙ c.all.4), (get_or-take 12 xs 5 0 (lit< tt) ∙ sym (byte_of-owns 5 (header_fields x) xs all ∙ c.all.5), (get_or-take 12 xs 6 0 (lit< tt) ∙ sym (byte_of-owns 6 (header_fields x) xs all ∙ c.all.6), (get_or-take 12 xs 7 0 (lit< tt) ∙ sym (byte_of-owns 7 (header_fields x) xs all ∙ c.all.7), (get_or-take 12 xs 8 0 (lit< tt) ∙ sym (byte_of-owns 8 (header_fields x) xs all ∙ c.all.8), (get_or-take 12 xs 9 0 (lit< tt) ∙ sym (byte_of-owns 9 (header_fields x) xs all ∙ c.all.9), (get_or-take 12 xs 10 0 (lit< tt) ∙ sym (byte_of-owns 10 (header_fields x) xs all ∙ c.all.10), (get_or-take 12 xs 11 0 (lit< tt) ∙ sym (byte_of-owns 11 (header_fields x) xs all ∙ c.all.11), tt))))))))))),
    ) in
    bytes ∙ ap (λ (wide : Bool). placed 0 (if wide then 16 else 12) (header_fields x)) (sym short)
