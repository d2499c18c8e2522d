-- Texts that are written one behind another.
use Rattle.std.proofs.Common.{◌≡◌, ◌++◌, ◌+◌, ◌≤◌, List, ℕ, [], refl, ap, ◌∙◌, sym, length}
use Rattle.std.proofs.Common.{append_assoc, append-nil, length-append, arith, Option, Some, None}
use Rattle.pl_io.specs.Told.{plus, HasRoom, Partly}

pub plus-nothing : (w : Option (List ℕ)) → w ≡ plus w []
plus-nothing None = refl
plus-nothing (Some bytes) = ap Some (sym (append-nil bytes))

-- room for more is room for less
pub less_room : (room : Option ℕ) (m n : ℕ) → m ≤ n → HasRoom room n → HasRoom room m
less_room None m n le h = h
less_room (Some k) m n le h = omega arith

pub first_lost : (w w1 : Option (List ℕ)) (a b : List ℕ) → Partly w w1 a → Partly w w1 (a ++ b)
first_lost w w1 a b part = record {
  part = part.part;
  missing = part.missing ++ b;
  whole = sym (append_assoc part.part part.missing b) ∙ ap (λ (l : List ℕ). l ++ b) part.whole;
  written = part.written;
}

pub first_fits : (room : Option ℕ) (a b : List ℕ) → HasRoom room (length (a ++ b)) →
    HasRoom room (length a)
first_fits room a b h =
    less_room room (length a) (length (a ++ b)) (omega (arith, length-append a b)) h
