-- Four bytes are those of a CRC exactly where they make the same number.
use Rattle.std.proofs.Common.{◌≡◌, ℕ, ◌+◌, ◌*◌, ◌<◌, true, ◌&&◌, List, [], ◌∷◌, length, get_or}
use Rattle.std.proofs.Common.{nat_eq, w32, arith}
use Rattle.std.proofs.lemmas.Grind.{common_steps}
use Rattle.std.specs.Int.{from_le_bytes}
use Rattle.pl_engine.specs.State.{same_bytes}

four : (a b c d e f g h : ℕ)
    → a < 256 → b < 256 → c < 256 → d < 256 → e < 256 → f < 256 → g < 256 → h < 256
    → nat_eq (a + b * 256 + c * 65536 + d * 16777216) (e + f * 256 + g * 65536 + h * 16777216)
    ≡ (nat_eq a e && (nat_eq b f && (nat_eq c g && (nat_eq d h && true))))
four a b c d e f g h a' b' c' d' e' f' g' h' = grind (arith, common_steps)

pub same_number : (xs ys : List ℕ) (m n : ℕ) → length xs ≡ 4 → length ys ≡ 4
    → ((i : ℕ) → get_or xs i 0 < 256) → ((i : ℕ) → get_or ys i 0 < 256)
    → m ≡ from_le_bytes w32 xs → n ≡ from_le_bytes w32 ys → nat_eq m n ≡ same_bytes xs ys
same_number (a ∷ b ∷ c ∷ d ∷ []) (e ∷ f ∷ g ∷ h ∷ []) m n long also small smaller is other =
    rw (is, other) (four a b c d e f g h (small 0) (small 1) (small 2) (small 3) (smaller 0)
    (smaller 1) (smaller 2) (smaller 3))
same_number [] ys m n long also small smaller is other = absurd (omega (arith, long))
same_number (a ∷ []) ys m n long also small smaller is other = absurd (omega (arith, long))
same_number (a ∷ b ∷ []) ys m n long also small smaller is other = absurd (omega (arith, long))
same_number (a ∷ b ∷ c ∷ []) ys m n long also small smaller is other =
    absurd (omega (arith, long))
same_number (a ∷ b ∷ c ∷ d ∷ x ∷ xs) ys m n long also small smaller is other =
    absurd (omega (arith, long))
same_number (a ∷ b ∷ c ∷ d ∷ []) [] m n long also small smaller is other =
    absurd (omega (arith, also))
same_number (a ∷ b ∷ c ∷ d ∷ []) (e ∷ []) m n long also small smaller is other =
    absurd (omega (arith, also))
same_number (a ∷ b ∷ c ∷ d ∷ []) (e ∷ f ∷ []) m n long also small smaller is other =
    absurd (omega (arith, also))
same_number (a ∷ b ∷ c ∷ d ∷ []) (e ∷ f ∷ g ∷ []) m n long also small smaller is other =
    absurd (omega (arith, also))
same_number (a ∷ b ∷ c ∷ d ∷ []) (e ∷ f ∷ g ∷ h ∷ y ∷ ys) m n long also small smaller is other =
    absurd (omega (arith, also))
