-- What the fields of a packet are read as places them back into the same bytes.
use Rattle.std.proofs.Common.{◌≡◌, ℕ, suc, ◌+◌, ◌-◌, ◌*◌, ◌/◌, ◌%◌, ◌^◌, ◌<◌, List, [], ◌∷◌, length}
use Rattle.std.proofs.Common.{take, get_or, refl, sym, arith, inl, inr}
use Rattle.std.proofs.lemmas.Bool.{cases_lt}
use Rattle.std.proofs.lemmas.List.{get_or-take, get_or_past, length-take}
use Rattle.std.specs.Prelude.{◌==◌, if◌then◌else◌}
use Rattle.std.specs.Int.{bit_at}
use Rattle.std.specs.List.{AllByRecursion}
use Rattle.std.proofs.lemmas.Nat.{shr_high, pow_pos}
use Rattle.std.proofs.lemmas.Nat.Bits.{bit_at-lt}
use Rattle.std.proofs.Math.Nat.{mul-add-div_right, mul_assoc, mul_comm, pow-suc}
use Rattle.pl_base.specs.Bits.{Place, value}
use Rattle.pl_base.proofs.Bits.{value_lt}
use Rattle.pl_make.specs.Placed.{Field, share, byte_of}

-- a bit below the k-th is the same whatever stands from the k + 1-th on
bit-low : (h k v : ℕ) → bit_at (h * 2 ^ suc k + v) k ≡ bit_at v k
bit-low h k v =
    let power : h * 2 ^ suc k ≡ (h * 2) * 2 ^ k =
    rw (pow-suc 2 k) (grind (arith, mul_assoc, mul_comm)) in
    let divided : ((h * 2) * 2 ^ k + v) / 2 ^ k ≡ h * 2 + v / 2 ^ k =
    mul-add-div_right (pow_pos k) (h * 2) v in
    rw (power, divided) (omega arith)

-- a field takes the low bits of its number alone
share-low : (byte : ℕ) (ps : List Place) (h v : ℕ) → share byte ps (h * 2 ^ length ps + v)
    ≡ share byte ps v
unfolding share
share-low byte [] h v = refl
share-low byte (p ∷ ps) h v =
    let bit = bit-low h (length ps) v in
    let power : h * 2 ^ suc (length ps) ≡ (h * 2) * 2 ^ length ps =
    rw (pow-suc 2 (length ps)) (grind (arith, mul_assoc, mul_comm)) in
    let low : share byte ps (h * 2 ^ suc (length ps) + v) ≡ share byte ps v =
    rw power (share-low byte ps (h * 2) v) in
    rw (bit, low) refl

-- what the bits at these places are worth in a byte
unfoldable pub own : ℕ → List Place → List ℕ → ℕ
own byte [] xs = 0
own byte (p ∷ ps) xs = (if p.byte == byte then bit_at (get_or xs p.byte 0) p.bit * 2 ^ p.bit else 0)
    + own byte ps xs

pub share-value : (byte : ℕ) (ps : List Place) (xs : List ℕ) → share byte ps (value ps xs)
    ≡ own byte ps xs
unfolding share own
share-value byte [] xs = refl
share-value byte (p ∷ ps) xs =
    let b = bit_at (get_or xs p.byte 0) p.bit in
    let below : bit_at (get_or xs p.byte 0) p.bit < 2 = bit_at-lt (get_or xs p.byte 0) p.bit in
    let top : (bit_at (get_or xs p.byte 0) p.bit * 2 ^ length ps + value ps xs) / 2 ^ length ps
    ≡ bit_at (get_or xs p.byte 0) p.bit =
    shr_high (bit_at (get_or xs p.byte 0) p.bit) (length ps) (value ps xs) (value_lt ps xs) in
    let bit : bit_at (bit_at (get_or xs p.byte 0) p.bit * 2 ^ length ps + value ps xs) (length ps)
    ≡ bit_at (get_or xs p.byte 0) p.bit =
    rw top (omega arith) in
    rw (bit, share-low byte ps b (value ps xs), share-value byte ps xs) refl

-- the same for all fields
unfoldable pub owns : ℕ → List Field → List ℕ → ℕ
owns byte [] xs = 0
owns byte (f ∷ fields) xs = own byte f.places xs + owns byte fields xs

-- each field is read as its number
abbrev pub IsReadAs : List ℕ → Field → Type 0
IsReadAs xs f = value f.places xs ≡ f.number

pub byte_of-owns : (byte : ℕ) (fields : List Field) (xs : List ℕ)
    → AllByRecursion (IsReadAs xs) fields → byte_of fields byte ≡ owns byte fields xs
unfolding byte_of owns
byte_of-owns byte [] xs all = refl
byte_of-owns byte (f ∷ fields) xs all =
    let first : share byte f.places f.number ≡ own byte f.places xs =
    rw (sym all.0) (share-value byte f.places xs) in
    rw (first, byte_of-owns byte fields xs all.1) refl

-- the bits of a byte
pub eight : (b : ℕ) → b < 256
    → b % 2 + b / 2 % 2 * 2 + b / 4 % 2 * 4 + b / 8 % 2 * 8 + b / 16 % 2 * 16 + b / 32 % 2 * 32 + b
    / 64 % 2 * 64 + b / 128 % 2 * 128 ≡ b
eight b lt = omega arith

-- a list of bytes
abbrev pub IsBytes : List ℕ → Type 0
IsBytes xs = (k : ℕ) → get_or xs k 0 < 256

pub take_bytes : (n : ℕ) (xs : List ℕ) → IsBytes xs → IsBytes (take n xs)
take_bytes n xs below k = elim (cases_lt k n) [
  | inl inside ↦ rw (get_or-take n xs k 0 inside) (below k)
  | inr past ↦
      let short = length-take n xs in
      rw (get_or_past (take n xs) k 0 (omega arith)) (omega arith)
]
