-- The values of fields by shifts, remainders and sums.
use Rattle.std.proofs.Common.{◌≡◌, ℕ, zero, suc, ◌+◌, ◌-◌, ◌*◌, ◌/◌, ◌%◌, ◌^◌, ◌<◌, ◌≤◌, List, []}
use Rattle.std.proofs.Common.{◌∷◌, ◌++◌, length, get_or, refl, sym, arith}
use Rattle.std.specs.Int.{bit_at}
use Rattle.std.proofs.lemmas.Nat.{mod-pow-add, shr-shr, pow-add}
use Rattle.std.proofs.lemmas.Nat.Bits.{bit_at-lt}
use Rattle.std.proofs.Math.Nat.{add-mul, mul_assoc, mul-le-mul_right, pow-suc}
use Rattle.std.proofs.lemmas.List.{length-append}
use Rattle.pl_base.specs.Bits.{Place, run, bits, octets, value}

pub length-run : (byte low count : ℕ) → length (run byte low count) ≡ count
length-run byte low zero = refl
length-run byte low (suc count) = let e = length-run byte low count in omega (arith, e)

pub value-run : (byte low count : ℕ) (xs : List ℕ)
    → value (run byte low count) xs ≡ get_or xs byte 0 / 2 ^ low % 2 ^ count
value-run byte low zero xs = omega arith
value-run byte low (suc count) xs =
    let n = get_or xs byte 0 in
    let rest = value-run byte low count xs in
    let width = length-run byte low count in
    let shifted = sym (shr-shr (get_or xs byte 0) low count) in
    let split = mod-pow-add (get_or xs byte 0 / 2 ^ low) 1 count in
    let next : suc count ≡ 1 + count = omega arith in
    rw (width, rest, shifted, next, split) refl

pub value-bits : (byte high low : ℕ) (xs : List ℕ)
    → value (bits byte high low) xs ≡ get_or xs byte 0 / 2 ^ low % 2 ^ (high + 1 - low)
unfolding bits
value-bits byte high low xs = value-run byte low (high + 1 - low) xs

pub length-bits : (byte high low : ℕ) → length (bits byte high low) ≡ high + 1 - low
unfolding bits
length-bits byte high low = length-run byte low (high + 1 - low)

pub value-append : (ps qs : List Place) (xs : List ℕ)
    → value (ps ++ qs) xs ≡ value ps xs * 2 ^ length qs + value qs xs
value-append [] qs xs = omega arith
value-append (p ∷ ps) qs xs =
    let rest = value-append ps qs xs in
    let width = length-append ps qs in
    let b = bit_at (get_or xs p.byte 0) p.bit in
    let power = pow-add 2 (length ps) (length qs) in
    let product = sym (mul_assoc (bit_at (get_or xs p.byte 0) p.bit) (2 ^ length ps) (2 ^ length qs)) in
    let sum = add-mul (bit_at (get_or xs p.byte 0) p.bit * 2 ^ length ps) (value ps xs) (2 ^ length qs) in
    rw (rest, width, power, product, sum) (omega arith)

pub value_lt : (ps : List Place) (xs : List ℕ) → value ps xs < 2 ^ length ps
value_lt [] xs = omega arith
value_lt (p ∷ ps) xs =
    let rest = value_lt ps xs in
    let bit = bit_at-lt (get_or xs p.byte 0) p.bit in
    let top : bit_at (get_or xs p.byte 0) p.bit * 2 ^ length ps ≤ 1 * 2 ^ length ps =
    mul-le-mul_right (2 ^ length ps) (omega arith) in
    rw (pow-suc 2 (length ps)) (omega arith)

pub length-octets : (first count : ℕ) → length (octets first count) ≡ 8 * count
length-octets first zero = refl
length-octets first (suc count) =
    let rest = length-octets (suc first) count in
    let byte = length-bits first 7 0 in
    let all = length-append (bits first 7 0) (octets (suc first) count) in
    omega (arith, rest, byte, all)
