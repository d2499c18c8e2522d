-- A record that is made whole and read in parts.
use Rattle.std.proofs.Common.{◌≡◌, ℕ, ◌+◌, ◌-◌, ◌≤◌, nat_eq, List, ◌++◌, length, take, drop, sym}
use Rattle.std.proofs.Common.{ap, ◌∙◌, arith, inl, inr, eq-eqb}
use Rattle.std.proofs.lemmas.Bool.{cases_eq, ne_eqb}
use Rattle.std.proofs.lemmas.List.{take_at, take-append-drop, drop-drop, length-drop}
use Rattle.std.proofs.lemmas.List.{length-take-le}

-- what a writer put at the front
pub taken : (bytes old new : List ℕ) (size : ℕ) → size ≡ length bytes → new ≡ bytes ++ drop size old
    → take size new ≡ bytes
taken bytes old new size len e = ap (take size) e ∙ take_at bytes (drop size old) size (sym len)

pub length_left : (bytes : List ℕ) (size given : ℕ) → size ≤ length bytes
    → length (drop given (take size bytes)) ≡ size - given
length_left bytes size given le =
    length-drop given (take size bytes) ∙ ap (λ (n : ℕ). n - given) (length-take-le size bytes le)

-- nothing is left where as many bytes were given as there are
pub none_left : (bytes : List ℕ) (size given : ℕ) → size ≤ length bytes → given ≤ size
    → nat_eq given size ≡ nat_eq (length (drop given (take size bytes))) 0
none_left bytes size given le inside =
    rw (length_left bytes size given le) (elim (cases_eq given size) [
      | inl all ↦ (let zero_left : size - given ≡ 0 = omega arith in
          eq-eqb given size all ∙ sym (eq-eqb (size - given) 0 zero_left))
      | inr part ↦ (let more : size - given ≡ 0 → ⊥ = (λ e. part (omega arith)) in
          ne_eqb given size part ∙ sym (ne_eqb (size - given) 0 more))
    ])

-- the next bytes, and those behind them
pub read_more : (xs buf : List ℕ) (given n : ℕ) → take n buf ≡ take n (drop given xs)
    → drop given xs ≡ take n buf ++ drop (given + n) xs
read_more xs buf given n e =
    sym (take-append-drop n (drop given xs))
    ∙ ap (λ (t : List ℕ). t ++ drop n (drop given xs)) (sym e)
    ∙ ap (λ (t : List ℕ). take n buf ++ t) (drop-drop n given xs)
