-- Where two texts first differ.
use Rattle.std.proofs.Common.{◌≡◌, ◌≢◌, ◌<◌, ◌≤◌, ℕ, zero, suc, List, [], ◌∷◌, length, get_or, refl, ap, arith, eq-eqb}
use Rattle.std.proofs.lemmas.Bool.Decides.{nat_tests}
use Rattle.pl_keeper.specs.Puts.{first_difference}

-- the two are equal before a place, and at it one has ended or has another byte
pub first_at : (i : ℕ) (old new : List ℕ) → i ≤ length old → i ≤ length new →
    ((k : ℕ) → k < i → get_or old k 0 ≡ get_or new k 0) →
    (i < length old → i < length new → get_or old i 0 ≢ get_or new i 0) → first_difference old new ≡ i
first_at zero [] new low high same stops = refl
first_at zero (x ∷ old) [] low high same stops = refl
first_at zero (x ∷ old) (y ∷ new) low high same stops = grind (arith, nat_tests, stops (omega arith) (omega arith))
first_at (suc i) [] new low high same stops = absurd (omega arith)
first_at (suc i) (x ∷ old) [] low high same stops = absurd (omega arith)
first_at (suc i) (x ∷ old) (y ∷ new) low high same stops =
    rw (eq-eqb x y (same 0 (omega arith)))
    (ap suc (first_at i old new (omega arith) (omega arith) (λ k below. same (suc k) (omega arith)) (λ more more'. stops (omega arith) (omega arith))))
