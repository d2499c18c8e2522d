-- How much is to be read of a file at most, and whether an item waits.
use Rattle.std.proofs.Common.{◌≡◌, ℕ, ◌+◌, ◌-◌, ◌<◌, ◌≤◌, ◌⊎◌, inl, inr, Option, Some, None, arith, refl}
use Rattle.pl_capture.specs.Entry.{Entry}
use Rattle.pl_merge.specs.Lawful.{limit}

pub waiting : Option Entry → ℕ
waiting None = 0
waiting (Some x) = 1

abbrev pub to_read : ℕ → Option Entry → ℕ
to_read used w = (limit - used) + waiting w

few : (w : Option Entry) → waiting w ≤ 1
unfolding waiting
few None = omega arith
few (Some x) = omega arith

one : (w : Option Entry) (x : Entry) → w ≡ Some x → waiting w ≡ 1
unfolding waiting
one None x e = absurd cc
one (Some y) x e = refl

none : (w : Option Entry) → w ≡ None → waiting w ≡ 0
unfolding waiting
none None e = refl
none (Some y) e = absurd cc

-- one more item is less to read
pub falls : (w w' : Option Entry) (x : Entry) (used used' : ℕ) → w ≡ Some x → used' ≤ limit
    → (used < used') ⊎ ((used ≤ used') × (w' ≡ None)) → to_read used' w' + 1 ≤ to_read used w
falls w w' x used used' e bound (inl more) = omega (arith, few w', one w x e)
falls w w' x used used' e bound (inr (same, over)) = omega (arith, none w' over, one w x e)

pub start_few : (used : ℕ) (w : Option Entry) → to_read used w ≤ limit + 1
start_few used w = omega (arith, few w)
