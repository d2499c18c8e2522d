-- The only row of a look-up shows the first of those that pass.
use Rattle.std.proofs.Common.{◌≡◌, ℕ, List, [], ◌∷◌, map, length, true, false, Bool, cond, Some, None, Option, refl, sym, ap, ◌∙◌, arith}
use Rattle.std.specs.Prelude.{slice_get, filter, IsPermutation}
use Rattle.std.specs.List.{find}
use Rattle.std.proofs.lemmas.List.Sorted.{length_permutation}
use Rattle.std.proofs.lemmas.List.{length-map}
use Rattle.sqlite.specs.declared.types.Value.{Value}
use Rattle.sqlite.specs.declared.types.Value.TheVariants.{Text, Blob}
use Rattle.sqlite_value.specs.Order.{bytes}
use Rattle.sqlite.specs.Order.{Row}
use Rattle.sqlite.proofs.Callers.{one_permutation}

pub first_passing : {X : Type 0} (test : X → Bool) (xs : List X) → find test xs ≡ slice_get (filter test xs) 0
first_passing test [] = refl
first_passing test (x ∷ xs) = elim (test x) as (λ b. cond b (Some x) (find test xs) ≡ slice_get (cond b (x ∷ filter test xs) (filter test xs)) 0) [ true ↦ refl | false ↦ first_passing test xs ]

-- where no row came, nothing passed
pub none_passing : {X : Type 0} (row : X → Row) (xs : List X) (rows : List Row) → IsPermutation (map row xs) rows → rows ≡ [] → slice_get xs 0 ≡ None
none_passing row [] rows same none = refl
none_passing row (x ∷ xs) rows same none = let e = length_permutation _ rows same in absurd (let z = ap length none in omega arith)

-- where one came, it shows the only one that passed
pub one_passing : {X : Type 0} (row : X → Row) (xs : List X) (rows : List Row) (r : Row) → IsPermutation (map row xs) rows → rows ≡ r ∷ [] → (x : X) × (slice_get xs 0 ≡ Some x) × (r ≡ row x)
one_passing row [] rows r same one = let e = length_permutation _ rows same in absurd (let z = ap length one in omega arith)
one_passing row (x ∷ []) rows r same one = (x, refl, let e = one_permutation (row x) rows same in cc)
one_passing row (x ∷ y ∷ xs) rows r same one = let e = length_permutation _ rows same in absurd (let z = ap length one in omega arith)

-- a cell that was read has the bytes of the row
pub same_blob : (v : Value) (a b : List ℕ) → v ≡ Blob a → v ≡ Blob b → b ≡ a
same_blob v a b h k = ap bytes (sym k ∙ h)

pub same_text : (v : Value) (a b : List ℕ) → v ≡ Text a → v ≡ Text b → b ≡ a
same_text v a b h k = ap bytes (sym k ∙ h)

pub same_some : {X : Type 0} (x y : X) → ◌≡◌ {A = Option X} (Some x) (Some y) → x ≡ y
same_some x y e = cc

-- as many rows as things that pass
pub counted : {X : Type 0} (row : X → Row) (xs : List X) (rows : List Row) (n : ℕ) → IsPermutation (map row xs) rows → n ≡ length rows → n ≡ length xs
counted row xs rows n same is = is ∙ length_permutation _ rows same ∙ length-map xs row
