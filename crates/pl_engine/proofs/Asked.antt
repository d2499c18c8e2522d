-- The verdicts that are asked for, one part of a list after another, and the first of them.
use Rattle.std.proofs.Common.{◌≡◌, ◌<◌, ◌≤◌, ℕ, ◌+◌, ◌-◌, List, [], ◌∷◌, ◌++◌, length, take, cond}
use Rattle.std.proofs.Common.{append_assoc, get_or, refl, sym, ap, ◌∙◌, append-nil, length-append}
use Rattle.std.proofs.Common.{arith, inl, inr}
use Rattle.std.proofs.Math.Seq.{take-append-add}
use Rattle.std.proofs.lemmas.Bool.{cases_lt}
use Rattle.std.proofs.lemmas.List.{length-take, length-take-le, take-append-le, take_all}
use Rattle.std.proofs.lemmas.List.{take_more}
use Rattle.std.proofs.lemmas.List.Elements.{filter-append}
use Rattle.std.proofs.lemmas.List.Sums.{length-filter, count_by-le-length}
use Rattle.pl_base.specs.declared.verdict.Verdict.{Verdict}
use Rattle.pl_engine.specs.declared.wanted.Wanted.{Wanted}
use Rattle.pl_engine.specs.declared.wanted.Wanted.TheVariants.{Every, Of}
use Rattle.pl_engine.specs.Wanted.{is_of, is_wanted, wanted_of}

pub wanted-nil : (wanted : Wanted) → wanted_of wanted [] ≡ []
wanted-nil Every = refl
wanted-nil (Of rule) = refl

pub wanted-append : (wanted : Wanted) (xs ys : List Verdict) → wanted_of wanted (xs ++ ys)
    ≡ wanted_of wanted xs ++ wanted_of wanted ys
wanted-append Every xs ys = refl
wanted-append (Of rule) xs ys = filter-append (is_of rule) xs ys

pub wanted_one : (wanted : Wanted) (x : Verdict) → wanted_of wanted (x ∷ [])
    ≡ cond (is_wanted wanted x) (x ∷ []) []
wanted_one Every x = refl
wanted_one (Of rule) x = refl

-- one verdict more
pub wanted-more : (wanted : Wanted) (xs : List Verdict) (i : ℕ) (d : Verdict) → i < length xs
    → wanted_of wanted (take (i + 1) xs) ≡ wanted_of wanted (take i xs)
    ++ wanted_of wanted (get_or xs i d ∷ [])
wanted-more wanted xs i d below =
    ap (wanted_of wanted) (take_more xs i d below)
    ∙ wanted-append wanted (take i xs) (get_or xs i d ∷ [])

-- no more than there are
length-wanted : (wanted : Wanted) (xs : List Verdict) → length (wanted_of wanted xs) ≤ length xs
length-wanted Every xs = omega arith
length-wanted (Of rule) xs =
    omega (arith, length-filter (is_of rule) xs, count_by-le-length (is_of rule) xs)

pub few_wanted : (wanted : Wanted) (xs : List Verdict) (i : ℕ)
    → length (wanted_of wanted (take i xs)) ≤ i
few_wanted wanted xs i = omega (arith, length-wanted wanted (take i xs), length-take i xs)

-- the first of some and of those behind them
pub take-on : {X : Type 0} (most : ℕ) (all more : List X) → take most (all ++ more)
    ≡ take most all ++ take (most - length (take most all)) more
take-on {X} most all more =
    elim (cases_lt most (length all)) [
      | inl lt ↦
          let size : length (take most all) ≡ most = length-take-le most all (omega arith) in
          let none : most - length (take most all) ≡ 0 = omega arith in
          take-append-le most all more (omega arith)
          ∙ sym (ap (λ (n : ℕ). take most all ++ take n more) none ∙ append-nil (take most all))
      | inr ge ↦
          let whole : take most all ≡ all = take_all most all ge in
          let parts : most ≡ length all + (most - length all) = omega arith in
          ap (λ (n : ℕ). take n (all ++ more)) parts ∙ take-append-add all more (most - length all)
          ∙ ap (λ (l : List X). l ++ take (most - length l) more) (sym whole)
    ]

-- and behind those that were kept before all of them
pub kept-more : (most room' : ℕ) (start kept new all one more : List Verdict)
    → kept ≡ start ++ take (most - length start) all → room' ≡ most - length kept
    → new ≡ kept ++ take room' one → more ≡ all ++ one
    → new ≡ start ++ take (most - length start) more
kept-more most room' start kept new all one more kept_is room_is new_is more_is =
    let room : ℕ = most - length start in
    let some : List Verdict = take room all in
    let left : room' ≡ room - length some =
    omega (arith, room_is, ap (λ (l : List Verdict). length l) kept_is, length-append start some) in
    new_is ∙ ap (λ (n : ℕ). kept ++ take n one) left
    ∙ ap (λ (l : List Verdict). l ++ take (room - length some) one) kept_is
    ∙ append_assoc start some (take (room - length some) one)
    ∙ sym (ap (λ (l : List Verdict). start ++ take room l) more_is
    ∙ ap (λ (l : List Verdict). start ++ l) (take-on room all one))
