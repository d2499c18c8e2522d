-- Which failing calls are still to come.
use Rattle.std.proofs.Common.{◌≡◌, ℕ, ◌+◌, ◌≤◌, List, [], ◌∷◌, true, false, nat_eq, arith, refl}
use Rattle.std.specs.List.{list_any}
use Rattle.std.proofs.lemmas.Bool.Decides.{nat_tests}
use Rattle.pl_io.specs.declared.memory.plan.FaultPlan.{FaultPlan}
use Rattle.pl_io.specs.FaultPlan.{is_sure, none_from}

-- where no failing call is to come, this one doesn't fail
none_from-any : (number : ℕ) (fails : List ℕ) → none_from number fails ≡ true → list_any (λ call. nat_eq call number) fails ≡ false
none_from-any number [] h = refl
none_from-any number (call ∷ fails) h = grind (arith, nat_tests, none_from-any number fails)

pub not_sure : (plan : FaultPlan) → list_any (λ call. nat_eq call plan.next_call) plan.fails.items ≡ true → is_sure plan ≡ true → ⊥
not_sure plan planned sure = grind (arith, none_from-any plan.next_call plan.fails.items)

-- a call that doesn't fail leaves those to come as they were
pub none_from-next : (number next : ℕ) (fails : List ℕ) → number ≤ next → next ≤ number + 1 →
    list_any (λ call. nat_eq call number) fails ≡ false → none_from next fails ≡ none_from number fails
none_from-next number next [] low high h = refl
none_from-next number next (call ∷ fails) low high h = grind (arith, nat_tests, none_from-next number next fails low high)
