-- The calls of an object in memory: which of them are still to fail.
use Rattle.std.specs.Prelude.{◌≡◌, ℕ, List, Bool, ◌&&◌, nat_lt, Contains}
use Rattle.std.specs.List.{list_all}
use Rattle.pl_io.specs.Faults.{last_count, raised}
use Rattle.pl_io.specs.declared.memory.plan.FaultPlan.{FaultPlan}

-- of the calls that fail, none has this number or a later one
abbrev pub none_from : ℕ → List ℕ → Bool
none_from number fails = list_all (λ call. nat_lt call number) fails

-- no failing call is still to come, and the count is below its last value
abbrev pub is_sure : FaultPlan → Bool
is_sure plan = none_from plan.next_call plan.fails.items && nat_lt plan.faults.value last_count

-- the next call is one of those that fail
abbrev pub IsPlanned : FaultPlan → Type 0
IsPlanned plan = Contains plan.fails.items plan.next_call

-- no call was made yet, and those with these numbers fail
pub record IsFresh (plan : FaultPlan) (numbers : List ℕ) : Type 0 where
  pub next : plan.next_call ≡ 1
  pub fails : plan.fails.items ≡ numbers

-- one call was made; those that fail are the same
pub record IsCalled (old new : FaultPlan) : Type 0 where
  pub next : new.next_call ≡ raised old.next_call
  pub fails : new.fails.items ≡ old.fails.items
