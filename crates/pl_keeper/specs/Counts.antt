-- What the answer of a keeper's call says of its count of faults.
use Rattle.std.specs.Prelude.{◌≡◌, ◌≢◌, ℕ, Bool, true, Result, Ok, Err}
use Rattle.pl_io.specs.Faults.{Rose}
use Rattle.pl_keeper.specs.declared.error.KeepError.{KeepError}
use Rattle.pl_keeper.specs.declared.error.KeepError.TheVariants.{Failed, Memory}

-- Failed is counted, and nothing else is
abbrev pub IsCounted : {T : Type 0} → ℕ → ℕ → Result T KeepError → Type 0
IsCounted before now (Ok value) = now ≡ before
IsCounted before now (Err Memory) = now ≡ before
IsCounted before now (Err Failed) = Rose before now

-- a keeper that is sure doesn't fail, and is sure afterwards
pub record IsSure {T : Type 0} (before now : Bool) (result : Result T KeepError) : Type 0 where
  pub never_fails : before ≡ true → result ≢ Err Failed
  pub still_sure : before ≡ true → now ≡ true
