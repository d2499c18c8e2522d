-- Why a request has no reply from the rows, and what that says of the keeper and of the connection.
use Rattle.std.specs.Prelude.{◌≡◌, ◌≢◌, ℕ, Bool, true, Result, Ok, Err}
use Rattle.pl_io.specs.Faults.{Rose}
use Rattle.pl_web.specs.declared.ended.Ended.{Ended}
use Rattle.pl_web.specs.declared.ended.Ended.TheVariants.{Gone, Lost, Store, Memory}

-- the keeper failed exactly where that is the answer
abbrev pub KeeperCause : {T : Type 0} → ℕ → ℕ → Result T Ended → Type 0
KeeperCause before now (Ok value) = now ≡ before
KeeperCause before now (Err Gone) = now ≡ before
KeeperCause before now (Err Lost) = now ≡ before
KeeperCause before now (Err Store) = Rose before now
KeeperCause before now (Err Memory) = now ≡ before

-- and so the connection
abbrev pub ConnCause : {T : Type 0} → ℕ → ℕ → Result T Ended → Type 0
ConnCause before now (Ok value) = now ≡ before
ConnCause before now (Err Gone) = now ≡ before
ConnCause before now (Err Lost) = Rose before now
ConnCause before now (Err Store) = now ≡ before
ConnCause before now (Err Memory) = now ≡ before

-- no read of the connection failed, and no call of the keeper
abbrev pub IsUnlost : {T : Type 0} → Result T Ended → Type 0
IsUnlost r = r ≢ Err Lost

abbrev pub IsKept : {T : Type 0} → Result T Ended → Type 0
IsKept r = r ≢ Err Store

-- a keeper that is sure doesn't fail, and is sure afterwards
abbrev pub StaysSure : {T : Type 0} → Bool → Bool → Result T Ended → Type 0
StaysSure before now r = before ≡ true → IsKept r × (now ≡ true)

-- an answer of the keeper alone
abbrev pub OfKeeper : {T : Type 0} → Result T Ended → Type 0
OfKeeper (Ok value) = Unit {0}
OfKeeper (Err Gone) = ⊥
OfKeeper (Err Lost) = ⊥
OfKeeper (Err Store) = Unit {0}
OfKeeper (Err Memory) = Unit {0}

-- only want of memory
abbrev pub OnlyMemory : {T : Type 0} → Result T Ended → Type 0
OnlyMemory (Ok value) = Unit {0}
OnlyMemory (Err Gone) = ⊥
OnlyMemory (Err Lost) = ⊥
OnlyMemory (Err Store) = ⊥
OnlyMemory (Err Memory) = Unit {0}
