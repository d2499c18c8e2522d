-- What the answer of a search says of the keeper.
use Rattle.std.specs.Prelude.{◌≡◌, ◌≢◌, ℕ, Bool, true, Result, Ok, Err}
use Rattle.pl_io.specs.Faults.{Rose}
use Rattle.pl_keeper.specs.declared.error.KeepError.{KeepError}
use Rattle.pl_keeper.specs.declared.error.KeepError.TheVariants as keeper
use Rattle.pl_search.specs.declared.error.SearchError.{SearchError}
use Rattle.pl_search.specs.declared.error.SearchError.TheVariants.{Store, Profile, Capture, Memory}

-- of a call that the keeper doesn't answer
abbrev pub error_of : KeepError → SearchError
error_of keeper.Failed = Store
error_of keeper.Memory = Memory

-- the keeper failed exactly where that is the answer
abbrev pub KeeperCause : {T : Type 0} → ℕ → ℕ → Result T SearchError → Type 0
KeeperCause before now (Ok value) = now ≡ before
KeeperCause before now (Err Store) = Rose before now
KeeperCause before now (Err (Profile key number)) = now ≡ before
KeeperCause before now (Err (Capture key stop)) = now ≡ before
KeeperCause before now (Err Memory) = now ≡ before

-- a keeper that is sure doesn't fail, and is sure afterwards
abbrev pub StaysSure : {T : Type 0} → Bool → Bool → Result T SearchError → Type 0
StaysSure before now result = before ≡ true → (result ≢ Err Store) × (now ≡ true)
