-- What was read of a body.
use Rattle.std.specs.Prelude.{◌≡◌, ℕ, ◌<◌, List, ◌++◌, length, Option, Result, Ok, Err, Vec}
use Rattle.std.specs.declared.alloc.Global.{Global}
use Rattle.pl_io.specs.Told.{ahead, AtEnd}
use Rattle.pl_web.specs.declared.ended.Ended.{Ended}
use Rattle.pl_web.specs.declared.ended.Ended.TheVariants.{Gone, Lost, Store, Memory}

-- The whole body of so many bytes, and what was read behind it; or fewer and then the end. `have`
-- was read before; old and new are what is still to come.
abbrev pub BodyReads : List ℕ → ℕ → Option (List ℕ) → Option (List ℕ)
    → Result (Vec ℕ Global) Ended → Type 0
BodyReads have size old new (Ok body) =
    (length body.items ≡ size)
    × (extra : List ℕ) × (ahead have old ≡ ahead (body.items ++ extra) new)
BodyReads have size old new (Err Gone) =
    (some : List ℕ) × (length some < size) × (ahead have old ≡ ahead some new) × AtEnd new
BodyReads have size old new (Err Lost) = Unit {0}
BodyReads have size old new (Err Store) = ⊥
BodyReads have size old new (Err Memory) = Unit {0}
