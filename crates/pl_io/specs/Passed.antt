-- What a writer of the system was passed, and what a file of the system gave, in std's words for
-- the bytes that a writer contains and a reader has left.
use Rattle.std.specs.Prelude.{ℕ, List, Option, Some, None, Result, take}
use Rattle.std.specs.Io.KnownBytes.{Appends, ReadConsumes}

-- known bytes grow by a front of these
abbrev pub AppendsPart : Option (List ℕ) → Option (List ℕ) → List ℕ → Type 0
AppendsPart old new bytes = (n : ℕ) × Appends old new (take n bytes)

-- the open file gave up the bytes that the read answers, the first of those that it had left; after
-- an error none
abbrev pub GivesUp : {F E : Type 0} → (F → Option (List ℕ)) → Option F → Option F →
    Result ℕ E → List ℕ → Type 0
GivesUp remaining None new result buffer = ⊥
GivesUp remaining (Some old) None result buffer = ⊥
GivesUp remaining (Some old) (Some new) result buffer =
    ReadConsumes (remaining old) (remaining new) result buffer
