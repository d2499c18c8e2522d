-- A capture on the way: what was taken of it, and what is known of the file then.
use Rattle.std.specs.Prelude.{◌≡◌, ℕ, ◌+◌, ◌≤◌, Bool, true, false, nat_lt, List, [], ◌∷◌, ◌++◌, length}
use Rattle.std.specs.Prelude.{take, Option, Some, None, IsSome, Result, Ok, Err}
use Rattle.pl_base.specs.declared.stop.Stop.{Stop}
use Rattle.pl_io.specs.declared.shelf.Shelf as shelf
use Rattle.pl_io.specs.Faults.{Rose, raised}
use Rattle.pl_io.specs.Told.{ahead}
use Rattle.pl_capture.specs.Entry.{Entry}
use Rattle.pl_capture.specs.Reading.{reading, Bad}
use Rattle.pl_capture.specs.Standing.{Standing, StandsFor, Holding, start}
use Rattle.pl_excerpt.specs.declared.source.Ended.{Ended}
use Rattle.pl_excerpt.specs.declared.source.Ended.TheVariants as ended
use Rattle.pl_excerpt.specs.declared.source.Fed.{Fed}
use Rattle.pl_excerpt.specs.declared.source.Fed.TheVariants as fed
use Rattle.pl_excerpt.specs.Answer.{answer_at, limit, without_verdict}

pub record Sight : Type 0 where
  pub reader : Standing
  -- what was read and the reader didn't take yet
  pub left : List ℕ
  -- how many bytes the reader took
  pub used : ℕ

abbrev pub fresh : Sight
fresh = record { reader = start; left = []; used = 0 }

-- The reader took these bytes: they, what is left and the rest that the shelf tells are the file,
-- where that is told.
pub record TookBytes (source : Sight) (rest file : Option (List ℕ)) (bytes : List ℕ)
    : Type 0 where
  pub file_is : file ≡ ahead bytes (ahead source.left rest)
  pub stands : StandsFor source.reader bytes
  pub goes_on : (s : Stop) → (reading bytes).ending ≡ Bad s → ⊥
  pub used : source.used ≡ length bytes
  pub within : source.used + length source.left ≤ limit

-- And these are the items in them.
pub record Reached (source : Sight) (rest file : Option (List ℕ)) (items : List Entry)
    : Type 0 where
  pub bytes : List ℕ
  pub took : TookBytes source rest file bytes
  pub items_are : (reading bytes).items ≡ items

-- These items were lent before, and this one is lent now.
pub record Lends (source : Sight) (rest file : Option (List ℕ)) (items : List Entry) (x : Entry)
    : Type 0 where
  pub reached : Reached source rest file (items ++ x ∷ [])
  pub holds : source.reader.phase ≡ Holding x

-- The file has these items and no more, of as many bytes as are read, and ends so.
pub record HasAll (e : Ended) (file : Option (List ℕ)) (items : List Entry) : Type 0 where
  pub items_are : (whole : List ℕ) → file ≡ Some whole → (reading (take limit whole)).items ≡ items
  pub ending_is : (whole : List ℕ) → file ≡ Some whole →
      answer_at (reading (take limit whole)).ending (nat_lt limit (length whole))
      ≡ without_verdict e

-- Why no item is lent: no more could be read, or there is no more.
abbrev pub Halts : Ended → Sight → Option (List ℕ) → Option (List ℕ) → List Entry → Type 0
Halts ended.Fault source rest file items = Reached source rest file items
Halts ended.Whole source rest file items = HasAll ended.Whole file items
Halts ended.TooLong source rest file items = HasAll ended.TooLong file items
Halts (ended.Refused s) source rest file items = HasAll (ended.Refused s) file items

-- What the next item of a file comes to, of which these were lent.
abbrev pub Comes : {T : Type 0} → Result T Ended → Sight → Option (List ℕ) → Option (List ℕ) →
    List Entry → Type 0
Comes (Ok value) source rest file items = (x : Entry) × Lends source rest file items x
Comes (Err e) source rest file items = Halts e source rest file items

-- What comes of the bytes that are left.
abbrev pub Feeds : Fed → Sight → Option (List ℕ) → Option (List ℕ) → List Entry → Type 0
Feeds fed.Nothing source rest file items = Reached source rest file items
Feeds fed.Item source rest file items = (x : Entry) × Lends source rest file items x
Feeds (fed.Bad s) source rest file items = HasAll (ended.Refused s) file items

-- What comes of the next piece.
abbrev pub Refills : {T : Type 0} → Result T Ended → Sight → Option (List ℕ) →
    Option (List ℕ) → List Entry → Type 0
Refills (Ok value) source rest file items = Reached source rest file items
Refills (Err e) source rest file items = Halts e source rest file items

-- ---- what a shelf is after a call

abbrev pub is_fault : Ended → Bool
is_fault ended.Fault = true
is_fault ended.Whole = false
is_fault ended.TooLong = false
is_fault (ended.Refused s) = false

-- a fault of the shelf is answered only where it was counted, and nothing else is counted
abbrev pub EndCause : Ended → ℕ → ℕ → Type 0
EndCause ended.Fault before now = Rose before now
EndCause ended.Whole before now = now ≡ before
EndCause ended.TooLong before now = now ≡ before
EndCause (ended.Refused s) before now = now ≡ before

-- why a call gives nothing, if it doesn't
abbrev pub ended_in : {T : Type 0} → Result T Ended → Option Ended
ended_in (Ok value) = None
ended_in (Err e) = Some e

abbrev pub ShelfCause : Option Ended → ℕ → ℕ → Type 0
ShelfCause None before now = now ≡ before
ShelfCause (Some e) before now = EndCause e before now

abbrev pub NoFault : Option Ended → Type 0
NoFault None = Unit {0}
NoFault (Some e) = is_fault e ≡ false

-- The open file was read, and nothing else: a sure shelf fails at none of it.
pub record Steady {H : Type 0} (S : shelf.Ghosts H) (e : Option Ended) (old new : H)
    : Type 0 where
  pub opened : S.is_open new ≡ true
  pub opens : S.opens new ≡ S.opens old
  pub named : S.open_name new ≡ S.open_name old
  pub told : S.told new ≡ S.told old
  pub files : (other : List ℕ) → S.file new other ≡ S.file old other
  pub sure : S.sure old ≡ true → NoFault e × (S.sure new ≡ true)
  pub cause : ShelfCause e (S.faults old) (S.faults new)

-- The file of this name was opened, and read where that went well.
pub record Opens {H : Type 0} (S : shelf.Ghosts H) (name : List ℕ) (e : Option Ended) (old new : H)
    : Type 0 where
  pub once : S.opens new ≡ raised (S.opens old)
  pub named : S.told old ≡ true → S.is_open new ≡ true → S.open_name new ≡ Some name
  pub told : S.told new ≡ S.told old
  pub files : (other : List ℕ) → S.file new other ≡ S.file old other
  pub sure : S.sure old ≡ true → IsSome (S.file old name) → NoFault e × (S.sure new ≡ true)
  pub cause : ShelfCause e (S.faults old) (S.faults new)
