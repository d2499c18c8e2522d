-- A file on the way: what was taken of it, and what is known of the file then.
use Rattle.std.specs.Prelude.{◌≡◌, ℕ, ◌+◌, ◌<◌, ◌≤◌, ◌⊎◌, Bool, true, false, List, [], ◌∷◌}
use Rattle.std.specs.Prelude.{◌++◌, length, Option, Some, None, IsSome, Result}
use Rattle.std.specs.Prelude.{Ok, Err}
use Rattle.pl_base.specs.declared.link.Dir.{Dir}
use Rattle.pl_base.specs.declared.stop.Stop.{Stop}
use Rattle.pl_io.specs.declared.shelf.Shelf as shelf
use Rattle.pl_io.specs.Faults.{Rose, raised}
use Rattle.pl_io.specs.Told.{ahead}
use Rattle.pl_capture.specs.Entry.{Entry}
use Rattle.pl_capture.specs.Reading.{reading, Bad, end_time, version_read}
use Rattle.pl_capture.specs.Standing.{Standing, StandsFor, Holding, start, lent}
use Rattle.pl_merge.specs.declared.end.End.{End}
use Rattle.pl_merge.specs.declared.end.End.TheVariants.{Ended}
use Rattle.pl_merge.specs.declared.end.Halt.{Halt}
use Rattle.pl_merge.specs.declared.end.Halt.TheVariants as halt
use Rattle.pl_merge.specs.declared.side.Fed.{Fed}
use Rattle.pl_merge.specs.declared.side.Fed.TheVariants as fed
use Rattle.pl_merge.specs.Lawful.{Lawful, behind, lawful_after, lawful_of, limit}
use Rattle.pl_merge.specs.Merged.{is_ended}

pub record Sight : Type 0 where
  pub dir : Dir
  pub reader : Standing
  -- what was read and the reader didn't take yet
  pub left : List ℕ
  -- how many bytes the reader took
  pub used : ℕ
  -- the time of the latest lawful item
  pub latest : ℕ

abbrev pub fresh : Dir → Sight
fresh dir = record { dir = dir; reader = start; left = []; used = 0; latest = 0 }

-- All of these items are lawful and the last one has this time, whatever comes behind them.
abbrev pub IsLawfulTo : Dir → ℕ → List Entry → Type 0
IsLawfulTo dir latest items =
    (more : List Entry) (e : End) → lawful_after dir 0 (items ++ more) e
    ≡ behind items (lawful_after dir latest more e)

-- The reader took these bytes: they, what is left and the rest that the shelf tells are the file,
-- where that is told.
pub record TookBytes (side : Sight) (rest file : Option (List ℕ)) (bytes : List ℕ) : Type 0 where
  pub file_is : file ≡ ahead bytes (ahead side.left rest)
  pub stands : StandsFor side.reader bytes
  pub goes_on : (s : Stop) → (reading bytes).ending ≡ Bad s → ⊥
  pub used : side.used ≡ length bytes
  pub within : side.used + length side.left ≤ limit

-- And these are the items in them, all lawful.
pub record Reached (side : Sight) (rest file : Option (List ℕ)) (items : List Entry)
    : Type 0 where
  pub bytes : List ℕ
  pub took : TookBytes side rest file bytes
  pub items_are : (reading bytes).items ≡ items
  pub lawful : IsLawfulTo side.dir side.latest items

-- Or there is one more, which isn't judged yet.
pub record Unjudged (side : Sight) (rest file : Option (List ℕ)) (items : List Entry)
    (x : Entry) : Type 0 where
  pub bytes : List ℕ
  pub took : TookBytes side rest file bytes
  pub items_are : (reading bytes).items ≡ items ++ x ∷ []
  pub lawful : IsLawfulTo side.dir side.latest items

-- These items were lent before, and this one is lent now.
pub record Lends (side : Sight) (rest file : Option (List ℕ)) (items : List Entry) (x : Entry)
    : Type 0 where
  pub reached : Reached side rest file (items ++ x ∷ [])
  pub holds : side.reader.phase ≡ Holding x

-- Or all were: the file is lawful to its end, and nothing is left of it.
pub record Over (side : Sight) (rest file : Option (List ℕ)) (items : List Entry) : Type 0 where
  pub none_left : (whole : List ℕ) → file ≡ Some whole → rest ≡ Some []
  pub lawful : (whole : List ℕ) → file ≡ Some whole →
      lawful_of side.dir whole ≡ record { items = items; end = Ended }
  pub time : (whole : List ℕ) → file ≡ Some whole →
      side.reader.end_time ≡ Some (end_time whole)

abbrev pub Waits : Sight → Option (List ℕ) → Option (List ℕ) → List Entry → Option Entry → Type 0
Waits side rest file items None = Over side rest file items
Waits side rest file items (Some x) = Lends side rest file items x

-- The file has these lawful items and no more, and this stands behind them.
pub record Stops (dir : Dir) (file : Option (List ℕ)) (items : List Entry) (e : End)
    : Type 0 where
  pub lawful : (whole : List ℕ) → file ≡ Some whole →
      lawful_of dir whole ≡ record { items = items; end = e }
  pub unlawful : is_ended e ≡ false

-- No more could be read: all that was is taken.
pub record Lost (side : Sight) (rest file : Option (List ℕ)) (items : List Entry) : Type 0 where
  pub reached : Reached side rest file items
  pub none_left : side.left ≡ []

-- Why no item is lent.
abbrev pub Halts : Halt → Sight → Option (List ℕ) → Option (List ℕ) → List Entry → Type 0
Halts (halt.Stops e) side rest file items = Stops side.dir file items e
Halts halt.ReadFault side rest file items = Lost side rest file items
Halts halt.WriteFault side rest file items = ⊥

-- What the next item of a file comes to, of which these were lent.
abbrev pub Comes : {T : Type 0} → Result T Halt → Sight → Option (List ℕ) → Option (List ℕ) →
    List Entry → Type 0
Comes (Ok value) side rest file items = Waits side rest file items (lent side.reader.phase)
Comes (Err h) side rest file items = Halts h side rest file items

-- What comes of the bytes that are left.
abbrev pub Feeds : Fed → Sight → Option (List ℕ) → Option (List ℕ) → List Entry → Type 0
Feeds fed.Nothing side rest file items = Reached side rest file items
Feeds fed.Item side rest file items = (x : Entry) × Lends side rest file items x
Feeds (fed.Stops e) side rest file items = Stops side.dir file items e

-- What comes of the next piece: whether there is one.
abbrev pub Refills : Result Bool Halt → Sight → Option (List ℕ) → Option (List ℕ) → List Entry →
    Type 0
Refills (Ok true) side rest file items = Reached side rest file items
Refills (Ok false) side rest file items = Over side rest file items
Refills (Err h) side rest file items = Halts h side rest file items

-- The header of the file was taken, and nothing behind it.
pub record TookHeader (side : Sight) (rest file : Option (List ℕ)) : Type 0 where
  pub reached : Reached side rest file []
  pub told : (whole : List ℕ) → file ≡ Some whole →
      version_read whole ≡ Some side.reader.version

-- A file whose header is refused.
pub record RefusesHeader (dir : Dir) (file : Option (List ℕ)) (e : End) : Type 0 where
  pub stops : Stops dir file [] e
  pub none : (whole : List ℕ) → file ≡ Some whole → version_read whole ≡ None

-- Or no more could be read before it was whole.
pub record LacksHeader (rest file : Option (List ℕ)) : Type 0 where
  pub read : List ℕ
  pub short : length read < 16
  pub file_is : file ≡ ahead read rest

abbrev pub HeaderHalts : Halt → Sight → Option (List ℕ) → Option (List ℕ) → Type 0
HeaderHalts (halt.Stops e) side rest file = RefusesHeader side.dir file e
HeaderHalts halt.ReadFault side rest file = LacksHeader rest file
HeaderHalts halt.WriteFault side rest file = ⊥

abbrev pub HeaderComes : {T : Type 0} → Result T Halt → Sight → Option (List ℕ) →
    Option (List ℕ) → Type 0
HeaderComes (Ok value) side rest file = TookHeader side rest file
HeaderComes (Err h) side rest file = HeaderHalts h side rest file

abbrev pub FeedsHeader : Option End → Sight → Option (List ℕ) → Option (List ℕ) → Type 0
FeedsHeader None side rest file = Reached side rest file []
FeedsHeader (Some e) side rest file = RefusesHeader side.dir file e

-- What was taken of the file is the whole of it.
abbrev pub IsWhole : Sight → Option (List ℕ) → Type 0
IsWhole side rest =
    (file : Option (List ℕ)) (items : List Entry) (whole : List ℕ) → Reached side rest file items →
    file ≡ Some whole → length whole ≡ side.used

-- A header was accepted, of a version that is known.
pub record IsBegun (side : Sight) : Type 0 where
  pub begun : 0 < side.reader.place
  pub version : side.reader.version ≡ 1 ⊎ side.reader.version ≡ 2
  pub bound : side.used + length side.left ≤ limit

-- the time of an end record, 0 where none was taken
abbrev pub time_or_none : Option ℕ → ℕ
time_or_none None = 0
time_or_none (Some time) = time

-- An answer other than an end took some of the bytes.
abbrev pub IsOn : Fed → ℕ → ℕ → Type 0
IsOn fed.Nothing used used' = used < used'
IsOn fed.Item used used' = used < used'
IsOn (fed.Stops e) used used' = used ≤ used'

-- ---- what a shelf is after a call

abbrev pub NoReadFault : {T : Type 0} → Result T Halt → Type 0
NoReadFault (Ok value) = Unit {0}
NoReadFault (Err (halt.Stops e)) = Unit {0}
NoReadFault (Err halt.ReadFault) = ⊥
NoReadFault (Err halt.WriteFault) = Unit {0}

abbrev pub NoWriteFault : {T : Type 0} → Result T Halt → Type 0
NoWriteFault (Ok value) = Unit {0}
NoWriteFault (Err (halt.Stops e)) = Unit {0}
NoWriteFault (Err halt.ReadFault) = Unit {0}
NoWriteFault (Err halt.WriteFault) = ⊥

abbrev pub IsReadFault : {T : Type 0} → Result T Halt → Type 0
IsReadFault (Ok value) = ⊥
IsReadFault (Err (halt.Stops e)) = ⊥
IsReadFault (Err halt.ReadFault) = Unit {0}
IsReadFault (Err halt.WriteFault) = ⊥

-- a fault of the shelf is answered only where it was counted, and nothing else is counted
abbrev pub ShelfCause : {T : Type 0} → Result T Halt → ℕ → ℕ → Type 0
ShelfCause (Ok value) before now = now ≡ before
ShelfCause (Err (halt.Stops e)) before now = now ≡ before
ShelfCause (Err halt.ReadFault) before now = Rose before now
ShelfCause (Err halt.WriteFault) before now = now ≡ before

-- The open file was read, and nothing else: a sure shelf fails at none of it.
pub record Steady {H T : Type 0} (S : shelf.Ghosts H) (result : Result T Halt) (old new : H)
    : Type 0 where
  pub opened : S.is_open new ≡ true
  pub opens : S.opens new ≡ S.opens old
  pub named : S.open_name new ≡ S.open_name old
  pub sure : S.sure old ≡ true → NoReadFault result × (S.sure new ≡ true)
  pub cause : ShelfCause result (S.faults old) (S.faults new)

-- The file of this name was opened, where that went well, and its header taken.
pub record Opens {H T : Type 0} (S : shelf.Ghosts H) (result : Result T Halt) (name : List ℕ)
    (side : Sight) (old new : H) : Type 0 where
  pub once : S.opens new ≡ raised (S.opens old)
  pub named : S.told old ≡ true → S.is_open new ≡ true → S.open_name new ≡ Some name
  pub unopened : S.is_open new ≡ false → IsReadFault result
  pub opened : S.is_open new ≡ true →
      (file : Option (List ℕ)) × (S.told old ≡ true → file ≡ S.file old name)
      × HeaderComes result side (S.rest new) file
  pub sure : S.sure old ≡ true → IsSome (S.file old name) →
      NoReadFault result × (S.sure new ≡ true)
  pub cause : ShelfCause result (S.faults old) (S.faults new)
