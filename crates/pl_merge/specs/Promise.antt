-- What `merge` promises: of all that it may come to, what it read, wrote and answers.
-- Shelves and sink are seen by what they tell of themselves, before and after.
use Rattle.std.specs.Prelude.{◌≡◌, ◌≢◌, ◌≤◌, ◌<◌, ◌⊎◌, ℕ, max, List, ◌++◌, length, true, false}
use Rattle.std.specs.Prelude.{Option, Some, IsSome}
use Rattle.pl_io.specs.declared.shelf.Shelf as shelf
use Rattle.pl_io.specs.declared.sink.Sink as sink
use Rattle.pl_io.specs.Faults.{Rose, raised}
use Rattle.pl_io.specs.Told.{plus}
use Rattle.pl_capture.specs.Reading.{version_read}
use Rattle.pl_capture.specs.Record.{header_of}
use Rattle.pl_page.specs.Gathers.{Fails, Tells, tells}
use Rattle.pl_status.specs.declared.TheConstants.{CLEAN, MALFORMED, READ_FAULT, WRITE_FAULT}
use Rattle.pl_status.specs.declared.TheConstants.{WRONG_DIRECTION, FALLEN_TIME}
use Rattle.pl_merge.specs.Merged.{Placed}
use Rattle.pl_merge.specs.Mixing.{IsRead, ReadShort}
use Rattle.pl_merge.specs.Output.{outcome_of, records_of}

-- The shelf tells its files, and this is the one of that name.
pub record IsTold {H : Type 0} (S : shelf.Ghosts H) (name bytes : List ℕ) (at : H) : Type 0 where
  pub told : S.told at ≡ true
  pub file : S.file at name ≡ Some bytes

-- The header of a file couldn't be read: the file couldn't be opened, or fewer bytes were read.
abbrev pub IsHeaderless : {H : Type 0} → shelf.Ghosts H → List ℕ → H → Type 0
IsHeaderless S file new =
    (S.is_open new ≡ false)
    ⊎ ((read : List ℕ) × IsRead read file (S.rest new) × (length read < 16))

-- the version of the merged capture: the greater one of both headers
abbrev pub IsVersion : List ℕ → List ℕ → ℕ → Type 0
IsVersion a b version =
    (one : ℕ) × (two : ℕ) × (version_read a ≡ Some one) × (version_read b ≡ Some two)
    × (version ≡ max one two)

-- A file couldn't be read on: what is written is the header and the items up to its last one, of
-- all that were read of both.
pub record IsCut (a b : List ℕ) (rest rest2 : Option (List ℕ)) (start now : Tells) : Type 0 where
  pub version : ℕ
  pub version_is : IsVersion a b version
  pub all : List Placed
  pub short : ReadShort a b rest rest2 all
  pub written : now.written ≡ plus start.written (header_of version 0 ++ records_of all)

-- Both headers were taken: what is written of both files, and the answer.
pub record WritesBoth (a b : List ℕ) (rest rest2 : Option (List ℕ)) (start now : Tells)
    (answer : ℕ) : Type 0 where
  pub exact : answer ≢ READ_FAULT → answer ≢ WRITE_FAULT →
      (now.written ≡ plus start.written (outcome_of a b).bytes)
      × (answer ≡ (outcome_of a b).status)
  pub cut : answer ≡ READ_FAULT → IsCut a b rest rest2 start now
  pub part : answer ≡ WRITE_FAULT → Fails (outcome_of a b).bytes start now

-- The statuses of `merge`.
abbrev pub IsStatus : ℕ → Type 0
IsStatus answer =
    (answer ≡ CLEAN) ⊎ (((MALFORMED ≤ answer) × (answer ≤ WRITE_FAULT))
    ⊎ ((WRONG_DIRECTION ≤ answer) × (answer ≤ FALLEN_TIME)))

-- The first file was asked for once. The second was too, or its shelf is as it was.
pub record AsksFor {H : Type 0} (S : shelf.Ghosts H) (name : List ℕ) (old new : H) : Type 0 where
  pub once : S.opens new ≡ raised (S.opens old)
  pub named : S.told old ≡ true → S.is_open new ≡ true → S.open_name new ≡ Some name

pub record Merges {H O : Type 0} (S : shelf.Ghosts H) (T : sink.Ghosts O) (down up : List ℕ)
    (first first' second second' : H) (out out' : O) (answer : ℕ) : Type 0 where
  -- Where both shelves tell their files, and no fault is answered, the outcome of both files was
  -- written, and its status is answered.
  pub exact : (a b : List ℕ) → IsTold S down a first → IsTold S up b second →
      answer ≢ READ_FAULT → answer ≢ WRITE_FAULT →
      (T.written out' ≡ plus (T.written out) (outcome_of a b).bytes)
      × (answer ≡ (outcome_of a b).status)
  -- Where a file couldn't be read, nothing was written, or what was read of both up to its last
  -- item.
  pub cut_short : (a b : List ℕ) → IsTold S down a first → IsTold S up b second →
      answer ≡ READ_FAULT →
      ((T.written out' ≡ T.written out) × (IsHeaderless S a first' ⊎ IsHeaderless S b second'))
      ⊎ IsCut a b (S.rest first') (S.rest second') (tells T out) (tells T out')
  -- Where the sink failed, a part of the outcome was written, for all of which it had no room.
  pub part : (a b : List ℕ) → IsTold S down a first → IsTold S up b second →
      answer ≡ WRITE_FAULT → Fails (outcome_of a b).bytes (tells T out) (tells T out')
  -- Nothing is written where a file couldn't be opened.
  pub unopened : (S.is_open first' ≡ false) ⊎ (S.is_open second' ≡ false) →
      T.written out' ≡ T.written out
  pub asks : AsksFor S down first first'
  pub asks_next : (second' ≡ second) ⊎ AsksFor S up second second'
  -- Each status has its cause, and a fault is answered only where it was counted.
  pub status : IsStatus answer
  pub read_fault : answer ≡ READ_FAULT →
      Rose (S.faults first) (S.faults first') ⊎ Rose (S.faults second) (S.faults second')
  pub read_kept : answer ≢ READ_FAULT → answer ≢ WRITE_FAULT →
      (S.faults first' ≡ S.faults first) × (S.faults second' ≡ S.faults second)
  pub write_fault : answer ≡ WRITE_FAULT → Rose (T.faults out) (T.faults out')
  pub write_kept : answer ≢ WRITE_FAULT → T.faults out' ≡ T.faults out
  -- It makes no fault of its own: none of two sure shelves that have the files.
  pub sure : S.sure first ≡ true → S.sure second ≡ true → IsSome (S.file first down) →
      IsSome (S.file second up) → answer ≢ READ_FAULT
      × (S.faults first' ≡ S.faults first) × (S.faults second' ≡ S.faults second)
