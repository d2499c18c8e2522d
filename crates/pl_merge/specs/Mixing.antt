-- Two files on the way: what was merged of them.
use Rattle.std.specs.Prelude.{◌≡◌, ℕ, nat_lt, List, [], ◌∷◌, ◌++◌, length, Option, Some, None}
use Rattle.std.specs.Prelude.{◌⊎◌, true, Result, Ok, Err, if◌then◌else◌}
use Rattle.pl_base.specs.declared.link.Dir.{Dir}
use Rattle.pl_base.specs.declared.link.Dir.TheVariants.{Down, Up}
use Rattle.pl_io.specs.declared.shelf.Shelf as shelf
use Rattle.pl_io.specs.Faults.{Rose}
use Rattle.pl_capture.specs.Entry.{Entry}
use Rattle.pl_capture.specs.Record.{header_of, record_of}
use Rattle.pl_capture.specs.Standing.{lent}
use Rattle.pl_page.specs.Gathers.{Fails, Gathers, Tells}
use Rattle.pl_merge.specs.declared.end.End.{End}
use Rattle.pl_merge.specs.declared.end.Halt.{Halt}
use Rattle.pl_merge.specs.declared.end.Halt.TheVariants as halt
use Rattle.pl_merge.specs.Lawful.{lawful_of}
use Rattle.pl_merge.specs.Merged.{Placed, merged, to_last}
use Rattle.pl_merge.specs.Output.{Outcome, outcome_in, records_of, status_of}
use Rattle.pl_merge.specs.Sides.{Lost, NoReadFault, Sight, Stops, Waits}

-- the file whose item is next, by the times of both
abbrev pub next_by : Option ℕ → Option ℕ → Option Dir
next_by None None = None
next_by (Some time) None = Some Down
next_by None (Some time) = Some Up
next_by (Some time) (Some other) = if nat_lt other time then Some Up else Some Down

abbrev pub time_of : Option Entry → Option ℕ
time_of None = None
time_of (Some x) = Some x.time

abbrev pub next_of : Option Entry → Option Entry → Option Dir
next_of w v = next_by (time_of w) (time_of v)

-- ---- an item of one file

-- Its record came behind this text, and what is next in its file is known.
abbrev pub PassHalts : Halt → Sight → Option (List ℕ) → Option (List ℕ) → List Entry →
    List ℕ → List ℕ → Tells → Tells → Type 0
PassHalts (halt.Stops e) side rest file items page text start now =
    Stops side.dir file items e × Gathers [] page text start now
PassHalts halt.ReadFault side rest file items page text start now =
    Lost side rest file items × Gathers [] page text start now
PassHalts halt.WriteFault side rest file items page text start now = Fails text start now

abbrev pub Passes : {T : Type 0} → Result T Halt → Sight → Option (List ℕ) →
    Option (List ℕ) → List Entry → List ℕ → List ℕ → Tells → Tells → Type 0
Passes (Ok value) side rest file items page text start now =
    Waits side rest file items (lent side.reader.phase) × Gathers [] page text start now
Passes (Err h) side rest file items page text start now =
    PassHalts h side rest file items page text start now

abbrev pub SinkCause : {T : Type 0} → Result T Halt → ℕ → ℕ → Type 0
SinkCause (Ok value) before now = now ≡ before
SinkCause (Err (halt.Stops e)) before now = now ≡ before
SinkCause (Err halt.ReadFault) before now = now ≡ before
SinkCause (Err halt.WriteFault) before now = Rose before now

-- ---- what the shelves are after a call

abbrev pub ReadCause : {T : Type 0} → Result T Halt → ℕ → ℕ → ℕ → ℕ → Type 0
ReadCause (Ok value) before now other other' = (now ≡ before) × (other' ≡ other)
ReadCause (Err (halt.Stops e)) before now other other' = (now ≡ before) × (other' ≡ other)
ReadCause (Err halt.ReadFault) before now other other' = Rose before now ⊎ Rose other other'
ReadCause (Err halt.WriteFault) before now other other' = (now ≡ before) × (other' ≡ other)

-- The same file is open still.
pub record Stays {H : Type 0} (S : shelf.Ghosts H) (old new : H) : Type 0 where
  pub opened : S.is_open new ≡ true
  pub opens : S.opens new ≡ S.opens old
  pub named : S.open_name new ≡ S.open_name old

-- Both open files were read, and nothing else: two sure shelves fail at none of it.
pub record ReadBoth {H T : Type 0} (S : shelf.Ghosts H) (result : Result T Halt)
    (first first' second second' : H) : Type 0 where
  pub one_stays : Stays S first first'
  pub two_stays : Stays S second second'
  pub sure : S.sure first ≡ true → S.sure second ≡ true → NoReadFault result
  pub cause : ReadCause result (S.faults first) (S.faults first')
      (S.faults second) (S.faults second')

-- ---- the items of both

-- these begin with the one that waits, or are none where none does
abbrev pub Begins : Option Entry → List Entry → Type 0
Begins None xs = xs ≡ []
Begins (Some x) xs = (more : List Entry) × (xs ≡ x ∷ more)

-- All of these were merged of the items before those that wait, whatever comes behind.
pub record IsSplit (before other : List Entry) (w v : Option Entry) (all : List Placed)
    : Type 0 where
  pub on : (xs ys : List Entry) → Begins w xs → Begins v ys →
      merged (before ++ xs) (other ++ ys) ≡ all ++ merged xs ys

-- So far these were gathered behind a header.
pub record Mixed (first second : Option (List ℕ)) (one two : Sight) (rest rest2 : Option (List ℕ))
    (page head : List ℕ) (start now : Tells) (count : ℕ) : Type 0 where
  pub before : List Entry
  pub other : List Entry
  pub all : List Placed
  pub one_waits : Waits one rest first before (lent one.reader.phase)
  pub two_waits : Waits two rest2 second other (lent two.reader.phase)
  pub split : IsSplit before other (lent one.reader.phase) (lent two.reader.phase) all
  pub gathers : Gathers [] page (head ++ records_of all) start now
  pub counted : count ≡ length all

-- A text is a front of the one that is written of both files, behind its header.
abbrev pub IsFrontOf : List ℕ → List ℕ → List ℕ → Type 0
IsFrontOf text a b =
    (version time : ℕ) → (more : List ℕ)
    × ((outcome_in version time (lawful_of Down a) (lawful_of Up b)).bytes
    ≡ header_of version 0 ++ (text ++ more))

-- A file isn't lawful to its end, and decides.
pub record Decides (first second : Option (List ℕ)) (all : List Placed) (e : End) : Type 0 where
  pub outcome : (a b : List ℕ) → first ≡ Some a → second ≡ Some b → (version time : ℕ) →
      outcome_in version time (lawful_of Down a) (lawful_of Up b)
      ≡ record { bytes = header_of version 0 ++ records_of all; status = status_of e }

-- These bytes of a file were read, and this rest is left.
abbrev pub IsRead : List ℕ → List ℕ → Option (List ℕ) → Type 0
IsRead read file rest = (left : List ℕ) × (file ≡ read ++ left) × (rest ≡ Some left)

-- A file couldn't be read on: these are the items up to its last one, of all that were read.
pub record ReadShort (a b : List ℕ) (rest rest2 : Option (List ℕ)) (all : List Placed)
    : Type 0 where
  pub file : Dir
  pub read : List ℕ
  pub other : List ℕ
  pub read_is : IsRead read a rest
  pub other_is : IsRead other b rest2
  pub all_are : all ≡ to_last file (merged (lawful_of Down read).items (lawful_of Up other).items)
  pub front : IsFrontOf (records_of all) a b

-- What was merged at last, and why no more is.
pub record Cut (page head : List ℕ) (start now : Tells) : Type 0 where
  pub all : List Placed
  pub gathers : Gathers [] page (head ++ records_of all) start now

abbrev pub MixHalts : Halt → Option (List ℕ) → Option (List ℕ) → Option (List ℕ) →
    Option (List ℕ) → List ℕ → List ℕ → Tells → Tells → Type 0
MixHalts (halt.Stops e) first second rest rest2 page head start now =
    (cut : Cut page head start now) × Decides first second cut.all e
MixHalts halt.ReadFault first second rest rest2 page head start now =
    (cut : Cut page head start now)
    × ((a b : List ℕ) → first ≡ Some a → second ≡ Some b → ReadShort a b rest rest2 cut.all)
MixHalts halt.WriteFault first second rest rest2 page head start now =
    (text : List ℕ) × Fails (head ++ text) start now
    × ((a b : List ℕ) → first ≡ Some a → second ≡ Some b → IsFrontOf text a b)

-- What merging comes to: all items of both files, as many as it answers.
abbrev pub Mixes : Result ℕ Halt → Option (List ℕ) → Option (List ℕ) → Sight → Sight →
    Option (List ℕ) → Option (List ℕ) → List ℕ → List ℕ → Tells → Tells → Type 0
Mixes (Ok count) first second one two rest rest2 page head start now =
    Mixed first second one two rest rest2 page head start now count
    × (lent one.reader.phase ≡ None) × (lent two.reader.phase ≡ None)
Mixes (Err h) first second one two rest rest2 page head start now =
    MixHalts h first second rest rest2 page head start now
