-- What serving many links writes, answers and leaves.
use Rattle.std.specs.Prelude.{◌≡◌, ℕ, ◌+◌, ◌<◌, ◌≤◌, ◌⊎◌, List, [], ◌∷◌, ◌++◌, length, take, map}
use Rattle.std.specs.Prelude.{Bool, true, false, ◌==◌, nat_lt, if◌then◌else◌, Option, Some, None}
use Rattle.std.specs.List.{count_by, flat_map, list_any}
use Rattle.pl_cli.specs.declared.status.TheConstants.{CLEAN, WRITE_FAULT, DOOR_FAULT}
use Rattle.pl_io.specs.Faults.{last_count, raised}
use Rattle.pl_io.specs.Links.{Coming}
use Rattle.pl_io.specs.Told.{plus}
use Rattle.pl_keeper.specs.Archive.{Archive}
use Rattle.pl_report.specs.ServedLines.{served_text, store_fault_text, door_fault_text}
use Rattle.pl_web.specs.Turns.{Turn, line_of}
use Rattle.pl_web.specs.declared.serve.Served.{Served}
use Rattle.pl_cli.specs.declared.serving.Turned.{Turned}
use Rattle.pl_cli.specs.declared.serving.Turned.TheVariants as turned

-- a link that was served: what became of its request, and what it had written
pub record Handled : Type 0 where
  pub served : Served
  pub written : List ℕ

-- one link after another, from the rows before the first to those behind the last
abbrev pub Turns : List Coming → Archive → Archive → ℕ → ℕ → List Handled → Type 0
Turns [] a after before now [] = (after ≡ a) × (now ≡ before)
Turns [] a after before now (h ∷ handled) = ⊥
Turns (link ∷ links) a after before now [] = ⊥
Turns (link ∷ links) a after before now (h ∷ handled) =
    (mid : Archive) × (count : ℕ) × Turn link a mid before count h.written h.served
    × Turns links mid after count now handled

-- the replies of a door with those to these links
abbrev pub ClosedAll : Option (List (List ℕ)) → List Handled → Option (List (List ℕ)) → Type 0
ClosedAll None handled new = Unit {0}
ClosedAll (Some replies) handled new = new ≡ Some (replies ++ map (λ h. h.written) handled)

-- The links were served one after another: the door's replies have what each had written, and over
-- each archive that the keeper told the turns are as they should be, where the keeper lives.
pub record ServesAll (links : List Coming) (Lives : Type 0) (Told Tells : Archive → Type 0)
    (before now : ℕ) (old new : Option (List (List ℕ))) (handled : List Handled) : Type 0 where
  pub each : length handled ≡ length links
  pub closed : ClosedAll old handled new
  pub turns : Lives → (a : Archive) → Told a
      → (after : Archive) × Tells after × Turns links a after before now handled

-- a line for each link
abbrev pub served_lines : List Handled → List ℕ
served_lines handled = flat_map (λ h. served_text (line_of h.served)) handled

-- a call of the keeper failed
abbrev pub store_failed : Handled → Bool
store_failed h = h.served.status == 503

-- a fault of the keeper goes before one of the door
abbrev pub last_text : (store door : Bool) → List ℕ
last_text true door = store_fault_text
last_text false true = door_fault_text
last_text false false = []

abbrev pub fault_status : (store door : Bool) → ℕ
fault_status true door = 10
fault_status false true = 11
fault_status false false = 0

-- a failed call of the keeper is answered with 503
abbrev pub is_store : ℕ → Bool
is_store status = status == 503

-- so many at most, unless the count of the keeper stands at its last value
abbrev pub Counted : List ℕ → ℕ → ℕ → Type 0
Counted statuses before now = (before + count_by is_store statuses ≤ now) ⊎ (now ≡ last_count)

-- Whatever door and keeper: a line for each turn, unless the door gave no link, and then the last
-- line. No more lines tell of a failed keeper than its count rose by.
pub record Lines (turns before now : ℕ) (old new : Option (List ℕ)) (answer : ℕ) : Type 0 where
  pub statuses : List ℕ
  pub store : Bool
  pub door : Bool
  pub most : length statuses ≤ turns
  pub all : door ≡ false → length statuses ≡ turns
  pub written : new ≡ plus old (flat_map served_text statuses ++ last_text store door)
  pub status : answer ≡ fault_status store door
  pub stores : Counted statuses before now

-- where the links to come were told: so many were served as there are, or as there are turns
pub record Session (links : List Coming) (turns : ℕ) (Lives : Type 0)
    (Told Tells : Archive → Type 0) (before now : ℕ) (old new : Option (List (List ℕ)))
    (written_old written_new : Option (List ℕ)) (door_before door_now answer : ℕ) : Type 0 where
  pub handled : List Handled
  pub serves : ServesAll (take turns links) Lives Told Tells before now old new handled
  pub written : written_new ≡ plus written_old (served_lines handled
      ++ last_text (list_any store_failed handled) (nat_lt (length links) turns))
  pub status : answer ≡ fault_status (list_any store_failed handled) (nat_lt (length links) turns)
  pub door : door_now
      ≡ (if nat_lt (length links) turns then raised door_before else door_before)

-- the count rose, or stands at its last value
abbrev pub Risen : ℕ → ℕ → Type 0
Risen before now = (before < now) ⊎ (now ≡ last_count)

-- a link was served and its line was written
abbrev pub IsServed : Turned → Type 0
IsServed turned.Served = Unit {0}
IsServed turned.StoreFailed = Unit {0}
IsServed turned.NoLink = ⊥
IsServed turned.Unwritten = ⊥

abbrev pub failed_store : Turned → Bool
failed_store turned.Served = false
failed_store turned.StoreFailed = true
failed_store turned.NoLink = false
failed_store turned.Unwritten = false

abbrev pub turned_by : Served → Turned
turned_by served = if served.status == 503 then turned.StoreFailed else turned.Served

-- what serving answers: all is well, a line couldn't be written, memory was wanting, or a call of
-- the keeper or of the door failed
abbrev pub IsServeStatus : ℕ → Type 0
IsServeStatus answer = (answer ≡ CLEAN) ⊎ ((WRITE_FAULT ≤ answer) × (answer ≤ DOOR_FAULT))
