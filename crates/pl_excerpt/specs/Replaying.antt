-- The second reading on its way: the lanes hear what the engine hears.
use Rattle.std.specs.Prelude.{◌≡◌, ◌≢◌, ℕ, ◌<◌, List, ◌∷◌, length, None, Result, Ok, Err}
use Rattle.pl_base.specs.declared.link.Dir.{Dir}
use Rattle.pl_base.specs.declared.link.Dir.TheVariants.{Down, Up}
use Rattle.pl_capture.specs.declared.item.ItemKind.TheVariants.{Tlp}
use Rattle.pl_capture.specs.Entry.{Entry}
use Rattle.pl_seq.specs.declared.place.Place.TheVariants.{Taken}
use Rattle.pl_seq.specs.Lane as lane
use Rattle.pl_seq.specs.Runs.{place_of}
use Rattle.pl_engine.specs.declared.engine.Engine.{Engine}
use Rattle.pl_engine.specs.Engine.{StandsFor}
use Rattle.pl_engine.specs.Events.{lane_events, number_after}
use Rattle.pl_engine.specs.Packets.{sequence_number}
use Rattle.pl_engine.specs.State.{state_of}
use Rattle.pl_engine.specs.Verdicts.{blocked}
use Rattle.pl_io.specs.Faults.{Rose}
use Rattle.pl_excerpt.specs.declared.lanes.Lanes.{Lanes}
use Rattle.pl_excerpt.specs.declared.outcome.Outcome.{Outcome}
use Rattle.pl_excerpt.specs.declared.outcome.Outcome.TheVariants as outcome

-- the lane of a direction
abbrev pub lane_in : Dir → Lanes → lane.Kept
lane_in Down lanes = lanes.down
lane_in Up lanes = lanes.up

pub record LanesStandFor (lanes : Lanes) (past : List Entry) : Type 0 where
  pub down_is : lane.StandsFor lanes.down (lane_events Down past)
  pub up_is : lane.StandsFor lanes.up (lane_events Up past)

-- both lanes have this room, and heard of no TLP from number `at` on
pub record AreReady (room at : ℕ) (lanes : Lanes) : Type 0 where
  pub down_room : lanes.down.room ≡ room
  pub up_room : lanes.up.room ≡ room
  pub down_rises : lane.latest_position lanes.down.latest_tlp < at
  pub up_rises : lane.latest_position lanes.up.latest_tlp < at

-- there is room for the item, where it is a TLP that has the next number
abbrev pub HasRoomFor : Lanes → Entry → Type 0
HasRoomFor lanes x = x.kind ≡ Tlp →
    place_of (lane_in x.dir lanes).run (sequence_number x.body) (state_of x) ≡ Taken →
    length (lane_in x.dir lanes).unacknowledged ≢ (lane_in x.dir lanes).room

-- the engine and the lanes heard the same items, and the next one has this number
pub record Follows (engine : Engine) (lanes : Lanes) (at : ℕ) : Type 0 where
  pub past : List Entry
  pub engine_stands : StandsFor engine past
  pub lanes_stand : LanesStandFor lanes past
  pub number_is : number_after past ≡ at
  pub ready : AreReady engine.profile.unacknowledged at lanes

-- the engine judged the item
pub record Judges (old new : Engine) (x : Entry) : Type 0 where
  pub profile : new.profile ≡ old.profile
  pub allowed : (past : List Entry) → StandsFor old past → blocked old.profile past x ≡ None
  pub stands : (past : List Entry) → StandsFor old past → StandsFor new (x ∷ past)

-- ---- the answers of the second reading

-- it never says that there is no verdict
abbrev pub IsOfCopy : Outcome → Type 0
IsOfCopy outcome.Done = Unit {0}
IsOfCopy outcome.Changed = Unit {0}
IsOfCopy outcome.ReadFault = Unit {0}
IsOfCopy outcome.WriteFault = Unit {0}
IsOfCopy outcome.NoVerdict = ⊥
IsOfCopy outcome.Length = ⊥
IsOfCopy (outcome.Stop s) = ⊥

-- a fault of the sink is answered only where it was counted, and nothing else is counted
abbrev pub SinkCause : Outcome → ℕ → ℕ → Type 0
SinkCause outcome.WriteFault before now = Rose before now
SinkCause outcome.Done before now = now ≡ before
SinkCause outcome.Changed before now = now ≡ before
SinkCause outcome.ReadFault before now = now ≡ before
SinkCause outcome.NoVerdict before now = now ≡ before
SinkCause outcome.Length before now = now ≡ before
SinkCause (outcome.Stop s) before now = now ≡ before

abbrev pub IsOfCopyIn : {T : Type 0} → Result T Outcome → Type 0
IsOfCopyIn (Ok value) = Unit {0}
IsOfCopyIn (Err answer) = IsOfCopy answer

abbrev pub SinkCauseIn : {T : Type 0} → Result T Outcome → ℕ → ℕ → Type 0
SinkCauseIn (Ok value) before now = now ≡ before
SinkCauseIn (Err answer) before now = SinkCause answer before now
