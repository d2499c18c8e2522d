-- What is known of a TLP when its receiver takes it.
use Rattle.std.specs.Prelude.{◌≡◌, ◌≢◌, Bool, true, false, List, length}
use Rattle.pl_base.specs.declared.link.Body.{Body}
use Rattle.pl_capture.specs.declared.item.ItemKind.TheVariants.{Tlp}
use Rattle.pl_capture.specs.Entry.{Entry, IsLawful}
use Rattle.pl_tlp.specs.Fields.{Outcome, view_of}
use Rattle.pl_profile.specs.declared.profile.Profile.{Profile}
use Rattle.pl_seq.specs.declared.place.Place.TheVariants.{Taken}
use Rattle.pl_seq.specs.History as lane
use Rattle.pl_seq.specs.Runs.{place_of}
use Rattle.pl_engine.specs.declared.lanes.Lanes.{Lanes}
use Rattle.pl_engine.specs.Events.{is_sure, is_taken}
use Rattle.pl_engine.specs.Lanes.{lane_in}
use Rattle.pl_engine.specs.Packets.{sequence_number, tlp_of}
use Rattle.pl_engine.specs.State.{state_of}
use Rattle.pl_engine.specs.Verdicts.{has_no_slot}

-- by what its lane keeps, a TLP that arrived so is taken, and where it has the next number there is
-- a slot for it
pub record HasSlot (lanes : Lanes) (x : Entry) (arrived : Body) : Type 0 where
  pub kind : x.kind ≡ Tlp
  pub lawful : IsLawful x
  pub state : arrived ≡ state_of x
  pub taken : lane.is_taken
      (place_of (lane_in x.dir lanes).run (sequence_number x.body) arrived) ≡ true
  pub slot : place_of (lane_in x.dir lanes).run (sequence_number x.body) arrived ≡ Taken
      → length (lane_in x.dir lanes).unacknowledged ≢ (lane_in x.dir lanes).room

-- by the history, its receiver takes it and there is a slot for it; its bytes are seen so, and it
-- is sure to be a new one or isn't
pub record IsTakenAs (profile : Profile) (past : List Entry) (x : Entry) (packet : Outcome)
    (sure : Bool) : Type 0 where
  pub taken : is_taken past x ≡ true
  pub slot : has_no_slot profile past x ≡ false
  pub seen : packet ≡ view_of (tlp_of x.body)
  pub certain : sure ≡ is_sure past x
