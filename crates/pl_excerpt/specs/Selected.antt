-- The items that an excerpt has.
-- PCI Express Base Specification 5.0, chapter 3: retried TLPs, Ack and Nak.
use Rattle.std.specs.Prelude.{Bool, ◌&&◌, ◌||◌, List, [], ◌∷◌, take, Option, Some, None}
use Rattle.std.specs.Prelude.{if◌then◌else◌}
use Rattle.std.specs.List.{list_any}
use Rattle.pl_capture.specs.Entry.{Entry}
use Rattle.pl_seq.specs.History as lane
use Rattle.pl_seq.specs.Rules.{is_repeat}
use Rattle.pl_seq.specs.Runs.{has_original, newly_answered}
use Rattle.pl_seq.specs.Sent.{Sent}
use Rattle.pl_engine.specs.Events.{lane_event, lane_events, lane_of, number_after}
use Rattle.pl_excerpt.specs.declared.case.Case.{Case}
use Rattle.pl_excerpt.specs.CoreItems.{is_core, is_core_at, is_in_span}

abbrev pub if_sent : Option Sent → List Sent
if_sent None = []
if_sent (Some tlp) = tlp ∷ []

-- the TLPs that an event of a lane tells of again: the original of a repeat, and those that a valid
-- Ack or Nak newly acknowledges
abbrev pub told_again : List lane.Event → lane.Event → List Sent
told_again past (lane.Tlp number bytes body at) =
    if is_repeat (lane.place_after past number body) && has_original (lane.run past) number
    then if_sent (lane.original past number) else []
told_again past (lane.Ack number at) =
    take (newly_answered (lane.run past) number) (lane.unacknowledged past)
told_again past lane.Gap = []

abbrev pub told_again_by : List lane.Event → Option lane.Event → List Sent
told_again_by past None = []
told_again_by past (Some event) = told_again past event

-- the item tells of one of the core again
abbrev pub tells_of_core : Case → List Entry → Entry → Bool
tells_of_core case past x =
    list_any (λ (tlp : Sent). is_core_at case past tlp.at)
    (told_again_by (lane_events (lane_of x.kind x.dir) past) (lane_event x.kind x (number_after past)))

-- The core, and each item of the span before that of the verdict that tells of one of the core
-- again.
abbrev pub is_selected : Case → List Entry → Entry → Bool
is_selected case past x =
    is_core case past x
    || (is_in_span case (number_after past) && tells_of_core case past x)
