-- The second reading: what the lanes hear, and one item behind others.
use Rattle.std.proofs.Common.{◌≡◌, ◌≢◌, ℕ, ◌+◌, ◌&&◌, ◌==◌, Bool, true, false, List, []}
use Rattle.std.proofs.Common.{◌∷◌, length, Option, Some, None, refl, ap, sym, subst, ◌∙◌, arith}
use Rattle.std.proofs.Common.{if◌then◌else◌}
use Rattle.std.proofs.lemmas.Grind.{common_steps}
use Rattle.pl_base.specs.declared.link.Dir.{Dir}
use Rattle.pl_base.specs.declared.link.Dir.TheVariants.{Down, Up}
use Rattle.pl_capture.specs.declared.item.ItemKind.TheVariants.{Gap, LinkDown}
use Rattle.pl_capture.specs.Entry.{Entry}
use Rattle.pl_seq.specs.declared.place.Place.TheVariants.{Taken}
use Rattle.pl_seq.specs.History as lane
use Rattle.pl_seq.specs.Lane as kept
use Rattle.pl_seq.specs.Runs.{Run, place_of}
use Rattle.pl_profile.specs.declared.profile.Profile.{Profile}
use Rattle.pl_engine.specs.declared.engine.Engine.{Engine}
use Rattle.pl_engine.specs.declared.refused.Refused.{Refused}
use Rattle.pl_engine.specs.Events.{is_next_of, lane_events}
use Rattle.pl_engine.specs.Packets.{sequence_number}
use Rattle.pl_engine.specs.State.{state_of}
use Rattle.pl_engine.specs.Verdicts.{blocked, has_no_slot}
use Rattle.pl_excerpt.specs.declared.lanes.Lanes.{Lanes}
use Rattle.pl_excerpt.specs.Replaying.{AreReady, Follows, HasRoomFor, Judges, LanesStandFor, lane_in}

pub gap_events : (past : List Entry) (x : Entry) (dir : Dir) → x.kind ≡ Gap
    → lane_events dir (x ∷ past) ≡ lane.Gap ∷ lane_events dir past
gap_events past x dir kind = cc

link_events : (past : List Entry) (x : Entry) (dir : Dir) → x.kind ≡ LinkDown
    → lane_events dir (x ∷ past) ≡ []
link_events past x dir kind = cc

pub after_link_down : (lanes : Lanes) (past : List Entry) (x : Entry) → x.kind ≡ LinkDown
    → LanesStandFor lanes [] → LanesStandFor lanes (x ∷ past)
after_link_down lanes past x kind s = record {
  down_is = subst (λ (events : List lane.Event). kept.StandsFor lanes.down events)
      (sym (link_events past x Down kind)) s.down_is;
  up_is = subst (λ (events : List lane.Event). kept.StandsFor lanes.up events)
      (sym (link_events past x Up kind)) s.up_is;
}

-- ---- room for an item that the engine judged

not_blocked : (b : Bool) (refused : Refused) (other : Option Refused)
    → (if b then Some refused else other) ≡ None → b ≡ false
not_blocked true refused other h = absurd cc
not_blocked false refused other h = refl

has_slot : (profile : Profile) (past : List Entry) (x : Entry) → blocked profile past x ≡ None
    → has_no_slot profile past x ≡ false
unfolding blocked
has_slot profile past x h = not_blocked (has_no_slot profile past x) _ _ h

lane_stands : (dir : Dir) (lanes : Lanes) (past : List Entry) → LanesStandFor lanes past
    → kept.StandsFor (lane_in dir lanes) (lane_events dir past)
lane_stands Down lanes past s = s.down_is
lane_stands Up lanes past s = s.up_is

lane_room : (dir : Dir) (lanes : Lanes) (room at : ℕ) → AreReady room at lanes
    → (lane_in dir lanes).room ≡ room
lane_room Down lanes room at r = r.down_room
lane_room Up lanes room at r = r.up_room

full_blocks : (next : Bool) (count room : ℕ) → next ≡ true → (next && count == room) ≡ false
    → count ≢ room
full_blocks next count room is h = grind (arith, common_steps)

pub room_for : {at : ℕ} (profile : Profile) (lanes : Lanes) (past : List Entry) (x : Entry)
    → LanesStandFor lanes past → AreReady profile.unacknowledged at lanes
    → blocked profile past x ≡ None → HasRoomFor lanes x
room_for {at} profile lanes past x s r h = λ kind place.
    let here = lane_stands x.dir lanes past s in
    let events : List lane.Event = lane_events x.dir past in
    let taken : lane.place_after events (sequence_number x.body) (state_of x) ≡ Taken =
    ap (λ (run : Run). place_of run (sequence_number x.body) (state_of x)) (sym here.run_is) ∙ place in
    let next : is_next_of past x ≡ true = grind (arith, common_steps) in
    let free : length (lane.unacknowledged events) ≢ profile.unacknowledged =
    full_blocks (is_next_of past x) _ _ next (has_slot profile past x h) in
    λ full. free (ap (λ u. length u) (sym here.unacknowledged_is) ∙ full
    ∙ lane_room x.dir lanes profile.unacknowledged at r)

pub few_items : {engine : Engine} {lanes : Lanes} {at : ℕ} → Follows engine lanes at
    → engine.items + 1 ≡ at
few_items {engine} {lanes} {at} f = omega (arith, f.engine_stands.items, f.number_is)

pub follows_on : {old new : Engine} {lanes lanes' : Lanes} {at : ℕ} (x : Entry)
    → (f : Follows old lanes at) → Judges old new x → LanesStandFor lanes' (x ∷ f.past)
    → AreReady old.profile.unacknowledged (at + 1) lanes' → Follows new lanes' (at + 1)
follows_on {old} {new} {lanes} {lanes'} {at} x f j stands ready = record {
  past = x ∷ f.past;
  engine_stands = j.stands f.past f.engine_stands;
  lanes_stand = stands;
  number_is = omega (arith, f.number_is);
  ready = subst (λ (p : Profile). AreReady p.unacknowledged (at + 1) lanes') (sym j.profile) ready;
}
