-- When the parts stand for a history, and what they can take.
use Rattle.std.specs.Prelude.{Bool, ◌≡◌, ℕ, true, List}
use Rattle.pl_base.specs.declared.link.Dir.{Dir}
use Rattle.pl_capture.specs.Entry.{Entry}
use Rattle.pl_tlp.specs.Fields.{Fields}
use Rattle.pl_credit.specs.Credits as credit
use Rattle.pl_pair.specs.History.{request_id}
use Rattle.pl_tlp.specs.Groups.{needs_completion}
use Rattle.pl_pair.specs.Pairs as pair
use Rattle.pl_profile.specs.declared.profile.Profile.{Profile}
use Rattle.pl_engine.specs.declared.parts.Parts.{Parts}
use Rattle.pl_engine.specs.Events.{credit_events, pair_events}
use Rattle.pl_engine.specs.Lanes.{AreReady, LanesStandFor}

-- each part stands for what it hears of the items
pub record PartsStandFor (profile : Profile) (parts : Parts) (past : List Entry) : Type 0 where
  pub lanes : LanesStandFor parts.lanes past
  pub credits : credit.StandsFor parts.credits (credit_events profile past)
  pub pairs : pair.StandsFor parts.pairs (pair_events past)

-- each part has the room that the profile gives it, and heard of no item from number `at` on
pub record IsReady (profile : Profile) (at : ℕ) (parts : Parts) : Type 0 where
  pub lanes : AreReady profile.unacknowledged at parts.lanes
  pub credits : parts.credits.profile ≡ profile
  pub pairs : pair.room_of parts.pairs ≡ profile.outstanding

-- a TLP that the pairs can take: where it is a sure request, there is room for it
pub record IsTakable (pairs : pair.Kept) (dir : Dir) (sure : Bool) (fields : Fields) : Type 0 where
  pub room : sure ≡ true → needs_completion fields.kind ≡ true
      → pair.LacksRoom pairs (request_id dir fields) → ⊥
