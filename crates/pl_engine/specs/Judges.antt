-- What the judging of an item leads to, behind the items before it.
use Rattle.std.specs.Prelude.{◌≡◌, List, ◌∷◌, Some, None, Result, Ok, Err}
use Rattle.pl_base.specs.declared.verdict.Verdict.{Verdict}
use Rattle.pl_capture.specs.declared.item.ItemKind.TheVariants as kind
use Rattle.pl_capture.specs.Entry.{Entry}
use Rattle.pl_profile.specs.declared.profile.Profile.{Profile}
use Rattle.pl_engine.specs.declared.arrival.Arrival.{Arrival}
use Rattle.pl_engine.specs.declared.arrival.Arrival.TheVariants.{Tlp, Dllp, LinkDown, Gap}
use Rattle.pl_engine.specs.declared.parts.Parts.{Parts}
use Rattle.pl_engine.specs.declared.refused.Refused.{Refused}
use Rattle.pl_engine.specs.Parts.{PartsStandFor}
use Rattle.pl_engine.specs.State.{state_of}
use Rattle.pl_engine.specs.Tally.{place_at}
use Rattle.pl_engine.specs.Verdicts.{blocked, verdicts_at}

-- nothing blocks the item, it breaks these rules, and each part then stands for the items with it
pub record IsJudged (profile : Profile) (past : List Entry) (x : Entry) (new : Parts)
    (found : List Verdict) : Type 0 where
  pub allowed : blocked profile past x ≡ None
  pub verdicts : found ≡ verdicts_at profile past x
  pub stands : PartsStandFor profile new (x ∷ past)

-- the item is judged, or refused for that by which it is blocked
abbrev pub Judges : {A : Type 0} → Profile → List Entry → Entry → Parts → Result A Refused
    → List Verdict → Type 0
Judges profile past x new (Ok other) found = IsJudged profile past x new found
Judges profile past x new (Err refused) found = blocked profile past x ≡ Some refused

-- the item came so: what it is, and of a TLP how it arrived and where it stands in the order of its
-- direction
abbrev pub Arrived : List Entry → Entry → Arrival → Type 0
Arrived past x (Tlp arrived place) =
    (x.kind ≡ kind.Tlp) × (state_of x ≡ arrived) × (place_at past x ≡ place)
Arrived past x Dllp = x.kind ≡ kind.Dllp
Arrived past x LinkDown = x.kind ≡ kind.LinkDown
Arrived past x Gap = x.kind ≡ kind.Gap
