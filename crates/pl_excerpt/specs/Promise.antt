-- What an excerpt promises of its answer.
use Rattle.std.specs.Prelude.{◌≡◌, ℕ, List, take, Option, Some}
use Rattle.pl_base.specs.declared.stop.Stop.TheVariants as stop
use Rattle.pl_capture.specs.Reading.{reading}
use Rattle.pl_profile.specs.declared.profile.Profile.{Profile}
use Rattle.pl_excerpt.specs.declared.case.Case.{Case}
use Rattle.pl_excerpt.specs.declared.outcome.Outcome.{Outcome}
use Rattle.pl_excerpt.specs.declared.outcome.Outcome.TheVariants as outcome
use Rattle.pl_excerpt.specs.Answer.{case_in, limit}
use Rattle.pl_excerpt.specs.Searching.{LacksCase}

-- the file has so many verdicts
abbrev pub HasCase : Profile → ℕ → List ℕ → Type 0
HasCase profile number file =
    (case : Case) × (case_in profile (reading (take limit file)) number ≡ Some case)

-- By the file that is told: it has the verdict, or ends before it, as the answer says. Nothing is
-- known where it couldn't be read or memory was wanting.
abbrev pub Answered : Profile → ℕ → Option (List ℕ) → Outcome → Type 0
Answered p number file outcome.NoVerdict =
    (whole : List ℕ) → file ≡ Some whole → LacksCase p number whole outcome.NoVerdict
Answered p number file outcome.Length =
    (whole : List ℕ) → file ≡ Some whole → LacksCase p number whole outcome.Length
Answered p number file (outcome.Stop stop.Memory) = Unit {0}
Answered p number file (outcome.Stop (stop.Malformed fault at)) =
    (whole : List ℕ) → file ≡ Some whole →
    LacksCase p number whole (outcome.Stop (stop.Malformed fault at))
Answered p number file (outcome.Stop (stop.Unsupported form at)) =
    (whole : List ℕ) → file ≡ Some whole →
    LacksCase p number whole (outcome.Stop (stop.Unsupported form at))
Answered p number file (outcome.Stop (stop.Outstanding most at)) =
    (whole : List ℕ) → file ≡ Some whole →
    LacksCase p number whole (outcome.Stop (stop.Outstanding most at))
Answered p number file (outcome.Stop (stop.Unacknowledged most at)) =
    (whole : List ℕ) → file ≡ Some whole →
    LacksCase p number whole (outcome.Stop (stop.Unacknowledged most at))
Answered p number file outcome.Done =
    (whole : List ℕ) → file ≡ Some whole → HasCase p number whole
Answered p number file outcome.Changed =
    (whole : List ℕ) → file ≡ Some whole → HasCase p number whole
Answered p number file outcome.WriteFault =
    (whole : List ℕ) → file ≡ Some whole → HasCase p number whole
Answered p number file outcome.ReadFault = Unit {0}

-- what holds where the capture ends before the verdict
abbrev pub Unwritten : Outcome → Type 0 → Type 0
Unwritten outcome.NoVerdict P = P
Unwritten outcome.Length P = P
Unwritten (outcome.Stop s) P = P
Unwritten outcome.Done P = Unit {0}
Unwritten outcome.Changed P = Unit {0}
Unwritten outcome.WriteFault P = Unit {0}
Unwritten outcome.ReadFault P = Unit {0}
