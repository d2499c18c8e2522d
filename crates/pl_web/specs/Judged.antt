-- What the judging of a capture came to.
use Rattle.std.specs.Prelude.{◌≡◌, ℕ, List, length, take}
use Rattle.pl_capture.specs.Reading.{reading}
use Rattle.pl_engine.specs.Judged.{judged_items, judged_verdicts}
use Rattle.pl_engine.specs.declared.judged.Judged.{Judged}
use Rattle.pl_profile.specs.declared.profile.Profile.{Profile}
use Rattle.pl_web.specs.Answers.{IsAnswer}
use Rattle.pl_web.specs.Judging.{Finding, judged, unjudged}
use Rattle.pl_web.specs.declared.judging.Judging.{Judging}
use Rattle.pl_web.specs.declared.judging.Judging.TheVariants as code

-- how many items and verdicts the capture has under the profile, and the first of the verdicts
pub record IsJudged (profile : Profile) (capture : List ℕ) (most : ℕ) (j : Judged) : Type 0 where
  pub items : j.items ≡ length (judged_items profile (reading capture))
  pub total : j.total ≡ length (judged_verdicts profile (reading capture))
  pub verdicts : j.verdicts.items ≡ take most (judged_verdicts profile (reading capture))

-- it came to what is found of the capture
abbrev pub Judges : Finding → List ℕ → ℕ → Judging → Type 0
Judges (judged profile) capture most (code.Judged j) = IsJudged profile capture most j
Judges (judged profile) capture most (code.Refused reply) = ⊥
Judges (unjudged answer) capture most (code.Judged j) = ⊥
Judges (unjudged answer) capture most (code.Refused reply) = IsAnswer answer reply
