-- What isn't judged isn't stored.
use Rattle.std.proofs.Common.{◌≡◌, List, ℕ, false, refl}
use Rattle.std.specs.Prelude.{Option, Some, None, Result, Ok, Err}
use Rattle.pl_base.specs.declared.stop.Stop.{Stop}
use Rattle.pl_base.specs.declared.stop.Stop.TheVariants.{Malformed, Unsupported, Outstanding}
use Rattle.pl_base.specs.declared.stop.Stop.TheVariants.{Unacknowledged, Memory}
use Rattle.pl_capture.specs.Reading.{reading}
use Rattle.pl_engine.specs.Judged.{stop_of_reading}
use Rattle.pl_profile.specs.ProfileOf.{profile_of}
use Rattle.pl_profile.specs.declared.error.ProfileError.{ProfileError}
use Rattle.pl_profile.specs.declared.profile.Profile.{Profile as PortProfile}
use Rattle.pl_web.specs.Judging.{Finding, judged, unjudged, finding, by_profile, by_stop}
use Rattle.pl_web.specs.Judging.{stop_answer}
use Rattle.pl_web.specs.Laws.{is_stored}

abbrev pub IsUnstored : Finding → Type 0
IsUnstored (judged profile) = Unit {0}
IsUnstored (unjudged answer) = is_stored answer.status ≡ false

unstored_stop : (stop : Stop) → IsUnstored (unjudged (stop_answer stop))
unstored_stop (Malformed fault item) = refl
unstored_stop (Unsupported form item) = refl
unstored_stop (Outstanding limit item) = refl
unstored_stop (Unacknowledged limit item) = refl
unstored_stop Memory = refl

unstored_by_stop : (profile : PortProfile) (stop : Option Stop) → IsUnstored (by_stop profile stop)
unstored_by_stop profile None = tt
unstored_by_stop profile (Some stop) = unstored_stop stop

unstored_by_profile : (capture : List ℕ) (read : Result PortProfile ProfileError)
    → IsUnstored (by_profile capture read)
unstored_by_profile capture (Ok profile) =
    unstored_by_stop profile (stop_of_reading profile (reading capture))
unstored_by_profile capture (Err error) = refl

pub unstored : (text : Option (List ℕ)) (capture : List ℕ) → IsUnstored (finding text capture)
unstored None capture = refl
unstored (Some text) capture = unstored_by_profile capture (profile_of text)
