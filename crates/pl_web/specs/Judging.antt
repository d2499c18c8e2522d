-- How a capture is judged under the profile that it is kept with.
use Rattle.std.specs.Prelude.{ℕ, List, codes, Option, Some, None, Result, Ok, Err}
use Rattle.pl_base.specs.Stop.{malformed_number, form_number}
use Rattle.pl_base.specs.declared.stop.Stop.{Stop}
use Rattle.pl_base.specs.declared.stop.Stop.TheVariants.{Malformed, Unsupported, Outstanding}
use Rattle.pl_base.specs.declared.stop.Stop.TheVariants.{Unacknowledged, Memory}
use Rattle.pl_capture.specs.Reading.{reading}
use Rattle.pl_engine.specs.Judged.{stop_of_reading}
use Rattle.pl_head.specs.declared.status.Status.TheVariants.{NotFound, UnprocessableEntity}
use Rattle.pl_head.specs.declared.status.Status.TheVariants.{InternalServerError}
use Rattle.pl_profile.specs.ProfileOf.{profile_of}
use Rattle.pl_profile.specs.Refusal.{number_of}
use Rattle.pl_profile.specs.declared.error.ProfileError.{ProfileError}
use Rattle.pl_profile.specs.declared.profile.Profile.{Profile}
use Rattle.pl_web.specs.Answer.{Answer, json}
use Rattle.pl_web.specs.Bodies.{error_body, number_body, item_body, item_limit_body}

-- to a text that is no profile
abbrev pub no_profile_text : ProfileError → Answer
no_profile_text error = json UnprocessableEntity (number_body (codes "profile") (number_of error))

-- to a capture that can't be judged to its end; no reading stops for want of memory
abbrev pub stop_answer : Stop → Answer
stop_answer (Malformed fault item) =
    json UnprocessableEntity (item_body (codes "malformed") item (malformed_number fault))
stop_answer (Unsupported form item) =
    json UnprocessableEntity (item_body (codes "unsupported") item (form_number form))
stop_answer (Outstanding limit item) =
    json UnprocessableEntity (item_limit_body (codes "limit outstanding") item limit)
stop_answer (Unacknowledged limit item) =
    json UnprocessableEntity (item_limit_body (codes "limit unacknowledged") item limit)
stop_answer Memory = json InternalServerError (error_body (codes "memory"))

abbrev pub no_profile : Answer
no_profile = json NotFound (error_body (codes "no profile"))

-- a capture is judged to its end under a profile, or not, which is answered so
pub data Finding : Type 0 where
  judged : Profile → Finding
  unjudged : Answer → Finding

abbrev pub by_stop : Profile → Option Stop → Finding
by_stop profile None = judged profile
by_stop profile (Some stop) = unjudged (stop_answer stop)

abbrev pub by_profile : List ℕ → Result Profile ProfileError → Finding
by_profile capture (Ok profile) = by_stop profile (stop_of_reading profile (reading capture))
by_profile capture (Err error) = unjudged (no_profile_text error)

-- By the text of the profile, the first of these: there is no such profile; its text is refused;
-- the capture is refused; it is judged.
abbrev pub finding : Option (List ℕ) → List ℕ → Finding
finding None capture = unjudged no_profile
finding (Some text) capture = by_profile capture (profile_of text)
