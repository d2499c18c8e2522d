-- What a request to store a profile or a capture is answered, and the archive after it.
use Rattle.std.specs.Prelude.{ℕ, List, length, codes, Some, Result, Ok, Err, option_map}
use Rattle.pl_capture.specs.Reading.{reading}
use Rattle.pl_engine.specs.Judged.{judged_items, judged_verdicts}
use Rattle.pl_head.specs.declared.status.Status.TheVariants.{Success, Created, NotFound, Conflict}
use Rattle.pl_keeper.specs.Archive.{Archive, Profile, Capture, profile_at}
use Rattle.pl_keeper.specs.Puts.{put_of_profile, put_of_capture, after_profile, after_capture}
use Rattle.pl_keeper.specs.declared.keeper.Put.{Put}
use Rattle.pl_keeper.specs.declared.keeper.Put.TheVariants.{New, Same, OtherProfile, OtherBytes}
use Rattle.pl_keeper.specs.declared.keeper.Put.TheVariants.{NoProfile, Full}
use Rattle.pl_profile.specs.declared.error.ProfileError.{ProfileError}
use Rattle.pl_profile.specs.declared.profile.Profile.{Profile as PortProfile}
use Rattle.pl_web.specs.Answer.{Answer, Outcome, json, leaves}
use Rattle.pl_web.specs.Bodies.{error_body, limit_body, difference_body, profile_body}
use Rattle.pl_web.specs.Bodies.{capture_body}
use Rattle.pl_web.specs.Judging.{Finding, judged, unjudged, finding, no_profile_text}

-- to a put of so many bytes, with the body that tells of the row, and how many rows a bench may
-- have
abbrev pub put_answer : List ℕ → ℕ → ℕ → Put → Answer
put_answer row sent most New = json Created row
put_answer row sent most Same = json Success row
put_answer row sent most OtherProfile = json Conflict (error_body (codes "other profile"))
put_answer row sent most (OtherBytes size place) = json Conflict (difference_body size place sent)
put_answer row sent most NoProfile = json NotFound (error_body (codes "no profile"))
put_answer row sent most Full = json Conflict (limit_body (codes "full") most)

-- ---- a profile

abbrev pub profile_stored : Archive → Profile → Put → Outcome
profile_stored a p put = record {
  answer = Some (put_answer (profile_body p.bench p.name) (length p.bytes) 16 put);
  rows = after_profile put a p;
}

-- a text that is no profile isn't stored
abbrev pub profile_sent : Archive → Profile → Result PortProfile ProfileError → Outcome
profile_sent a p (Ok profile) = profile_stored a p (put_of_profile a p)
profile_sent a p (Err error) = leaves a (no_profile_text error)

-- ---- a capture, of so many items and verdicts

abbrev pub capture_stored : Archive → Capture → (items verdicts : ℕ) → Put → Outcome
capture_stored a c items verdicts put = record {
  answer = Some (put_answer (capture_body c.bench c.key c.profile items verdicts)
      (length c.bytes) 64 put);
  rows = after_capture put a c;
}

-- a capture that can't be judged to its end isn't stored
abbrev pub capture_found : Archive → Capture → Finding → Outcome
capture_found a c (judged profile) =
    capture_stored a c (length (judged_items profile (reading c.bytes)))
    (length (judged_verdicts profile (reading c.bytes))) (put_of_capture a c)
capture_found a c (unjudged answer) = leaves a answer

abbrev pub capture_sent : Archive → Capture → Outcome
capture_sent a c = capture_found a c
    (finding (option_map (λ p. p.bytes) (profile_at a c.bench c.profile)) c.bytes)
