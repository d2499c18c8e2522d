-- What a request to look something up is answered. It leaves the archive as it is.
use Rattle.std.specs.Prelude.{ℕ, List, length, take, codes, Option, Some, None, option_map}
use Rattle.pl_capture.specs.Reading.{reading}
use Rattle.pl_engine.specs.Judged.{judged_items, judged_verdicts}
use Rattle.pl_head.specs.declared.reply.Media.TheVariants.{Json, Capture}
use Rattle.pl_head.specs.declared.status.Status.TheVariants.{Success, NotFound}
use Rattle.pl_keeper.specs.Archive.{Archive, profile_at, captures_of}
use Rattle.pl_keeper.specs.Listing.{Found}
use Rattle.pl_profile.specs.declared.profile.Profile.{Profile}
use Rattle.pl_web.specs.Answer.{Answer, Outcome, exactly, listing, json, leaves}
use Rattle.pl_web.specs.Bodies.{error_body, verdicts_body}
use Rattle.pl_web.specs.Judging.{Finding, judged, unjudged, finding}

-- the most verdicts that are shown
abbrev pub most_shown : ℕ
most_shown = 10000

abbrev pub no_capture : Answer
no_capture = json NotFound (error_body (codes "no capture"))

-- ---- the list of a bench

abbrev pub captures_listed : Archive → List ℕ → Outcome
captures_listed a bench = leaves a (record {
  status = Success;
  media = Json;
  content = listing bench (captures_of a bench);
})

-- ---- the bytes of a capture

abbrev pub capture_shown : Archive → Option Found → Outcome
capture_shown a None = leaves a no_capture
capture_shown a (Some found) =
    leaves a (record { status = Success; media = Capture; content = exactly found.bytes })

-- ---- what is wrong with a capture, under the profile that its row names

abbrev pub verdicts_under : (bench key capture : List ℕ) → Profile → Answer
verdicts_under bench key capture profile = json Success (verdicts_body bench key
    (length (judged_items profile (reading capture)))
    (length (judged_verdicts profile (reading capture)))
    (take most_shown (judged_verdicts profile (reading capture))))

abbrev pub verdicts_found : Archive → (bench key capture : List ℕ) → Finding → Outcome
verdicts_found a bench key capture (judged profile) =
    leaves a (verdicts_under bench key capture profile)
verdicts_found a bench key capture (unjudged answer) = leaves a answer

abbrev pub verdicts_shown : Archive → (bench key : List ℕ) → Option Found → Outcome
verdicts_shown a bench key None = leaves a no_capture
verdicts_shown a bench key (Some found) = verdicts_found a bench key found.bytes
    (finding (option_map (λ p. p.bytes) (profile_at a bench found.profile)) found.bytes)
