-- Only 201 adds a row.
use Rattle.std.proofs.Common.{◌≡◌, ℕ, List, Bool, true, false, cond, refl, length, take, drop, map}
use Rattle.std.specs.Prelude.{nat_lt, Option, Some, None, Result, Ok, Err, option_map}
use Rattle.httparse.specs.Grammar.{print_request}
use Rattle.httparse.specs.Spans.{name_and_value}
use Rattle.pl_capture.specs.Reading.{reading}
use Rattle.pl_engine.specs.Judged.{judged_items, judged_verdicts}
use Rattle.pl_head.specs.Form.{form_of}
use Rattle.pl_head.specs.Front.{Front, whole, bad, long, short}
use Rattle.pl_keeper.specs.Archive.{Archive, Profile, Capture, profile_at, capture_at}
use Rattle.pl_keeper.specs.Listing.{Found, found_of}
use Rattle.pl_keeper.specs.Puts.{put_of_profile, put_of_capture, after_profile, after_capture}
use Rattle.pl_keeper.specs.declared.keeper.Put.{Put}
use Rattle.pl_keeper.specs.declared.keeper.Put.TheVariants.{New, Same, OtherProfile, OtherBytes}
use Rattle.pl_keeper.specs.declared.keeper.Put.TheVariants.{NoProfile, Full}
use Rattle.pl_profile.specs.ProfileOf.{profile_of}
use Rattle.pl_profile.specs.declared.error.ProfileError.{ProfileError}
use Rattle.pl_profile.specs.declared.profile.Profile.{Profile as PortProfile}
use Rattle.pl_web.specs.Answer.{Outcome, unanswered}
use Rattle.pl_web.specs.Bodies.{profile_body, capture_body}
use Rattle.pl_web.specs.Gets.{capture_shown, verdicts_found, verdicts_shown}
use Rattle.pl_web.specs.Judging.{Finding, judged, unjudged, finding}
use Rattle.pl_web.specs.Laws.{is_created}
use Rattle.pl_web.specs.Outcome.{outcome, outcome_of}
use Rattle.pl_web.specs.Puts.{put_answer, profile_sent, capture_found, capture_sent}
use Rattle.pl_web.specs.Requests.{Asked, asked_by, put_profile, put_capture, list_captures}
use Rattle.pl_web.specs.Requests.{get_capture, get_verdicts, get_hits, refused}

-- a reply other than 201, and the archive as it was
abbrev LeavesUnlessCreated : Archive → Outcome → Type 0
LeavesUnlessCreated a o = is_created o.answer ≡ false → o.rows ≡ a

module _ (a : Archive) where
  body_leaves : (few : Bool) (f : Outcome) → LeavesUnlessCreated a f
      → LeavesUnlessCreated a (cond few (unanswered a) f)
  body_leaves true f leaves = λ other. refl
  body_leaves false f leaves = leaves

  profile_leaves : (p : Profile) (put : Put) (row : List ℕ) (sent most : ℕ)
      → is_created (Some (put_answer row sent most put)) ≡ false → after_profile put a p ≡ a
  profile_leaves p New row sent most other = cc
  profile_leaves p Same row sent most other = refl
  profile_leaves p OtherProfile row sent most other = refl
  profile_leaves p (OtherBytes size place) row sent most other = refl
  profile_leaves p NoProfile row sent most other = refl
  profile_leaves p Full row sent most other = refl

  capture_leaves : (c : Capture) (put : Put) (row : List ℕ) (sent most : ℕ)
      → is_created (Some (put_answer row sent most put)) ≡ false → after_capture put a c ≡ a
  capture_leaves c New row sent most other = cc
  capture_leaves c Same row sent most other = refl
  capture_leaves c OtherProfile row sent most other = refl
  capture_leaves c (OtherBytes size place) row sent most other = refl
  capture_leaves c NoProfile row sent most other = refl
  capture_leaves c Full row sent most other = refl

  profile_sent_leaves : (p : Profile) (read : Result PortProfile ProfileError)
      → LeavesUnlessCreated a (profile_sent a p read)
  profile_sent_leaves p (Ok profile) = profile_leaves p (put_of_profile a p)
      (profile_body p.bench p.name) (length p.bytes) 16
  profile_sent_leaves p (Err error) = λ other. refl

  found_leaves : (c : Capture) (f : Finding) → LeavesUnlessCreated a (capture_found a c f)
  found_leaves c (judged profile) = capture_leaves c (put_of_capture a c)
      (capture_body c.bench c.key c.profile (length (judged_items profile (reading c.bytes)))
      (length (judged_verdicts profile (reading c.bytes)))) (length c.bytes) 64
  found_leaves c (unjudged answer) = λ other. refl

  shown_leaves : (found : Option Found) → (capture_shown a found).rows ≡ a
  shown_leaves None = refl
  shown_leaves (Some found) = refl

  verdicts_leave : (bench key capture : List ℕ) (f : Finding)
      → (verdicts_found a bench key capture f).rows ≡ a
  verdicts_leave bench key capture (judged profile) = refl
  verdicts_leave bench key capture (unjudged answer) = refl

  verdicts_shown_leave : (bench key : List ℕ) (found : Option Found)
      → (verdicts_shown a bench key found).rows ≡ a
  verdicts_shown_leave bench key None = refl
  verdicts_shown_leave bench key (Some found) = verdicts_leave bench key found.bytes
      (finding (option_map (λ p. p.bytes) (profile_at a bench found.profile)) found.bytes)

  leaves_of : (rest : List ℕ) (asked : Asked) → LeavesUnlessCreated a (outcome_of a rest asked)
  leaves_of rest (put_profile bench name size) =
      let p : Profile = record { bench = bench; name = name; bytes = take size rest } in
      body_leaves (nat_lt (length rest) size) (profile_sent a p (profile_of p.bytes))
      (profile_sent_leaves p (profile_of p.bytes))
  leaves_of rest (put_capture bench profile key size) =
      let c : Capture =
      record { bench = bench; key = key; profile = profile; bytes = take size rest } in
      body_leaves (nat_lt (length rest) size) (capture_sent a c)
      (found_leaves c (finding (option_map (λ p. p.bytes) (profile_at a bench profile)) c.bytes))
  leaves_of rest (list_captures bench) = λ other. refl
  leaves_of rest (get_capture bench key) = λ other.
      shown_leaves (option_map found_of (capture_at a bench key))
  leaves_of rest (get_verdicts bench key) = λ other.
      verdicts_shown_leave bench key (option_map found_of (capture_at a bench key))
  leaves_of rest (get_hits bench rule) = λ other. refl
  leaves_of rest (refused refusal) = λ other. refl

  pub only_created : (text : List ℕ) (front : Front)
      → is_created (outcome a text front).answer ≡ false → (outcome a text front).rows ≡ a
  only_created text (whole head) = leaves_of (drop (length (print_request head)) text)
      (asked_by head.method head.target (form_of (map name_and_value head.fields)))
  only_created text bad = λ other. refl
  only_created text long = λ other. refl
  only_created text short = λ other. refl
