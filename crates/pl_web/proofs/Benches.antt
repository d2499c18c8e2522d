-- What is looked up in a bench is among its rows, so the reply to a request depends on them alone.
use Rattle.std.proofs.Common.{◌≡◌, ℕ, List, [], ◌∷◌, Bool, true, false, cond, refl, ap, sym, ◌∙◌}
use Rattle.std.proofs.Common.{length, take, map}
use Rattle.std.specs.Prelude.{◌&&◌, filter, nat_lt, bytes_eq, Option, Some, None, Result, Ok, Err}
use Rattle.std.specs.Prelude.{option_map}
use Rattle.std.specs.List.{find}
use Rattle.pl_capture.specs.Reading.{reading}
use Rattle.pl_engine.specs.Judged.{judged_items, judged_verdicts}
use Rattle.pl_head.specs.declared.reply.Media.TheVariants.{Json}
use Rattle.pl_head.specs.declared.status.Status.TheVariants.{Success}
use Rattle.pl_keeper.specs.Archive.{Archive, Profile, Capture, profile_at, capture_at}
use Rattle.pl_keeper.specs.Archive.{profiles_of, captures_of}
use Rattle.pl_keeper.specs.Listing.{Found, found_of}
use Rattle.pl_keeper.specs.Puts.{profile_put, capture_put, put_of_profile, put_of_capture}
use Rattle.pl_base.specs.declared.rule.Rule.{Rule}
use Rattle.pl_profile.specs.ProfileOf.{profile_of}
use Rattle.pl_profile.specs.declared.error.ProfileError.{ProfileError}
use Rattle.pl_profile.specs.declared.profile.Profile.{Profile as PortProfile}
use Rattle.pl_web.specs.Answer.{Outcome, listing, unanswered}
use Rattle.pl_web.specs.Bodies.{profile_body, capture_body}
use Rattle.pl_web.specs.Gets.{capture_shown, verdicts_found, verdicts_shown}
use Rattle.pl_search.specs.Hits.{ascending, by_profile, hits_at, hits_in, hits_of, hits_over}
use Rattle.pl_search.specs.Hits.{joined, keys_of, text_of}
use Rattle.pl_web.specs.Hits.{hits_answer}
use Rattle.pl_web.specs.Judging.{Finding, judged, unjudged, finding}
use Rattle.pl_web.specs.Laws.{AgreeOn, AgreeFor}
use Rattle.pl_web.specs.Outcome.{with_body, outcome_of}
use Rattle.pl_web.specs.Puts.{put_answer, profile_sent, capture_found, capture_sent}
use Rattle.pl_web.specs.Requests.{Asked, put_profile, put_capture, list_captures}
use Rattle.pl_web.specs.Requests.{get_capture, get_verdicts, get_hits, refused}

-- ---- the look-ups of a bench

find_among : {X : Type 0} (f g : X → Bool) (xs : List X)
    → find (λ x. f x && g x) xs ≡ find g (filter f xs)
find_among f g [] = refl
find_among f g (x ∷ xs) =
    elim (f x) as (λ b. cond (b && g x) (Some x) (find (λ y. f y && g y) xs)
    ≡ find g (cond b (x ∷ filter f xs) (filter f xs))) [
      | true ↦ ap (cond (g x) (Some x)) (find_among f g xs)
      | false ↦ find_among f g xs
    ]

abbrev of_bench : List ℕ → Profile → Bool
of_bench bench p = bytes_eq p.bench bench

abbrev of_name : List ℕ → Profile → Bool
of_name name p = bytes_eq p.name name

abbrev in_bench : List ℕ → Capture → Bool
in_bench bench c = bytes_eq c.bench bench

abbrev of_key : List ℕ → Capture → Bool
of_key key c = bytes_eq c.key key

module _ (a b : Archive) (bench : List ℕ) (same : AgreeOn bench a b) where
  pub profile_same : (name : List ℕ) → profile_at a bench name ≡ profile_at b bench name
  profile_same name =
      find_among (of_bench bench) (of_name name) a.profiles
      ∙ ap (find (of_name name)) same.profiles
      ∙ sym (find_among (of_bench bench) (of_name name) b.profiles)

  pub capture_same : (key : List ℕ) → capture_at a bench key ≡ capture_at b bench key
  capture_same key =
      find_among (in_bench bench) (of_key key) a.captures
      ∙ ap (find (of_key key)) same.captures
      ∙ sym (find_among (in_bench bench) (of_key key) b.captures)

put_profile_same : (a b : Archive) (p : Profile) → AgreeOn p.bench a b
    → put_of_profile a p ≡ put_of_profile b p
put_profile_same a b p same =
    ap (λ found. profile_put found (length (profiles_of a p.bench)) p.bytes)
    (profile_same a b p.bench same p.name)
    ∙ ap (λ rows. profile_put (profile_at b p.bench p.name) (length rows) p.bytes) same.profiles

put_capture_same : (a b : Archive) (c : Capture) → AgreeOn c.bench a b
    → put_of_capture a c ≡ put_of_capture b c
put_capture_same a b c same =
    ap (λ found. capture_put found (profile_at a c.bench c.profile)
    (length (captures_of a c.bench)) c.profile c.bytes) (capture_same a b c.bench same c.key)
    ∙ ap (λ owner. capture_put (capture_at b c.bench c.key) owner
    (length (captures_of a c.bench)) c.profile c.bytes) (profile_same a b c.bench same c.profile)
    ∙ ap (λ rows. capture_put (capture_at b c.bench c.key) (profile_at b c.bench c.profile)
    (length rows) c.profile c.bytes) same.captures

-- ---- the replies

profile_sent_same : (a b : Archive) (p : Profile) (read : Result PortProfile ProfileError)
    → AgreeOn p.bench a b → (profile_sent a p read).answer ≡ (profile_sent b p read).answer
profile_sent_same a b p (Ok profile) same =
    ap (λ put. Some (put_answer (profile_body p.bench p.name) (length p.bytes) 16 put))
    (put_profile_same a b p same)
profile_sent_same a b p (Err error) same = refl

capture_found_same : (a b : Archive) (c : Capture) (f : Finding) → AgreeOn c.bench a b
    → (capture_found a c f).answer ≡ (capture_found b c f).answer
capture_found_same a b c (judged profile) same =
    ap (λ put. Some (put_answer (capture_body c.bench c.key c.profile
    (length (judged_items profile (reading c.bytes)))
    (length (judged_verdicts profile (reading c.bytes)))) (length c.bytes) 64 put))
    (put_capture_same a b c same)
capture_found_same a b c (unjudged answer) same = refl

capture_sent_same : (a b : Archive) (c : Capture) → AgreeOn c.bench a b
    → (capture_sent a c).answer ≡ (capture_sent b c).answer
capture_sent_same a b c same =
    capture_found_same a b c
    (finding (option_map (λ p. p.bytes) (profile_at a c.bench c.profile)) c.bytes) same
    ∙ ap (λ found. (capture_found b c (finding (option_map (λ p. p.bytes) found) c.bytes)).answer)
    (profile_same a b c.bench same c.profile)

with_body_same : (a b : Archive) (rest : List ℕ) (size : ℕ) (f g : List ℕ → Outcome)
    → ((bytes : List ℕ) → (f bytes).answer ≡ (g bytes).answer)
    → (with_body a rest size f).answer ≡ (with_body b rest size g).answer
with_body_same a b rest size f g same =
    elim (nat_lt (length rest) size) as (λ few.
    (cond few (unanswered a) (f (take size rest))).answer
    ≡ (cond few (unanswered b) (g (take size rest))).answer) [
      | true ↦ refl
      | false ↦ same (take size rest)
    ]

shown_same : (a b : Archive) (found : Option Found)
    → (capture_shown a found).answer ≡ (capture_shown b found).answer
shown_same a b None = refl
shown_same a b (Some found) = refl

found_same : (a b : Archive) (bench key capture : List ℕ) (f : Finding)
    → (verdicts_found a bench key capture f).answer ≡ (verdicts_found b bench key capture f).answer
found_same a b bench key capture (judged profile) = refl
found_same a b bench key capture (unjudged answer) = refl

verdicts_same : (a b : Archive) (bench key : List ℕ) (found : Option Found) → AgreeOn bench a b
    → (verdicts_shown a bench key found).answer ≡ (verdicts_shown b bench key found).answer
verdicts_same a b bench key None same = refl
verdicts_same a b bench key (Some found) same =
    found_same a b bench key found.bytes
    (finding (option_map (λ p. p.bytes) (profile_at a bench found.profile)) found.bytes)
    ∙ ap (λ row. (verdicts_found b bench key found.bytes
    (finding (option_map (λ p. p.bytes) row) found.bytes)).answer)
    (profile_same a b bench same found.profile)

-- ---- the hits of a rule

module _ (a b : Archive) (bench : List ℕ) (rule : Rule) (same : AgreeOn bench a b) where
  hits_in_same : (key : List ℕ) (found : Option Found)
      → hits_in a bench key rule found ≡ hits_in b bench key rule found
  hits_in_same key None = refl
  hits_in_same key (Some found) =
      ap (λ row. by_profile rule key found.bytes
      (profile_of (text_of (option_map (λ p. p.bytes) row))))
      (profile_same a b bench same found.profile)

  hits_at_same : (key : List ℕ) → hits_at a bench key rule ≡ hits_at b bench key rule
  hits_at_same key =
      hits_in_same key (option_map found_of (capture_at a bench key))
      ∙ ap (λ row. hits_in b bench key rule (option_map found_of row))
      (capture_same a b bench same key)

  hits_over_same : (keys : List (List ℕ))
      → hits_over a bench rule keys ≡ hits_over b bench rule keys
  hits_over_same [] = refl
  hits_over_same (key ∷ keys) =
      ap (λ hits. joined hits (hits_over a bench rule keys)) (hits_at_same key)
      ∙ ap (joined (hits_at b bench key rule)) (hits_over_same keys)

  hits_same : hits_of a bench rule ≡ hits_of b bench rule
  hits_same =
      hits_over_same (keys_of a bench)
      ∙ ap (λ (rows : List Capture). hits_over b bench rule (ascending (map (λ c. c.key) rows)))
      same.captures

pub own : (a b : Archive) (rest : List ℕ) (asked : Asked) → AgreeFor asked a b
    → (outcome_of a rest asked).answer ≡ (outcome_of b rest asked).answer
own a b rest (put_profile bench name size) same =
    with_body_same a b rest size
    (λ bytes. profile_sent a (record {
      bench = bench;
      name = name;
      bytes = bytes;
    }) (profile_of bytes))
    (λ bytes. profile_sent b (record {
      bench = bench;
      name = name;
      bytes = bytes;
    }) (profile_of bytes))
    (λ bytes. profile_sent_same a b (record {
      bench = bench;
      name = name;
      bytes = bytes;
    }) (profile_of bytes) (same bench refl))
own a b rest (put_capture bench profile key size) same =
    with_body_same a b rest size
    (λ bytes. capture_sent a (record {
      bench = bench;
      key = key;
      profile = profile;
      bytes = bytes;
    }))
    (λ bytes. capture_sent b (record {
      bench = bench;
      key = key;
      profile = profile;
      bytes = bytes;
    }))
    (λ bytes. capture_sent_same a b (record {
      bench = bench;
      key = key;
      profile = profile;
      bytes = bytes;
    }) (same bench refl))
own a b rest (list_captures bench) same =
    ap (λ rows. Some (record { status = Success; media = Json; content = listing bench rows }))
    (same bench refl).captures
own a b rest (get_capture bench key) same =
    shown_same a b (option_map found_of (capture_at a bench key))
    ∙ ap (λ row. (capture_shown b (option_map found_of row)).answer)
    (capture_same a b bench (same bench refl) key)
own a b rest (get_verdicts bench key) same =
    verdicts_same a b bench key (option_map found_of (capture_at a bench key)) (same bench refl)
    ∙ ap (λ row. (verdicts_shown b bench key (option_map found_of row)).answer)
    (capture_same a b bench (same bench refl) key)
own a b rest (get_hits bench rule) same =
    ap (λ hits. Some (hits_answer bench rule hits)) (hits_same a b bench rule (same bench refl))
own a b rest (refused refusal) same = refl
