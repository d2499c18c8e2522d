-- A request leaves the rows as they are, or adds one of its own bench.
use Rattle.std.proofs.Common.{◌≡◌, ◌≢◌, ℕ, List, [], ◌∷◌, ◌++◌, Bool, true, false, cond, refl, ap}
use Rattle.std.proofs.Common.{sym, ◌∙◌, length, take, drop, map, append-nil, append_assoc}
use Rattle.std.specs.Prelude.{filter, nat_lt, bytes_eq, Option, Some, None, Result, Ok, Err}
use Rattle.std.specs.Prelude.{option_map}
use Rattle.std.proofs.lemmas.List.Elements.{filter-append}
use Rattle.std.proofs.lemmas.Slice.Eq.{bytes_eq-Decides}
use Rattle.httparse.specs.Grammar.{print_request}
use Rattle.httparse.specs.Spans.{name_and_value}
use Rattle.pl_head.specs.Form.{form_of}
use Rattle.pl_head.specs.Front.{Front, whole, bad, long, short}
use Rattle.pl_keeper.specs.Archive.{Archive, Profile, Capture, profile_at, capture_at}
use Rattle.pl_keeper.specs.Archive.{with_profile, with_capture}
use Rattle.pl_keeper.specs.Listing.{Found, found_of}
use Rattle.pl_keeper.specs.Puts.{put_of_profile, put_of_capture, after_profile, after_capture}
use Rattle.pl_keeper.specs.declared.keeper.Put.{Put}
use Rattle.pl_keeper.specs.declared.keeper.Put.TheVariants.{New, Same, OtherProfile, OtherBytes}
use Rattle.pl_keeper.specs.declared.keeper.Put.TheVariants.{NoProfile, Full}
use Rattle.pl_profile.specs.ProfileOf.{profile_of}
use Rattle.pl_profile.specs.declared.error.ProfileError.{ProfileError}
use Rattle.pl_profile.specs.declared.profile.Profile.{Profile as PortProfile}
use Rattle.pl_web.specs.Answer.{Outcome, unanswered}
use Rattle.pl_web.specs.Gets.{capture_shown, verdicts_found, verdicts_shown}
use Rattle.pl_web.specs.Judging.{Finding, judged, unjudged, finding}
use Rattle.pl_web.specs.Laws.{AgreeOn, Grows, bench_of}
use Rattle.pl_web.specs.Outcome.{with_body, outcome, outcome_of}
use Rattle.pl_web.specs.Puts.{profile_sent, capture_found, capture_sent}
use Rattle.pl_web.specs.Requests.{Asked, asked_by, put_profile, put_capture, list_captures}
use Rattle.pl_web.specs.Requests.{get_capture, get_verdicts, get_hits, refused}

-- ---- what holds of the rows as they were, and with one more, holds of those behind a request

module _ (a : Archive) (Holds : Archive → Type 0) (as_before : Holds a) where
  behind_body : (rest : List ℕ) (size : ℕ) (f : List ℕ → Outcome)
      → ((bytes : List ℕ) → Holds (f bytes).rows) → Holds (with_body a rest size f).rows
  behind_body rest size f holds =
      elim (nat_lt (length rest) size) as (λ few. Holds
      (cond few (unanswered a) (f (take size rest))).rows) [
        | true ↦ as_before
        | false ↦ holds (take size rest)
      ]

  behind_put_profile : (p : Profile) (put : Put) → Holds (with_profile a p)
      → Holds (after_profile put a p)
  behind_put_profile p New with_it = with_it
  behind_put_profile p Same with_it = as_before
  behind_put_profile p OtherProfile with_it = as_before
  behind_put_profile p (OtherBytes size place) with_it = as_before
  behind_put_profile p NoProfile with_it = as_before
  behind_put_profile p Full with_it = as_before

  behind_put_capture : (c : Capture) (put : Put) → Holds (with_capture a c)
      → Holds (after_capture put a c)
  behind_put_capture c New with_it = with_it
  behind_put_capture c Same with_it = as_before
  behind_put_capture c OtherProfile with_it = as_before
  behind_put_capture c (OtherBytes size place) with_it = as_before
  behind_put_capture c NoProfile with_it = as_before
  behind_put_capture c Full with_it = as_before

  behind_profile : (p : Profile) (read : Result PortProfile ProfileError)
      → Holds (with_profile a p) → Holds (profile_sent a p read).rows
  behind_profile p (Ok profile) with_it = behind_put_profile p (put_of_profile a p) with_it
  behind_profile p (Err error) with_it = as_before

  pub behind_found : (c : Capture) (f : Finding) → Holds (with_capture a c)
      → Holds (capture_found a c f).rows
  behind_found c (judged profile) with_it = behind_put_capture c (put_of_capture a c) with_it
  behind_found c (unjudged answer) with_it = as_before

  behind_shown : (found : Option Found) → Holds (capture_shown a found).rows
  behind_shown None = as_before
  behind_shown (Some found) = as_before

  behind_verdicts_found : (bench key capture : List ℕ) (f : Finding)
      → Holds (verdicts_found a bench key capture f).rows
  behind_verdicts_found bench key capture (judged profile) = as_before
  behind_verdicts_found bench key capture (unjudged answer) = as_before

  behind_verdicts : (bench key : List ℕ) (found : Option Found)
      → Holds (verdicts_shown a bench key found).rows
  behind_verdicts bench key None = as_before
  behind_verdicts bench key (Some found) = behind_verdicts_found bench key found.bytes
      (finding (option_map (λ p. p.bytes) (profile_at a bench found.profile)) found.bytes)

  behind : (rest : List ℕ) (asked : Asked)
      → ((p : Profile) → bench_of asked ≡ Some p.bench → Holds (with_profile a p))
      → ((c : Capture) → bench_of asked ≡ Some c.bench → Holds (with_capture a c))
      → Holds (outcome_of a rest asked).rows
  behind rest (put_profile bench name size) profile capture =
      behind_body rest size (λ bytes. profile_sent a (record {
        bench = bench;
        name = name;
        bytes = bytes;
      }) (profile_of bytes)) (λ bytes. behind_profile (record {
        bench = bench;
        name = name;
        bytes = bytes;
      }) (profile_of bytes) (profile (record {
        bench = bench;
        name = name;
        bytes = bytes;
      }) refl))
  behind rest (put_capture bench profile_name key size) profile capture =
      behind_body rest size (λ bytes. capture_sent a (record {
        bench = bench;
        key = key;
        profile = profile_name;
        bytes = bytes;
      })) (λ bytes. behind_found (record {
        bench = bench;
        key = key;
        profile = profile_name;
        bytes = bytes;
      }) (finding (option_map (λ p. p.bytes) (profile_at a bench profile_name)) bytes)
      (capture (record {
        bench = bench;
        key = key;
        profile = profile_name;
        bytes = bytes;
      }) refl))
  behind rest (list_captures bench) profile capture = as_before
  behind rest (get_capture bench key) profile capture =
      behind_shown (option_map found_of (capture_at a bench key))
  behind rest (get_verdicts bench key) profile capture =
      behind_verdicts bench key (option_map found_of (capture_at a bench key))
  behind rest (get_hits bench rule) profile capture = as_before
  behind rest (refused refusal) profile capture = as_before

-- ---- the rows of other benches stay

apart_by : (x y : List ℕ) (b : Bool) → bytes_eq x y ≡ b → x ≢ y → b ≡ false
apart_by x y true is differ = absurd (differ ((bytes_eq-Decides x y).0 is))
apart_by x y false is differ = refl

apart : (x y : List ℕ) → x ≢ y → bytes_eq x y ≡ false
apart x y differ = apart_by x y (bytes_eq x y) refl differ

profiles_apart : (a : Archive) (p : Profile) (other : List ℕ) → p.bench ≢ other
    → AgreeOn other a (with_profile a p)
profiles_apart a p other differ = record {
  profiles =
      sym (filter-append (λ (q : Profile). bytes_eq q.bench other) a.profiles (p ∷ [])
      ∙ ap (λ b. filter (λ (q : Profile). bytes_eq q.bench other) a.profiles
      ++ cond b (p ∷ []) []) (apart p.bench other differ)
      ∙ append-nil (filter (λ (q : Profile). bytes_eq q.bench other) a.profiles));
  captures = refl;
}

captures_apart : (a : Archive) (c : Capture) (other : List ℕ) → c.bench ≢ other
    → AgreeOn other a (with_capture a c)
captures_apart a c other differ = record {
  profiles = refl;
  captures =
      sym (filter-append (λ (d : Capture). bytes_eq d.bench other) a.captures (c ∷ [])
      ∙ ap (λ b. filter (λ (d : Capture). bytes_eq d.bench other) a.captures
      ++ cond b (c ∷ []) []) (apart c.bench other differ)
      ∙ append-nil (filter (λ (d : Capture). bytes_eq d.bench other) a.captures));
}

pub others_stay : (a : Archive) (rest : List ℕ) (asked : Asked) (other : List ℕ)
    → bench_of asked ≢ Some other → AgreeOn other a (outcome_of a rest asked).rows
others_stay a rest asked other differ =
    behind a (AgreeOn other a) (record { profiles = refl; captures = refl }) rest asked
    (λ p is. profiles_apart a p other (λ same. differ (is ∙ ap Some same)))
    (λ c is. captures_apart a c other (λ same. differ (is ∙ ap Some same)))

-- ---- rows are added, and none is changed or removed

pub grows_none : (a : Archive) → Grows a a
grows_none a = record {
  profiles = [];
  captures = [];
  more_profiles = sym (append-nil a.profiles);
  more_captures = sym (append-nil a.captures);
}

grows_profile : (a : Archive) (p : Profile) → Grows a (with_profile a p)
grows_profile a p = record {
  profiles = p ∷ [];
  captures = [];
  more_profiles = refl;
  more_captures = sym (append-nil a.captures);
}

pub grows_capture : (a : Archive) (c : Capture) → Grows a (with_capture a c)
grows_capture a c = record {
  profiles = [];
  captures = c ∷ [];
  more_profiles = sym (append-nil a.profiles);
  more_captures = refl;
}

pub grows_then : (a b c : Archive) → Grows a b → Grows b c → Grows a c
grows_then a b c first next = record {
  profiles = first.profiles ++ next.profiles;
  captures = first.captures ++ next.captures;
  more_profiles =
      next.more_profiles ∙ ap (λ rows. rows ++ next.profiles) first.more_profiles
      ∙ append_assoc a.profiles first.profiles next.profiles;
  more_captures =
      next.more_captures ∙ ap (λ rows. rows ++ next.captures) first.more_captures
      ∙ append_assoc a.captures first.captures next.captures;
}

grows_of : (a : Archive) (rest : List ℕ) (asked : Asked) → Grows a (outcome_of a rest asked).rows
grows_of a rest asked =
    behind a (Grows a) (grows_none a) rest asked (λ p is. grows_profile a p)
    (λ c is. grows_capture a c)

pub grows : (a : Archive) (text : List ℕ) (front : Front) → Grows a (outcome a text front).rows
grows a text (whole head) = grows_of a (drop (length (print_request head)) text)
    (asked_by head.method head.target (form_of (map name_and_value head.fields)))
grows a text bad = grows_none a
grows a text long = grows_none a
grows a text short = grows_none a
