-- What follows for many requests.
use Rattle.std.specs.Prelude.{◌≡◌, ℕ, Bool, true, false, List, ◌++◌, Option, Some, None}
use Rattle.pl_head.specs.declared.status.Status.{Status}
use Rattle.pl_head.specs.declared.status.Status.TheVariants.{Success, Created}
use Rattle.pl_keeper.specs.Archive.{Archive, Profile, Capture, profiles_of, captures_of}
use Rattle.pl_web.specs.Answer.{Answer}
use Rattle.pl_web.specs.Outcome.{outcome_of}
use Rattle.pl_web.specs.Requests.{Asked, put_profile, put_capture, list_captures}
use Rattle.pl_web.specs.Requests.{get_capture, get_verdicts, get_hits, refused}

-- two archives have the same rows of a bench
pub record AgreeOn (bench : List ℕ) (a b : Archive) : Type 0 where
  pub profiles : profiles_of a bench ≡ profiles_of b bench
  pub captures : captures_of a bench ≡ captures_of b bench

-- the bench that a request names
abbrev pub bench_of : Asked → Option (List ℕ)
bench_of (put_profile bench name size) = Some bench
bench_of (put_capture bench profile key size) = Some bench
bench_of (list_captures bench) = Some bench
bench_of (get_capture bench key) = Some bench
bench_of (get_verdicts bench key) = Some bench
bench_of (get_hits bench rule) = Some bench
bench_of (refused refusal) = None

abbrev pub AgreeFor : Asked → Archive → Archive → Type 0
AgreeFor asked a b = (bench : List ℕ) → bench_of asked ≡ Some bench → AgreeOn bench a b

-- rows were added to an archive, or none, and no row was changed or removed
pub record Grows (old new : Archive) : Type 0 where
  pub profiles : List Profile
  pub captures : List Capture
  pub more_profiles : new.profiles ≡ old.profiles ++ profiles
  pub more_captures : new.captures ≡ old.captures ++ captures

-- it asks that something be stored
abbrev pub is_upload : Asked → Bool
is_upload (put_profile bench name size) = true
is_upload (put_capture bench profile key size) = true
is_upload (list_captures bench) = false
is_upload (get_capture bench key) = false
is_upload (get_verdicts bench key) = false
is_upload (get_hits bench rule) = false
is_upload (refused refusal) = false

abbrev pub is_created_as : Status → Bool
is_created_as Created = true
is_created_as other = false

-- it was stored, or was there
abbrev pub is_stored : Status → Bool
is_stored Created = true
is_stored Success = true
is_stored other = false

-- a row was stored for it
abbrev pub is_created : Option Answer → Bool
is_created None = false
is_created (Some answer) = is_created_as answer.status

-- An upload that was answered 200 or 201 is answered 200 with the same body wherever its row is
-- there, and changes nothing.
pub record ActsOnce (asked : Asked) (rest : List ℕ) (old now : Archive) (answer : Answer) : Type 0
  where
    pub unchanged : (outcome_of now rest asked).rows ≡ now
    pub repeated : (outcome_of now rest asked).answer ≡ Some (record answer { status = Success })
