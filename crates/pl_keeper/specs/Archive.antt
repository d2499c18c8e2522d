-- The archive: profiles by bench and name, captures by bench and key. Each is the list of its rows,
-- in the order in which they were stored, and is looked up as a finite map.
use Rattle.std.specs.Prelude.{ℕ, Bool, ◌&&◌, List, [], ◌∷◌, ◌++◌, filter, Option, bytes_eq}
use Rattle.std.specs.List.{find}

pub record Profile : Type 0 where
  pub bench : List ℕ
  pub name : List ℕ
  pub bytes : List ℕ

-- `profile` is the name of a profile of the same bench
pub record Capture : Type 0 where
  pub bench : List ℕ
  pub key : List ℕ
  pub profile : List ℕ
  pub bytes : List ℕ

pub record Archive : Type 0 where
  pub profiles : List Profile
  pub captures : List Capture

abbrev pub empty_archive : Archive
empty_archive = record { profiles = []; captures = [] }

-- the most bytes that a profile or a capture has
abbrev pub longest_body : ℕ
longest_body = 4194304

abbrev pub is_profile : List ℕ → List ℕ → Profile → Bool
is_profile bench name p = bytes_eq p.bench bench && bytes_eq p.name name

abbrev pub is_capture : List ℕ → List ℕ → Capture → Bool
is_capture bench key c = bytes_eq c.bench bench && bytes_eq c.key key

-- the look-ups
abbrev pub profile_at : Archive → List ℕ → List ℕ → Option Profile
profile_at a bench name = find (is_profile bench name) a.profiles

abbrev pub capture_at : Archive → List ℕ → List ℕ → Option Capture
capture_at a bench key = find (is_capture bench key) a.captures

-- the rows of one bench
abbrev pub profiles_of : Archive → List ℕ → List Profile
profiles_of a bench = filter (λ p. bytes_eq p.bench bench) a.profiles

abbrev pub captures_of : Archive → List ℕ → List Capture
captures_of a bench = filter (λ c. bytes_eq c.bench bench) a.captures

-- one more row
abbrev pub with_profile : Archive → Profile → Archive
with_profile a p = record a { profiles = a.profiles ++ p ∷ [] }

abbrev pub with_capture : Archive → Capture → Archive
with_capture a c = record a { captures = a.captures ++ c ∷ [] }
