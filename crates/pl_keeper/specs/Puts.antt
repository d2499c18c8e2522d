-- What a put answers, and what it makes of the archive.
use Rattle.std.specs.Prelude.{ℕ, suc, ◌==◌, if◌then◌else◌, Bool, true, false, List, [], ◌∷◌}
use Rattle.std.specs.Prelude.{length, nat_lt, Option, Some, None, bytes_eq}
use Rattle.pl_keeper.specs.declared.keeper.Put.{Put}
use Rattle.pl_keeper.specs.declared.keeper.Put.TheVariants.{New, Same, OtherProfile, OtherBytes}
use Rattle.pl_keeper.specs.declared.keeper.Put.TheVariants.{NoProfile, Full}
use Rattle.pl_keeper.specs.Archive.{Profile, Capture, Archive, profile_at, capture_at}
use Rattle.pl_keeper.specs.Archive.{profiles_of, captures_of, with_profile, with_capture}

-- the first place, counted from 0, where one of the two has another byte or has ended
abbrev pub first_difference : List ℕ → List ℕ → ℕ
first_difference [] new = 0
first_difference (x ∷ old) [] = 0
first_difference (x ∷ old) (y ∷ new) = if x == y then suc (first_difference old new) else 0

-- over bytes that are there
abbrev pub compared : List ℕ → List ℕ → Put
compared old new =
    if bytes_eq old new then Same else OtherBytes (length old) (first_difference old new)

-- over a capture that is there
abbrev pub compared_capture : Capture → List ℕ → List ℕ → Put
compared_capture c profile bytes =
    if bytes_eq c.profile profile then compared c.bytes bytes else OtherProfile

-- A put of a profile: over the row that is there, or where none is, by how many profiles the bench
-- has.
abbrev pub profile_put : Option Profile → ℕ → List ℕ → Put
profile_put (Some p) count bytes = compared p.bytes bytes
profile_put None count bytes = if nat_lt count 16 then New else Full

abbrev pub put_of_profile : Archive → Profile → Put
put_of_profile a p =
    profile_put (profile_at a p.bench p.name) (length (profiles_of a p.bench)) p.bytes

-- A put of a capture: over the row that is there, or where none is, by its profile's row and how
-- many captures the bench has.
abbrev pub capture_put : Option Capture → Option Profile → ℕ → List ℕ → List ℕ → Put
capture_put (Some c) owner count profile bytes = compared_capture c profile bytes
capture_put None None count profile bytes = NoProfile
capture_put None (Some p) count profile bytes = if nat_lt count 64 then New else Full

abbrev pub put_of_capture : Archive → Capture → Put
put_of_capture a c =
    capture_put (capture_at a c.bench c.key) (profile_at a c.bench c.profile)
    (length (captures_of a c.bench)) c.profile c.bytes

-- New adds the row, and every other answer changes nothing
abbrev pub after_profile : Put → Archive → Profile → Archive
after_profile New a p = with_profile a p
after_profile _ a p = a

abbrev pub after_capture : Put → Archive → Capture → Archive
after_capture New a c = with_capture a c
after_capture _ a c = a

-- New and Same follow a commit
abbrev pub commits : Put → Bool
commits New = true
commits Same = true
commits _ = false
