-- The answer of a put, from what its look-ups found.
use Rattle.std.proofs.Common.{◌≡◌, ◌≤◌, ◌<◌, ℕ, List, Some, None, Option, refl, sym, ap, ◌∙◌, arith, lt-ltb, le-ltb}
use Rattle.std.specs.Prelude.{option_map, nat_lt, if◌then◌else◌, slice_get, filter, length}
use Rattle.pl_keeper.specs.declared.keeper.Put.{Put}
use Rattle.pl_keeper.specs.declared.keeper.Put.TheVariants.{New, Full, NoProfile}
use Rattle.pl_keeper.specs.Archive.{Archive, Profile, Capture, is_profile, is_capture, profiles_of, captures_of}
use Rattle.pl_keeper.specs.Puts.{compared, compared_capture, profile_put, capture_put, put_of_profile, put_of_capture}
use Rattle.pl_keeper.proofs.Firsts.{first_passing, same_some}

-- whether there is room, as the code and the definition test it
has_room : (n most : ℕ) → n < most → (if nat_lt n most then New else Full) ≡ New
has_room n most h = ap (λ b. if b then New else Full) (lt-ltb n most h)

is_full : (n most : ℕ) → most ≤ n → (if nat_lt n most then New else Full) ≡ Full
is_full n most h = ap (λ b. if b then New else Full) (le-ltb n most h)

profile_there : (found : Option Profile) (count : ℕ) (bytes : List ℕ) (put : Put) → Some put ≡ option_map (λ p. compared p.bytes bytes) found → put ≡ profile_put found count bytes
profile_there None count bytes put h = absurd cc
profile_there (Some p) count bytes put h = same_some put _ h

profile_absent : (found : Option Profile) (count : ℕ) (bytes : List ℕ) → ◌≡◌ {A = Option Put} None (option_map (λ p. compared p.bytes bytes) found) → profile_put found count bytes ≡ (if nat_lt count 16 then New else Full)
profile_absent None count bytes h = refl
profile_absent (Some p) count bytes h = absurd cc

module _ (a : Archive) (p : Profile) where
  abbrev pub profile_found : Option Profile
  profile_found = slice_get (filter (is_profile p.bench p.name) a.profiles) 0

  pub profile_answer : (put : Put) → Some put ≡ option_map (λ q. compared q.bytes p.bytes) profile_found → put ≡ put_of_profile a p
  profile_answer put h = rw (first_passing (is_profile p.bench p.name) a.profiles) (profile_there profile_found _ p.bytes put h)

  module _ (count : ℕ) (is : count ≡ length (profiles_of a p.bench)) (none : ◌≡◌ {A = Option Put} None (option_map (λ q. compared q.bytes p.bytes) profile_found)) where
    pub profile_full : 16 ≤ count → Full ≡ put_of_profile a p
    profile_full full = rw (first_passing (is_profile p.bench p.name) a.profiles) (sym (profile_absent profile_found _ p.bytes none ∙ is_full (length (profiles_of a p.bench)) 16 (omega arith)))

    pub profile_new : count < 16 → New ≡ put_of_profile a p
    profile_new room = rw (first_passing (is_profile p.bench p.name) a.profiles) (sym (profile_absent profile_found _ p.bytes none ∙ has_room (length (profiles_of a p.bench)) 16 (omega arith)))

capture_there : (found : Option Capture) (owner : Option Profile) (count : ℕ) (profile bytes : List ℕ) (put : Put) → Some put ≡ option_map (λ c. compared_capture c profile bytes) found → put ≡ capture_put found owner count profile bytes
capture_there None owner count profile bytes put h = absurd cc
capture_there (Some c) owner count profile bytes put h = same_some put _ h

capture_orphan : (found : Option Capture) (owner : Option Profile) (count : ℕ) (profile bytes : List ℕ) → ◌≡◌ {A = Option Put} None (option_map (λ c. compared_capture c profile bytes) found) → owner ≡ None → capture_put found owner count profile bytes ≡ NoProfile
capture_orphan None owner count profile bytes h none = rw none
capture_orphan (Some c) owner count profile bytes h none = absurd cc

capture_absent : (found : Option Capture) (owner : Option Profile) (count : ℕ) (profile bytes : List ℕ) (p : Profile) → ◌≡◌ {A = Option Put} None (option_map (λ c. compared_capture c profile bytes) found) → owner ≡ Some p → capture_put found owner count profile bytes ≡ (if nat_lt count 64 then New else Full)
capture_absent None owner count profile bytes p h some = rw some
capture_absent (Some c) owner count profile bytes p h some = absurd cc

module _ (a : Archive) (c : Capture) where
  abbrev pub capture_found : Option Capture
  capture_found = slice_get (filter (is_capture c.bench c.key) a.captures) 0

  abbrev pub owner_found : Option Profile
  owner_found = slice_get (filter (is_profile c.bench c.profile) a.profiles) 0

  pub capture_answer : (put : Put) → Some put ≡ option_map (λ d. compared_capture d c.profile c.bytes) capture_found → put ≡ put_of_capture a c
  capture_answer put h = rw (first_passing (is_capture c.bench c.key) a.captures) (capture_there capture_found _ _ c.profile c.bytes put h)

  module _ (none : ◌≡◌ {A = Option Put} None (option_map (λ d. compared_capture d c.profile c.bytes) capture_found)) where
    pub capture_no_profile : owner_found ≡ None → NoProfile ≡ put_of_capture a c
    capture_no_profile no_owner = rw (first_passing (is_capture c.bench c.key) a.captures) (sym (capture_orphan capture_found _ _ c.profile c.bytes none (first_passing (is_profile c.bench c.profile) a.profiles ∙ no_owner)))

    module _ (p : Profile) (owner : owner_found ≡ Some p) (count : ℕ) (is : count ≡ length (captures_of a c.bench)) where
      pub capture_full : 64 ≤ count → Full ≡ put_of_capture a c
      capture_full full = rw (first_passing (is_capture c.bench c.key) a.captures) (sym (capture_absent capture_found _ _ c.profile c.bytes p none (first_passing (is_profile c.bench c.profile) a.profiles ∙ owner) ∙ is_full (length (captures_of a c.bench)) 64 (omega arith)))

      pub capture_new : count < 64 → New ≡ put_of_capture a c
      capture_new room = rw (first_passing (is_capture c.bench c.key) a.captures) (sym (capture_absent capture_found _ _ c.profile c.bytes p none (first_passing (is_profile c.bench c.profile) a.profiles ∙ owner) ∙ has_room (length (captures_of a c.bench)) 64 (omega arith)))
