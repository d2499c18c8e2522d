-- What a put within a transaction keeps.
use Rattle.std.proofs.Common.{◌≡◌, List, ℕ, Bool, true, false, Some, None, Option, refl, ◌∙◌}
use Rattle.std.specs.Prelude.{option_map, if◌then◌else◌, bytes_eq, filter, slice_get, length}
use Rattle.sqlite.specs.State.{State, KeepsCommit}
use Rattle.pl_keeper.specs.declared.keeper.Put.{Put}
use Rattle.pl_keeper.specs.declared.keeper.Put.TheVariants.{Same, OtherBytes, OtherProfile}
use Rattle.pl_keeper.specs.Archive.{Archive, Profile, Capture, is_profile, is_capture}
use Rattle.pl_keeper.specs.Puts.{compared, compared_capture, first_difference, after_profile, after_capture}
use Rattle.pl_keeper.proofs.Firsts.{same_some}

-- one call after the other
pub keeps_on : (old mid new : State) → KeepsCommit old mid → KeepsCommit mid new → KeepsCommit old new
keeps_on old mid new p q = record {
  was_open = λ on. p.was_open (q.was_open on);
  committed = λ on. q.committed on ∙ p.committed (q.was_open on);
}

-- a put over a row that is there adds none
over_profile : (b : Bool) (n k : ℕ) (a : Archive) (p : Profile) → after_profile (if b then Same else OtherBytes n k) a p ≡ a
over_profile true n k a p = refl
over_profile false n k a p = refl

over_capture : (b : Bool) (n k : ℕ) (a : Archive) (c : Capture) → after_capture (if b then Same else OtherBytes n k) a c ≡ a
over_capture true n k a c = refl
over_capture false n k a c = refl

under_its_profile : (b : Bool) (old new : List ℕ) (a : Archive) (c : Capture) → after_capture (if b then compared old new else OtherProfile) a c ≡ a
under_its_profile true old new a c = over_capture (bytes_eq old new) (length old) (first_difference old new) a c
under_its_profile false old new a c = refl

profile_there : (found : Option Profile) (put : Put) (a : Archive) (p : Profile) → Some put ≡ option_map (λ q. compared q.bytes p.bytes) found → after_profile put a p ≡ a
profile_there None put a p h = absurd cc
profile_there (Some q) put a p h = rw (same_some put _ h) (over_profile (bytes_eq q.bytes p.bytes) (length q.bytes) (first_difference q.bytes p.bytes) a p)

pub profile_kept : (a : Archive) (p : Profile) (put : Put) → Some put ≡ option_map (λ q. compared q.bytes p.bytes) (slice_get (filter (is_profile p.bench p.name) a.profiles) 0) → after_profile put a p ≡ a
profile_kept a p put h = profile_there _ put a p h

capture_there : (found : Option Capture) (put : Put) (a : Archive) (c : Capture) → Some put ≡ option_map (λ d. compared_capture d c.profile c.bytes) found → after_capture put a c ≡ a
capture_there None put a c h = absurd cc
capture_there (Some d) put a c h = rw (same_some put _ h) (under_its_profile (bytes_eq d.profile c.profile) d.bytes c.bytes a c)

pub capture_kept : (a : Archive) (c : Capture) (put : Put) → Some put ≡ option_map (λ d. compared_capture d c.profile c.bytes) (slice_get (filter (is_capture c.bench c.key) a.captures) 0) → after_capture put a c ≡ a
capture_kept a c put h = capture_there _ put a c h
