-- What a command promises, from what became of its profile.
use Rattle.std.proofs.Common.{◌≡◌, ◌≢◌, ◌⊎◌, inl, inr, List, ℕ, sym, subst, Result, Ok, Err}
use Rattle.std.proofs.lemmas.Bool.{cases_eq}
use Rattle.pl_io.specs.declared.shelf.Shelf as shelf
use Rattle.pl_io.specs.declared.sink.Sink as sink
use Rattle.pl_profile.specs.declared.error.ProfileError.TheVariants.{NotToml, UnknownKey, WrongType, OutOfRange, TooLong, Memory}
use Rattle.pl_profile.specs.declared.profile.Profile.{Profile}
use Rattle.pl_cli.specs.declared.profile.NoProfile.{NoProfile}
use Rattle.pl_cli.specs.declared.profile.NoProfile.TheVariants.{Unreadable, Refused}
use Rattle.pl_cli.specs.Output.{View}
use Rattle.pl_cli.specs.Promise.{Judges, ProfileIs, ReadsProfile, Shows, no_memory, profile_read, profile_refused, profile_unread}
use Rattle.pl_cli.specs.Source.{ProfileCame, RefusesProfile}

module _ {H O : Type 0} {S : shelf.Ghosts H} {T : sink.Ghosts O} {v : View} {profile capture : List ℕ} {old new : H} {out out' : O} {answer : ℕ} where
  -- a profile that was read, and memory for its engine or none
  pub under : (p : Profile) (between : H) → ProfileIs S profile (Ok p) old → ReadsProfile S profile old between →
      (answer ≢ 9 → Judges S T v p capture between new out out' answer) → (answer ≡ 9 → (new ≡ between) × (out' ≡ out)) →
      Shows S T v profile capture old new out out' answer
  under p between is r j none = by (cases_eq answer 9)
    where
      by : (answer ≡ 9) ⊎ (answer ≢ 9) → Shows S T v profile capture old new out out' answer
      by (inl is9) = no_memory (subst (ReadsProfile S profile old) (sym (none is9).0) r) (none is9).1 is9
      by (inr n9) = profile_read p between is r (j n9)

  -- one that can't be had
  pub without : (none : NoProfile) → (let r : Result Profile NoProfile = Err none in ProfileCame S profile old new r) →
      RefusesProfile T none out out' answer → Shows S T v profile capture old new out out' answer
  without Unreadable u a = profile_unread u a
  without (Refused Memory) c h = no_memory c.1 h.0 h.1
  without (Refused NotToml) c a = profile_refused NotToml (λ h. cc) (c.0 (λ h. cc)) c.1 a
  without (Refused UnknownKey) c a = profile_refused UnknownKey (λ h. cc) (c.0 (λ h. cc)) c.1 a
  without (Refused WrongType) c a = profile_refused WrongType (λ h. cc) (c.0 (λ h. cc)) c.1 a
  without (Refused OutOfRange) c a = profile_refused OutOfRange (λ h. cc) (c.0 (λ h. cc)) c.1 a
  without (Refused TooLong) c a = profile_refused TooLong (λ h. cc) (c.0 (λ h. cc)) c.1 a
