-- Where the filter and the profile of a command come from.
use Rattle.std.specs.Prelude.{◌≡◌, ◌≢◌, ℕ, ◌+◌, ◌⊎◌, List, length, Option, Some, IsSome, Result, Ok}
use Rattle.std.specs.Prelude.{Err, if◌then◌else◌}
use Rattle.std.specs.Option.{option_map}
use Rattle.pl_io.specs.declared.shelf.Shelf as shelf
use Rattle.pl_io.specs.declared.sink.Sink as sink
use Rattle.pl_io.specs.Faults.{Rose}
use Rattle.pl_io.specs.Told.{ahead, AtEnd}
use Rattle.pl_profile.specs.declared.error.ProfileError.{ProfileError}
use Rattle.pl_profile.specs.declared.error.ProfileError.TheVariants.{NotToml, UnknownKey, WrongType}
use Rattle.pl_profile.specs.declared.error.ProfileError.TheVariants.{OutOfRange, TooLong, Memory}
use Rattle.pl_profile.specs.declared.profile.Profile.{Profile}
use Rattle.pl_profile.specs.ProfileOf.{longest_text, profile_of, usual_profile}
use Rattle.pl_filter.specs.declared.error.FilterError.{FilterError}
use Rattle.pl_filter.specs.declared.error.FilterError.TheVariants as filter
use Rattle.pl_report.specs.Lines.{filter_error_text, profile_error_text, read_fault_text}
use Rattle.pl_cli.specs.declared.status.TheConstants.{FILTER, NO_MEMORY, PROFILE, READ_FAULT}
use Rattle.pl_cli.specs.Promise.{Answers, ProfileIs, ProfileUnread, ReadsProfile, is_dash}
use Rattle.pl_cli.specs.declared.profile.NoProfile.{NoProfile}
use Rattle.pl_cli.specs.declared.profile.NoProfile.TheVariants.{Unreadable, Refused}

-- A dash names the usual profile, any other word a file with a profile's text. None where there is
-- no such file.
abbrev pub profile_under : (List ℕ → Option (List ℕ)) → List ℕ →
    Option (Result Profile ProfileError)
profile_under file name =
    if is_dash name then Some (Ok usual_profile) else option_map profile_of (file name)

-- the text's refusal, where memory was there
abbrev pub Refuses : Option (Result Profile ProfileError) → ProfileError → Type 0
Refuses source NotToml = source ≡ Some (Err NotToml)
Refuses source UnknownKey = source ≡ Some (Err UnknownKey)
Refuses source WrongType = source ≡ Some (Err WrongType)
Refuses source OutOfRange = source ≡ Some (Err OutOfRange)
Refuses source TooLong = source ≡ Some (Err TooLong)
Refuses source Memory = IsSome source

-- The answer is the profile that is named, or its refusal.
abbrev pub IsNamed : Option (Result Profile ProfileError) → Result Profile NoProfile → Type 0
IsNamed source (Ok profile) = source ≡ Some (Ok profile)
IsNamed source (Err (Refused error)) = Refuses source error
IsNamed source (Err Unreadable) = Unit {0}

-- A profile that couldn't be read is answered only where a fault was counted, and nothing else is
-- counted.
abbrev pub ProfileCause : {T : Type 0} → Result T NoProfile → ℕ → ℕ → Type 0
ProfileCause (Ok profile) before now = now ≡ before
ProfileCause (Err (Refused error)) before now = now ≡ before
ProfileCause (Err Unreadable) before now = Rose before now

abbrev pub IsReadable : {T : Type 0} → Result T NoProfile → Type 0
IsReadable (Ok profile) = Unit {0}
IsReadable (Err (Refused error)) = Unit {0}
IsReadable (Err Unreadable) = ⊥

-- all that was left of a file, or a front of it that is too long for a profile's text
pub record IsText (text : List ℕ) (rest rest' : Option (List ℕ)) : Type 0 where
  pub rest_is : rest ≡ ahead text rest'
  pub enough : AtEnd rest' ⊎ (length text ≡ longest_text + 1)

-- The line of a profile that can't be had, and its status; nothing for want of memory.
abbrev pub RefusesProfile : {O : Type 0} → sink.Ghosts O → NoProfile → O → O → ℕ → Type 0
RefusesProfile T Unreadable old new answer = Answers T read_fault_text READ_FAULT old new answer
RefusesProfile T (Refused Memory) old new answer = (new ≡ old) × (answer ≡ NO_MEMORY)
RefusesProfile T (Refused NotToml) old new answer =
    Answers T (profile_error_text 1) PROFILE old new answer
RefusesProfile T (Refused UnknownKey) old new answer =
    Answers T (profile_error_text 2) PROFILE old new answer
RefusesProfile T (Refused WrongType) old new answer =
    Answers T (profile_error_text 3) PROFILE old new answer
RefusesProfile T (Refused OutOfRange) old new answer =
    Answers T (profile_error_text 4) PROFILE old new answer
RefusesProfile T (Refused TooLong) old new answer =
    Answers T (profile_error_text 5) PROFILE old new answer

-- The line of a filter that is refused, and its status; nothing for want of memory.
abbrev pub RefusesFilter : {O : Type 0} → sink.Ghosts O → FilterError → O → O → ℕ → Type 0
RefusesFilter T (filter.Syntax at) old new answer =
    Answers T (filter_error_text (filter.Syntax at)) FILTER old new answer
RefusesFilter T (filter.TooDeep at) old new answer =
    Answers T (filter_error_text (filter.TooDeep at)) FILTER old new answer
RefusesFilter T filter.Memory old new answer = (new ≡ old) × (answer ≡ NO_MEMORY)

abbrev pub IfUnreadable : {T : Type 0} → Result T NoProfile → Type 0 → Type 0
IfUnreadable (Ok profile) P = Unit {0}
IfUnreadable (Err (Refused error)) P = Unit {0}
IfUnreadable (Err Unreadable) P = P

-- what holds unless the profile couldn't be opened or read
abbrev pub IfReadable : {T : Type 0} → Result T NoProfile → Type 0 → Type 0
IfReadable (Ok profile) P = P
IfReadable (Err (Refused error)) P = P
IfReadable (Err Unreadable) P = Unit {0}

-- A text was judged, which is all that was left of the file, where that is told.
abbrev pub IsOfText : Result Profile NoProfile → Option (List ℕ) → Type 0
IsOfText result rest =
    (text : List ℕ) × ((whole : List ℕ) → rest ≡ Some whole → text ≡ whole)
    × IsNamed (Some (profile_of text)) result

-- What became of the profile that a word names.
abbrev pub ProfileCame : {H : Type 0} → shelf.Ghosts H → List ℕ → H → H →
    Result Profile NoProfile → Type 0
ProfileCame S name old new (Ok profile) =
    ProfileIs S name (Ok profile) old × ReadsProfile S name old new
ProfileCame S name old new (Err (Refused e)) =
    (e ≢ Memory → ProfileIs S name (Err e) old) × ReadsProfile S name old new
ProfileCame S name old new (Err Unreadable) = ProfileUnread S name old new
