-- What `run` says in words of the profile and of the capture, where the shelf tells its files.
use Rattle.std.specs.Prelude.{◌≡◌, ◌≢◌, ℕ, ◌<◌, ◌≤◌, ◌⊎◌, true, List, [], ◌++◌, length, Option}
use Rattle.std.specs.Prelude.{Some, None, IsSome, Result, Ok, Err, if◌then◌else◌}
use Rattle.pl_io.specs.declared.shelf.Shelf as shelf
use Rattle.pl_io.specs.declared.sink.Sink as sink
use Rattle.pl_io.specs.Faults.{last_count, raised}
use Rattle.pl_io.specs.Told.{plus, HasRoom, Partly}
use Rattle.pl_capture.specs.Reading.{reading, Ended}
use Rattle.pl_profile.specs.Refusal.{number_of}
use Rattle.pl_profile.specs.declared.error.ProfileError.{ProfileError}
use Rattle.pl_profile.specs.declared.profile.Profile.{Profile}
use Rattle.pl_engine.specs.Verdicts.{refusal, verdicts_after}
use Rattle.pl_filter.specs.Answers.{IsAnswer}
use Rattle.pl_filter.specs.declared.error.FilterError.{FilterError}
use Rattle.pl_report.specs.Lines.{profile_error_text, read_fault_text}
use Rattle.pl_cli.specs.declared.status.TheConstants.{BROKEN, MALFORMED, NO_MEMORY, READ_FAULT}
use Rattle.pl_cli.specs.declared.status.TheConstants.{UNSUPPORTED, WRITE_FAULT}
use Rattle.pl_cli.specs.Output.{AtFault, Check, Fault, Listing, Report, View, cause, cut, limit}
use Rattle.pl_cli.specs.Output.{output, summary, tally_after}
use Rattle.pl_cli.specs.Progress.{ReadOf}
use Rattle.pl_cli.specs.Promise.{HasFilter, IsCommand, IsTrial, ProfileUnread, ReadsProfile}
use Rattle.pl_cli.specs.Promise.{is_dash}
use Rattle.pl_cli.specs.Source.{profile_under}

-- The words ask for this view of a capture, and the shelf tells its files: the profile is this one,
-- and the capture has these bytes.
pub record Asks {H : Type 0} (S : shelf.Ghosts H) (words : List (List ℕ)) (old : H)
    (view : View) (profile : Profile) (bytes : List ℕ) : Type 0 where
  pub profile_name : List ℕ
  pub capture_name : List ℕ
  pub command : IsCommand words view profile_name capture_name
  pub told : S.told old ≡ true
  pub profile_is : profile_under (S.file old) profile_name ≡ Some (Ok profile)
  pub capture_is : S.file old capture_name ≡ Some bytes

-- neither a fault nor want of memory is answered
abbrev pub NoFault : ℕ → Type 0
NoFault answer = (answer ≢ READ_FAULT) × (answer ≢ WRITE_FAULT) × (answer ≢ NO_MEMORY)

-- the status of a capture that was judged, to its end or to a refusal
abbrev pub IsJudged : ℕ → Type 0
IsJudged answer = (answer ≤ BROKEN) ⊎ ((MALFORMED ≤ answer) × (answer ≤ UNSUPPORTED))

-- exactly this text was appended, and this status answered
abbrev pub Gives : List ℕ → ℕ → Option (List ℕ) → Option (List ℕ) → ℕ → Type 0
Gives text status old new answer = (new ≡ plus old text) × (answer ≡ status)

-- a part of this text was appended, for all of which there was no room
pub record GivesPart {O : Type 0} (S : sink.Ghosts O) (text : List ℕ) (old new : O) : Type 0 where
  pub part : Partly (S.written old) (S.written new) text
  pub no_room : HasRoom (S.room old) (length text) → ⊥

-- how often a shelf was asked for a file once the profile of this name was read: once more, unless
-- a dash names it
abbrev pub after_profile : List ℕ → ℕ → ℕ
after_profile name opens = if is_dash name then opens else raised opens

-- The profile's file was asked for, once, and then the capture, once: that is what is open, if
-- anything is.
pub record OpensBoth {H : Type 0} (S : shelf.Ghosts H) (profile capture : List ℕ) (old new : H)
    : Type 0 where
  pub once_each : S.opens new ≡ raised (after_profile profile (S.opens old))
  pub named : S.told old ≡ true → S.is_open new ≡ true → S.open_name new ≡ Some capture

-- The capture couldn't be read to its end: these bytes of it were, in which nothing is refused.
pub record CutAt {H : Type 0} (S : shelf.Ghosts H) (p : Profile)
    (profile capture bytes read : List ℕ) (old new : H) : Type 0 where
  pub opens : OpensBoth S profile capture old new
  pub read_of : ReadOf bytes (S.is_open new) (S.rest new) read
  pub size : length read ≤ limit
  pub none_refused : cause p (reading read) Fault ≡ AtFault

-- The text of what was read of the capture was appended; or a part of it.
abbrev pub GivesCut : {H O : Type 0} → shelf.Ghosts H → sink.Ghosts O → View → Profile →
    List ℕ → List ℕ → List ℕ → H → H → O → O → Type 0
GivesCut S T view p profile capture bytes old new out out' =
    (read : List ℕ) × CutAt S p profile capture bytes read old new
    × (T.written out' ≡ plus (T.written out) (cut view p read))

abbrev pub GivesPartOfCut : {H O : Type 0} → shelf.Ghosts H → sink.Ghosts O → View → Profile →
    List ℕ → List ℕ → List ℕ → H → H → O → O → Type 0
GivesPartOfCut S T view p profile capture bytes old new out out' =
    (read : List ℕ) × CutAt S p profile capture bytes read old new
    × GivesPart T (cut view p read) out out'

-- The profile couldn't be read, and the line of that alone was appended; or a part of it.
abbrev pub GivesFault : {H O : Type 0} → shelf.Ghosts H → sink.Ghosts O →
    List ℕ → H → H → O → O → Type 0
GivesFault S T profile old new out out' =
    ProfileUnread S profile old new × (T.written out' ≡ plus (T.written out) read_fault_text)

abbrev pub GivesPartOfFault : {H O : Type 0} → shelf.Ghosts H → sink.Ghosts O →
    List ℕ → H → H → O → O → Type 0
GivesPartOfFault S T profile old new out out' =
    ProfileUnread S profile old new × GivesPart T read_fault_text out out'

-- The whole file was judged, it ended with its end record, and no item breaks a rule or is refused.
pub record RunsCleanly (profile : Profile) (file : List ℕ) : Type 0 where
  pub size : length file ≤ limit
  pub ended : (reading file).ending ≡ Ended
  pub judged : refusal profile [] (reading file).items ≡ None
  pub clean : verdicts_after profile [] (reading file).items ≡ []

-- the count didn't rise in the call, and isn't at its last value
abbrev pub IsUnrisen : ℕ → ℕ → Type 0
IsUnrisen before now = (now ≡ before) × (now < last_count)

-- The files that a command needs are there: that of its profile, and, unless that is refused, the
-- capture.
abbrev pub AreThere : Option (Result Profile ProfileError) → Option (List ℕ) → Type 0
AreThere None capture = ⊥
AreThere (Some (Err e)) capture = Unit {0}
AreThere (Some (Ok profile)) capture = IsSome capture

-- What is written of a capture of which nothing was read: a report counts no items first.
abbrev pub nothing_read : View → Profile → List ℕ
nothing_read view profile = summary view (tally_after profile []) ++ read_fault_text

-- What a command writes where no fault comes but that of a file that isn't there.
abbrev pub whole_text : View → Option (Result Profile ProfileError) → Option (List ℕ) → List ℕ
whole_text view None capture = read_fault_text
whole_text view (Some (Err e)) capture = profile_error_text (number_of e)
whole_text view (Some (Ok profile)) None = nothing_read view profile
whole_text view (Some (Ok profile)) (Some bytes) = output view profile bytes

-- A list reads its filter first, for which memory was there; the other views need none for theirs.
abbrev pub FilterIsRead : View → ℕ → Type 0
FilterIsRead Check answer = Unit {0}
FilterIsRead (Listing filter) answer = answer ≢ NO_MEMORY
FilterIsRead Report answer = Unit {0}

-- the words are a list whose filter is refused
abbrev pub IsRefused : List (List ℕ) → FilterError → Type 0
IsRefused words e = (filter : List ℕ) × HasFilter words filter × IsAnswer filter (Err e)

-- Memory was wanting for the filter of a list, of which nothing was opened.
abbrev pub LacksFilter : {H : Type 0} → List (List ℕ) → H → H → Type 0
LacksFilter words old new = (filter : List ℕ) × HasFilter words filter × (new ≡ old)

-- Or for the profile or the engine, before the capture is opened.
abbrev pub LacksProfile : {H : Type 0} → shelf.Ghosts H → List (List ℕ) → H → H → Type 0
LacksProfile S words old new =
    (view : View) × (profile : List ℕ) × (capture : List ℕ)
    × IsCommand words view profile capture × ReadsProfile S profile old new

-- Or for the engine of a generated capture, for which nothing is opened.
abbrev pub LacksEngine : {H : Type 0} → List (List ℕ) → H → H → Type 0
LacksEngine words old new =
    (number : ℕ) × (count : ℕ) × IsTrial words number count × (new ≡ old)

-- the words ask for a generated capture
abbrev pub IsGenerated : List (List ℕ) → Type 0
IsGenerated words = (number : ℕ) × (count : ℕ) × IsTrial words number count
