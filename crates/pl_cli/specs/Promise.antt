-- What a command promises: of all that it may come to, what it read, wrote and answers.
-- The shelf and the sink are seen by what they tell of themselves, before and after.
use Rattle.std.specs.Prelude.{◌≡◌, ◌≢◌, ◌≤◌, ◌<◌, ℕ, ◌^◌, map, List, [], ◌∷◌, ◌++◌, codes, length}
use Rattle.std.specs.Prelude.{Bool, decimal, slice_get}
use Rattle.std.specs.Prelude.{true, false, Option, Some, IsSome, Result, Ok, Err, bytes_eq}
use Rattle.std.specs.Borrow.{Bor}
use Rattle.pl_io.specs.declared.shelf.Shelf as shelf
use Rattle.pl_io.specs.declared.sink.Sink as sink
use Rattle.pl_io.specs.Faults.{Rose, raised}
use Rattle.pl_io.specs.Told.{plus, HasRoom, Partly}
use Rattle.pl_capture.specs.Reading.{reading}
use Rattle.pl_profile.specs.Refusal.{number_of}
use Rattle.pl_profile.specs.declared.error.ProfileError.{ProfileError}
use Rattle.pl_profile.specs.declared.error.ProfileError.TheVariants.{Memory}
use Rattle.pl_profile.specs.declared.profile.Profile.{Profile}
use Rattle.pl_profile.specs.ProfileOf.{profile_of, usual_profile}
use Rattle.pl_filter.specs.Answers.{IsAnswer}
use Rattle.pl_filter.specs.Trees.{Tree}
use Rattle.pl_filter.specs.declared.error.FilterError.{FilterError}
use Rattle.pl_make.specs.Generated.{Gen}
use Rattle.pl_report.specs.Lines.{filter_error_text, profile_error_text, read_fault_text}
use Rattle.pl_report.specs.Lines.{usage_text}
use Rattle.pl_cli.specs.declared.status.TheConstants.{FILTER, NO_MEMORY, PROFILE, READ_FAULT}
use Rattle.pl_cli.specs.declared.status.TheConstants.{USAGE, WRITE_FAULT}
use Rattle.pl_cli.specs.Output.{AtFault, Check, Fault, Listing, Report, View, cause, cut, limit}
use Rattle.pl_cli.specs.Output.{output, status_of}

-- ---- the words

-- the texts of the words
abbrev pub texts : List (Bor (List ℕ)) → List (List ℕ)
texts words = map (λ word. word.now) words

-- `check PROFILE CAPTURE`
abbrev pub IsCheck : List (List ℕ) → List ℕ → List ℕ → Type 0
IsCheck words profile capture = words ≡ codes "check" ∷ profile ∷ capture ∷ []

-- `list PROFILE CAPTURE FILTER`
abbrev pub IsList : List (List ℕ) → List ℕ → List ℕ → List ℕ → Type 0
IsList words profile capture filter = words ≡ codes "list" ∷ profile ∷ capture ∷ filter ∷ []

-- `report PROFILE CAPTURE`
abbrev pub IsReport : List (List ℕ) → List ℕ → List ℕ → Type 0
IsReport words profile capture = words ≡ codes "report" ∷ profile ∷ capture ∷ []

-- `trial NUMBER COUNT`: 0 to 2^64 - 1 and 1 to 1,000,000, each spelled as it is printed, so with
-- neither a sign nor a leading zero
pub record IsTrial (words : List (List ℕ)) (number count : ℕ) : Type 0 where
  pub spelled : words ≡ codes "trial" ∷ decimal number ∷ decimal count ∷ []
  pub number_fits : number < 2 ^ 64
  pub some : 1 ≤ count
  pub most : count ≤ 1000000

-- the words ask for this view of a capture under a profile
abbrev pub IsCommand : List (List ℕ) → View → List ℕ → List ℕ → Type 0
IsCommand words Check profile capture = IsCheck words profile capture
IsCommand words (Listing f) profile capture =
    (filter : List ℕ) × IsList words profile capture filter × IsAnswer filter (Ok f)
IsCommand words Report profile capture = IsReport words profile capture

-- the words are a list whose filter has this text
abbrev pub HasFilter : List (List ℕ) → List ℕ → Type 0
HasFilter words filter =
    (profile : List ℕ) × (capture : List ℕ) × IsList words profile capture filter

-- there are so many words, of which the first is this
abbrev pub Begins : List (List ℕ) → List ℕ → ℕ → Type 0
Begins words name count = (length words ≡ count) × (slice_get words 0 ≡ Some name)

-- none of the commands
pub record IsNoJudging (words : List (List ℕ)) : Type 0 where
  pub no_check : (profile capture : List ℕ) → IsCheck words profile capture → ⊥
  pub no_list : (filter : List ℕ) → HasFilter words filter → ⊥
  pub no_report : (profile capture : List ℕ) → IsReport words profile capture → ⊥
  pub no_trial : (number count : ℕ) → IsTrial words number count → ⊥

-- a dash names the usual profile, and no file
abbrev pub is_dash : List ℕ → Bool
is_dash name = bytes_eq name (codes "-")

-- ---- what is written and answered

-- This text was appended and this status is answered. Or the sink failed, which was counted and is
-- answered, and a part of the text was appended, for all of which it had no room.
pub record Answers {O : Type 0} (T : sink.Ghosts O) (text : List ℕ) (status : ℕ) (old new : O)
    (answer : ℕ) : Type 0 where
  pub written : answer ≢ WRITE_FAULT → T.written new ≡ plus (T.written old) text
  pub answered : answer ≢ WRITE_FAULT → answer ≡ status
  pub kept : answer ≢ WRITE_FAULT → T.faults new ≡ T.faults old
  pub rose : answer ≡ WRITE_FAULT → Rose (T.faults old) (T.faults new)
  pub part : answer ≡ WRITE_FAULT → Partly (T.written old) (T.written new) text
  pub no_room : answer ≡ WRITE_FAULT → HasRoom (T.room old) (length text) → ⊥

-- ---- what is opened and read

-- The file of this name was asked for, once, and nothing else. It is what is open, if anything is.
pub record Opens {H : Type 0} (S : shelf.Ghosts H) (name : List ℕ) (old new : H) : Type 0 where
  pub once : S.opens new ≡ raised (S.opens old)
  pub named : S.told old ≡ true → S.is_open new ≡ true → S.open_name new ≡ Some name

-- These bytes are a front of a file, and this rest of it is left.
abbrev pub IsFront : List ℕ → Option (List ℕ) → Option (List ℕ) → Type 0
IsFront read file rest = (left : List ℕ) × (file ≡ Some (read ++ left)) × (rest ≡ Some left)

-- Then these bytes were read of it: a front of the file. None, where it couldn't be opened.
pub record Reads {H : Type 0} (S : shelf.Ghosts H) (name read : List ℕ) (old new : H) : Type 0 where
  pub opens : Opens S name old new
  pub nothing : S.is_open new ≡ false → read ≡ []
  pub from_file : S.told old ≡ true → S.is_open new ≡ true →
      IsFront read (S.file old name) (S.rest new)

-- A front of a file was read, and this rest is left: not the whole, unless the file is empty.
pub record IsBegun (file rest : Option (List ℕ)) : Type 0 where
  pub read : List ℕ
  pub left : List ℕ
  pub file_is : file ≡ Some (read ++ left)
  pub rest_is : rest ≡ Some left
  pub begun : read ≡ [] → left ≡ []

-- ---- the profile

-- This is the profile of that name, or its refusal: the usual one, or what a text says, which is
-- the file's, where that is told.
pub record ProfileIs {H : Type 0} (S : shelf.Ghosts H) (name : List ℕ)
    (profile : Result Profile ProfileError) (old : H) : Type 0 where
  pub dash : is_dash name ≡ true → profile ≡ Ok usual_profile
  pub file : is_dash name ≡ false →
      (text : List ℕ) × (profile ≡ profile_of text)
      × (S.told old ≡ true → S.file old name ≡ Some text)

-- The profile was read without a fault, and nothing else: with a dash the shelf is as it was.
pub record ReadsProfile {H : Type 0} (S : shelf.Ghosts H) (name : List ℕ) (old new : H)
    : Type 0 where
  pub dash : is_dash name ≡ true → new ≡ old
  pub opens : is_dash name ≡ false → Opens S name old new
  pub is_open : is_dash name ≡ false → S.is_open new ≡ true
  pub front : is_dash name ≡ false → S.told old ≡ true →
      IsBegun (S.file old name) (S.rest new)
  pub kept : S.faults new ≡ S.faults old
  -- nothing is changed by it
  pub still_told : S.told new ≡ S.told old
  pub files : (other : List ℕ) → S.file new other ≡ S.file old other
  pub still_sure : S.sure old ≡ true → S.sure new ≡ true

-- Its file couldn't be opened or read, which was counted. That never comes of a sure shelf that has
-- the file.
pub record ProfileUnread {H : Type 0} (S : shelf.Ghosts H) (name : List ℕ) (old new : H)
    : Type 0 where
  pub is_file : is_dash name ≡ false
  pub read : List ℕ
  pub reads : Reads S name read old new
  pub rose : Rose (S.faults old) (S.faults new)
  pub not_sure : S.sure old ≡ true → IsSome (S.file old name) → ⊥

-- ---- the capture

-- The capture was read as far as it is judged, without a fault: it has these bytes, where told.
pub record CaptureRead {H : Type 0} (S : shelf.Ghosts H) (name bytes : List ℕ) (old new : H)
    : Type 0 where
  pub opens : Opens S name old new
  pub is_open : S.is_open new ≡ true
  pub is_file : S.told old ≡ true → S.file old name ≡ Some bytes
  pub kept : S.faults new ≡ S.faults old

-- It couldn't be opened, or a read failed behind these bytes, no more than are judged, in which
-- nothing is refused. The fault was counted, and never comes of a sure shelf that has the capture.
pub record CaptureUnread {H : Type 0} (S : shelf.Ghosts H) (profile : Profile)
    (name read : List ℕ) (old new : H) : Type 0 where
  pub reads : Reads S name read old new
  pub size : length read ≤ limit
  pub none_refused : cause profile (reading read) Fault ≡ AtFault
  pub rose : Rose (S.faults old) (S.faults new)
  pub not_sure : S.sure old ≡ true → IsSome (S.file old name) → ⊥

-- ---- the promises

-- The capture of this name is judged under a profile.
pub data Judges {H O : Type 0} (S : shelf.Ghosts H) (T : sink.Ghosts O) (view : View)
    (profile : Profile) (capture : List ℕ) (old new : H) (out out' : O) (answer : ℕ)
    : Type 0 where
  judged : (bytes : List ℕ) → CaptureRead S capture bytes old new
      → Answers T (output view profile bytes) (status_of profile bytes) out out' answer
      → Judges S T view profile capture old new out out' answer
  unread : (read : List ℕ) → CaptureUnread S profile capture read old new
      → Answers T (cut view profile read) READ_FAULT out out' answer
      → Judges S T view profile capture old new out out' answer

-- What a view shows of a capture: the profile first, and where it and memory can be had, the
-- capture.
pub data Shows {H O : Type 0} (S : shelf.Ghosts H) (T : sink.Ghosts O) (view : View)
    (profile capture : List ℕ) (old new : H) (out out' : O) (answer : ℕ) : Type 0 where
  profile_unread : ProfileUnread S profile old new
      → Answers T read_fault_text READ_FAULT out out' answer
      → Shows S T view profile capture old new out out' answer
  profile_refused : (e : ProfileError) → e ≢ Memory
      → ProfileIs S profile (Err e) old → ReadsProfile S profile old new
      → Answers T (profile_error_text (number_of e)) PROFILE out out' answer
      → Shows S T view profile capture old new out out' answer
  no_memory : ReadsProfile S profile old new
      → out' ≡ out → answer ≡ NO_MEMORY
      → Shows S T view profile capture old new out out' answer
  profile_read : (p : Profile) (between : H)
      → ProfileIs S profile (Ok p) old → ReadsProfile S profile old between
      → Judges S T view p capture between new out out' answer
      → Shows S T view profile capture old new out out' answer

-- `list`: the filter first, and where it can be had, what it shows.
pub data Lists {H O : Type 0} (S : shelf.Ghosts H) (T : sink.Ghosts O)
    (profile capture filter : List ℕ) (old new : H) (out out' : O) (answer : ℕ) : Type 0 where
  refused : (e : FilterError) → IsAnswer filter (Err e) → new ≡ old
      → Answers T (filter_error_text e) FILTER out out' answer
      → Lists S T profile capture filter old new out out' answer
  lacking : new ≡ old → out' ≡ out → answer ≡ NO_MEMORY
      → Lists S T profile capture filter old new out out' answer
  listed : (f : Tree) → IsAnswer filter (Ok f)
      → Shows S T (Listing f) profile capture old new out out' answer
      → Lists S T profile capture filter old new out out' answer

-- what is written of a generated capture, and the status: its report under the usual profile
abbrev pub trial_text : ℕ → ℕ → List ℕ
trial_text number count = output Report usual_profile (Gen number count)

abbrev pub trial_status : ℕ → ℕ → ℕ
trial_status number count = status_of usual_profile (Gen number count)

-- `trial`: these, since the capture's bytes can always be read; or memory was wanting for the
-- engine.
pub data Trials {O : Type 0} (T : sink.Ghosts O) (number count : ℕ) (out out' : O) (answer : ℕ)
    : Type 0 where
  no_engine : out' ≡ out → answer ≡ NO_MEMORY → Trials T number count out out' answer
  reported : Answers T (trial_text number count) (trial_status number count) out out' answer
      → Trials T number count out out' answer

-- Whatever the words are.
pub data Runs {H O : Type 0} (S : shelf.Ghosts H) (T : sink.Ghosts O) (words : List (List ℕ))
    (old new : H) (out out' : O) (answer : ℕ) : Type 0 where
  no_command : IsNoJudging words → new ≡ old
      → Answers T usage_text USAGE out out' answer
      → Runs S T words old new out out' answer
  filter_refused : (filter : List ℕ) (e : FilterError) → HasFilter words filter
      → IsAnswer filter (Err e) → new ≡ old
      → Answers T (filter_error_text e) FILTER out out' answer
      → Runs S T words old new out out' answer
  no_filter : (filter : List ℕ) → HasFilter words filter → new ≡ old
      → out' ≡ out → answer ≡ NO_MEMORY
      → Runs S T words old new out out' answer
  shows : (view : View) (profile capture : List ℕ) → IsCommand words view profile capture
      → Shows S T view profile capture old new out out' answer
      → Runs S T words old new out out' answer
  tries : (number count : ℕ) → IsTrial words number count → new ≡ old
      → Trials T number count out out' answer
      → Runs S T words old new out out' answer
