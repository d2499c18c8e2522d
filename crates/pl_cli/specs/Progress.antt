-- How far judging has come, whatever comes after.
use Rattle.std.specs.Prelude.{◌≡◌, ℕ, ◌+◌, ◌<◌, ◌≤◌, Bool, true, false, List, [], ◌∷◌, ◌++◌, length}
use Rattle.std.specs.Prelude.{Option, Some, None, Result, Ok, Err}
use Rattle.pl_base.specs.declared.stop.Stop.{Stop}
use Rattle.pl_base.specs.declared.tally.Tally.{Tally}
use Rattle.pl_base.specs.declared.verdict.Verdict.{Verdict}
use Rattle.pl_io.specs.declared.failed.Failed.{Failed}
use Rattle.pl_io.specs.declared.shelf.Shelf as shelf
use Rattle.pl_io.specs.declared.sink.Sink as sink
use Rattle.pl_io.specs.Faults.{Rose}
use Rattle.pl_io.specs.Told.{plus, ahead, HasRoom, Partly}
use Rattle.pl_io.specs.Told as told
use Rattle.pl_capture.specs.Entry.{Entry}
use Rattle.pl_capture.specs.Reading.{reading, Bad}
use Rattle.pl_capture.specs.Standing as reader
use Rattle.pl_capture.specs.declared.step.Step.{Step}
use Rattle.pl_capture.specs.declared.step.Step.TheVariants as step
use Rattle.pl_profile.specs.declared.profile.Profile.{Profile}
use Rattle.pl_engine.specs.declared.engine.Engine.{Engine}
use Rattle.pl_engine.specs.declared.refused.Refused.{Refused}
use Rattle.pl_engine.specs.Engine as engine
use Rattle.pl_engine.specs.Events.{number_after}
use Rattle.pl_engine.specs.Verdicts.{accepted, blocked, history_after, refusal, stop_of}
use Rattle.pl_engine.specs.Verdicts.{verdicts_after, verdicts_at}
use Rattle.pl_engine.specs.Judged.{judged_items}
use Rattle.pl_engine.specs.Tally.{tally_of}
use Rattle.pl_filter.specs.Trees.{tree}
use Rattle.pl_cli.specs.declared.judging.Judging.{Judging}
use Rattle.pl_cli.specs.declared.judging.Ended.{Ended}
use Rattle.pl_cli.specs.declared.judging.Ended.TheVariants as ended
use Rattle.pl_cli.specs.declared.view.View as declared
use Rattle.pl_cli.specs.declared.view.View.TheVariants as view
use Rattle.pl_cli.specs.Output.{Cause, AtEnd, AtRefusal, AtLimit, AtFault, How, Check, Listing}
use Rattle.pl_cli.specs.Output.{Report, View, last_text, limit, lines_after, lines_at}
use Rattle.pl_cli.specs.Output.{listed, status, stop_status, summary, tally_after, text}
use Rattle.pl_cli.specs.Promise.{IsFront}
use Rattle.pl_report.specs.Lines.{stop_text}

-- a view of the code
abbrev pub meant : declared.View → View
meant view.Check = Check
meant (view.List filter) = Listing (tree filter.now)
meant view.Report = Report

-- what is written of the items of these bytes
abbrev pub lines_in : View → Profile → List ℕ → List ℕ
lines_in view profile bytes = lines_after view profile [] (reading bytes).items

-- what the items of these bytes break
abbrev pub verdicts_in : Profile → List ℕ → List Verdict
verdicts_in profile bytes = verdicts_after profile [] (reading bytes).items

-- What a sink tells of itself at a moment.
pub record Tells : Type 0 where
  pub written : Option (List ℕ)
  pub room : Option ℕ

abbrev pub tells : {O : Type 0} → sink.Ghosts O → O → Tells
tells T out = record { written = T.written out; room = T.room out }

-- All whole items of these bytes were judged, and nothing is refused yet.
pub record JudgedTo (view : View) (profile : Profile) (bytes : List ℕ) (judging : Judging)
    (kept : Engine) : Type 0 where
  pub profile_is : kept.profile ≡ profile
  pub reader_stands : reader.StandsFor judging.reader bytes
  pub goes_on : (s : Stop) → (reading bytes).ending ≡ Bad s → ⊥
  pub engine_stands : engine.StandsFor kept (history_after [] (reading bytes).items)
  pub accepted : refusal profile [] (reading bytes).items ≡ None
  pub items : judging.items ≡ length (reading bytes).items
  pub listed : judging.listed ≡ listed view (reading bytes).items
  pub verdicts : judging.verdicts ≡ length (verdicts_in profile bytes)

-- And the lines are written. The sink was in the state `old` before.
pub record SoFar (view : View) (profile : Profile) (bytes : List ℕ) (judging : Judging)
    (kept : Engine) (old new : Tells) : Type 0 where
  pub judged : JudgedTo view profile bytes judging kept
  pub written : new.written ≡ plus old.written (lines_in view profile bytes)
  pub room_left : (k : ℕ) → HasRoom old.room (length (lines_in view profile bytes) + k) →
      HasRoom new.room k

-- The capture is refused within these bytes, and these are the lines before the refusal.
pub record RefusedTo (view : View) (profile : Profile) (bytes : List ℕ) (s : Stop) (kept : Engine)
    (before : List ℕ) : Type 0 where
  pub profile_is : kept.profile ≡ profile
  pub known : stop_status s ≤ 6
  pub same_text : (more : List ℕ) (how : How) → text view profile (reading (bytes ++ more)) how
      ≡ before ++ (summary view (tally_after profile
      (judged_items profile (reading (bytes ++ more)))) ++ stop_text s)
  pub same_status : (more : List ℕ) (how : How) →
      status profile (reading (bytes ++ more)) how ≡ stop_status s
  pub engine_stands : (more : List ℕ) →
      engine.StandsFor kept (history_after [] (judged_items profile (reading (bytes ++ more))))
  pub lines_are : (more : List ℕ) →
      before ≡ lines_after view profile [] (judged_items profile (reading (bytes ++ more)))

-- And these are written.
pub record RefusedIn (view : View) (profile : Profile) (bytes : List ℕ) (s : Stop) (kept : Engine)
    (old new : Tells) : Type 0 where
  pub before : List ℕ
  pub refused : RefusedTo view profile bytes s kept before
  pub written : new.written ≡ plus old.written before
  pub room_left : (k : ℕ) → HasRoom old.room (length before + k) → HasRoom new.room k

-- The sink failed within the lines of one of these items: the engine stands for a front of the
-- items that has this one, and the lines of those before it were written.
pub record LostAtItem (view : View) (profile : Profile) (items : List Entry) (kept : Engine)
    (old new : Option (List ℕ)) : Type 0 where
  pub before : List Entry
  pub item : Entry
  pub since : List Entry
  pub behind : List Entry
  pub items_are : items ≡ before ++ item ∷ (since ++ behind)
  pub none_refused : refusal profile [] (before ++ item ∷ since) ≡ None
  pub engine_stands : engine.StandsFor kept (history_after [] (before ++ item ∷ since))
  pub part : Partly (plus old (lines_after view profile [] before)) new
      (lines_at view profile (history_after [] before) item)

-- The sink failed within the last lines: the engine stands for those of these items that are
-- judged, and their lines were written.
pub record LostAtEnd (view : View) (profile : Profile) (items : List Entry) (kept : Engine)
    (old new : Option (List ℕ)) : Type 0 where
  pub engine_stands : engine.StandsFor kept (history_after [] (accepted profile [] items))
  pub last : List ℕ
  pub part : Partly (plus old (lines_after view profile [] (accepted profile [] items))) new last

-- The sink failed within the lines of these bytes: a part of the text was written, and the room was
-- too small.
pub record CutIn (view : View) (profile : Profile) (bytes : List ℕ) (kept : Engine)
    (old new : Tells) : Type 0 where
  pub at_item : (more : List ℕ) →
      LostAtItem view profile (reading (bytes ++ more)).items kept old.written new.written
  pub part : (more : List ℕ) (how : How) →
      Partly old.written new.written (text view profile (reading (bytes ++ more)) how)
  pub no_room : (more : List ℕ) (how : How) →
      HasRoom old.room (length (text view profile (reading (bytes ++ more)) how)) → ⊥

-- ---- lines that are gathered before they are written

-- These lines came behind those that were held: so many bytes were sent, and the others are held
-- now.
pub record Gathers (held held' lines : List ℕ) (old new : Tells) : Type 0 where
  pub sent : List ℕ
  pub written : new.written ≡ plus old.written sent
  pub in_order : sent ++ held' ≡ held ++ lines
  pub room_left : (k : ℕ) → HasRoom old.room (length (held ++ lines) + k) →
      HasRoom new.room (length held' + k)

-- Or the sink failed within this text, for which it had no room.
pub record Fails (text : List ℕ) (old new : Tells) : Type 0 where
  pub part : Partly old.written new.written text
  pub no_room : HasRoom old.room (length text) → ⊥

abbrev pub AreGathered : {T : Type 0} → Result T Failed → List ℕ → List ℕ → List ℕ →
    Tells → Tells → Type 0
AreGathered (Ok value) held held' lines old new = Gathers held held' lines old new
AreGathered (Err failed) held held' lines old new = Fails (held ++ lines) old new

-- What an item leads to. It is judged, and its lines are gathered.
pub record Accepts (view : View) (past : List Entry) (x : Entry) (judging judging' : Judging)
    (kept kept' : Engine) (held held' : List ℕ) (old new : Tells) : Type 0 where
  pub profile_is : kept'.profile ≡ kept.profile
  pub allowed : blocked kept.profile past x ≡ None
  pub engine_stands : engine.StandsFor kept' (x ∷ past)
  pub items : judging'.items ≡ judging.items + 1
  pub listed : judging'.listed ≡ judging.listed + listed view (x ∷ [])
  pub verdicts : judging'.verdicts ≡
      judging.verdicts + length (verdicts_at kept.profile past x)
  pub gathers : Gathers held held' (lines_at view kept.profile past x) old new

-- Or the engine refuses it.
pub record Blocks (past : List Entry) (x : Entry) (s : Stop) (kept kept' : Engine)
    (held held' : List ℕ) (old new : Tells) : Type 0 where
  pub same_engine : kept' ≡ kept
  pub refused : Refused
  pub is_blocked : blocked kept.profile past x ≡ Some refused
  pub stop_is : s ≡ stop_of refused (number_after past)
  pub same_held : held' ≡ held
  pub same_written : new.written ≡ old.written
  pub same_room : new.room ≡ old.room

-- Or the sink fails within what is held and its lines.
pub record Loses (view : View) (past : List Entry) (x : Entry) (kept kept' : Engine)
    (held : List ℕ) (old new : Tells) : Type 0 where
  pub allowed : blocked kept.profile past x ≡ None
  pub engine_stands : engine.StandsFor kept' (x ∷ past)
  pub fails : Fails (held ++ lines_at view kept.profile past x) old new

abbrev pub ItemJudged : View → List Entry → Entry → Result (Option Stop) Failed →
    Judging → Judging → Engine → Engine → List ℕ → List ℕ → Tells → Tells → Type 0
ItemJudged v past x (Ok None) j j' k k' held held' old new =
    Accepts v past x j j' k k' held held' old new
ItemJudged v past x (Ok (Some s)) j j' k k' held held' old new =
    Blocks past x s k k' held held' old new
ItemJudged v past x (Err failed) j j' k k' held held' old new = Loses v past x k k' held old new

-- All whole items of these bytes were judged, and what isn't written of their lines is held.
pub record Gathering (view : View) (profile : Profile) (bytes : List ℕ) (judging : Judging)
    (kept : Engine) (held : List ℕ) (old new : Tells) : Type 0 where
  pub judged : JudgedTo view profile bytes judging kept
  pub gathers : Gathers [] held (lines_in view profile bytes) old new

-- The capture is refused within these bytes, and what isn't written of the lines before the refusal
-- is held.
pub record RefusedHolding (view : View) (profile : Profile) (bytes : List ℕ) (s : Stop)
    (kept : Engine) (held : List ℕ) (old new : Tells) : Type 0 where
  pub before : List ℕ
  pub refused : RefusedTo view profile bytes s kept before
  pub gathers : Gathers [] held before old new

-- What the items of a piece lead to, with the bytes before it.
abbrev pub PieceGathered : View → Profile → List ℕ → Result (Option Stop) Failed → Judging →
    Engine → List ℕ → Tells → Tells → Type 0
PieceGathered v p bytes (Ok None) j k held old new = Gathering v p bytes j k held old new
PieceGathered v p bytes (Ok (Some s)) j k held old new = RefusedHolding v p bytes s k held old new
PieceGathered v p bytes (Err failed) j k held old new = CutIn v p bytes k old new

-- What a piece leads to, once what is held is written.
abbrev pub PieceJudged : View → Profile → List ℕ → Result (Option Stop) Failed → Judging →
    Engine → Tells → Tells → Type 0
PieceJudged v p bytes (Ok None) j k old new = SoFar v p bytes j k old new
PieceJudged v p bytes (Ok (Some s)) j k old new = RefusedIn v p bytes s k old new
PieceJudged v p bytes (Err failed) j k old new = CutIn v p bytes k old new

-- Why no more of a file is read: these bytes were read of it and judged, and `extra` bytes past the
-- limit were seen.
abbrev pub EndsAs : View → Profile → Ended → List ℕ → List ℕ → Option (List ℕ) → Judging →
    Engine → Tells → Tells → Type 0
EndsAs v p ended.Whole read extra rest j k old new =
    (extra ≡ []) × told.AtEnd rest × SoFar v p read j k old new
EndsAs v p ended.Fault read extra rest j k old new = (extra ≡ []) × SoFar v p read j k old new
EndsAs v p ended.TooLong read extra rest j k old new =
    (length read ≡ limit) × (0 < length extra) × SoFar v p read j k old new
EndsAs v p (ended.Refused s) read extra rest j k old new =
    (extra ≡ []) × RefusedIn v p read s k old new

-- What was read of an open file on the way to this end.
pub record ReadTo (view : View) (profile : Profile) (ended : Ended) (judging : Judging)
    (kept : Engine) (old new : Tells) (rest rest' : Option (List ℕ)) : Type 0 where
  pub read : List ℕ
  pub extra : List ℕ
  pub size : length read ≤ limit
  pub rest_is : rest ≡ ahead (read ++ extra) rest'
  pub ends : EndsAs view profile ended read extra rest' judging kept old new

-- And until the sink failed.
pub record ReadUntilCut (view : View) (profile : Profile) (kept : Engine) (old new : Tells)
    (rest rest' : Option (List ℕ)) : Type 0 where
  pub read : List ℕ
  pub size : length read ≤ limit
  pub rest_is : rest ≡ ahead read rest'
  pub cut : CutIn view profile read kept old new

abbrev pub ReadJudged : View → Profile → Result Ended Failed → Judging → Engine →
    Tells → Tells → Option (List ℕ) → Option (List ℕ) → Type 0
ReadJudged v p (Ok ended) j k old new rest rest' = ReadTo v p ended j k old new rest rest'
ReadJudged v p (Err failed) j k old new rest rest' = ReadUntilCut v p k old new rest rest'

abbrev pub is_fault : Ended → Bool
is_fault ended.Whole = false
is_fault ended.Fault = true
is_fault ended.TooLong = false
is_fault (ended.Refused s) = false

-- What a shelf tells of a file that it was asked for: whether it tells its files, the file, whether
-- it is open, and what is left of it.
pub record Asked : Type 0 where
  pub told : Bool
  pub file : Option (List ℕ)
  pub opened : Bool
  pub rest : Option (List ℕ)

abbrev pub asked : {H : Type 0} → shelf.Ghosts H → List ℕ → H → H → Asked
asked S name old new = record {
  told = S.told old;
  file = S.file old name;
  opened = S.is_open new;
  rest = S.rest new;
}

-- What was read of a file that the shelf may tell, from its opening on.
pub record Taken (view : View) (profile : Profile) (ended : Ended) (judging : Judging)
    (kept : Engine) (old new : Tells) (at : Asked) : Type 0 where
  pub read : List ℕ
  pub extra : List ℕ
  pub size : length read ≤ limit
  pub from_file : at.told ≡ true → at.opened ≡ true → IsFront (read ++ extra) at.file at.rest
  pub nothing : at.opened ≡ false → (read ≡ []) × (is_fault ended ≡ true)
  pub ends : EndsAs view profile ended read extra at.rest judging kept old new

pub record TakenCut (view : View) (profile : Profile) (kept : Engine) (old new : Tells)
    (at : Asked) : Type 0 where
  pub read : List ℕ
  pub size : length read ≤ limit
  pub from_file : at.told ≡ true → IsFront read at.file at.rest
  pub cut : CutIn view profile read kept old new

-- a fault of the shelf is answered only where it was counted, and nothing else is counted
abbrev pub ShelfCause : Ended → ℕ → ℕ → Type 0
ShelfCause ended.Whole before now = now ≡ before
ShelfCause ended.Fault before now = Rose before now
ShelfCause ended.TooLong before now = now ≡ before
ShelfCause (ended.Refused s) before now = now ≡ before

-- Why judging ended, by what the reader says at the end.
abbrev pub cause_of_step : Step → Cause
cause_of_step step.More = AtEnd
cause_of_step (step.Item used) = AtEnd
cause_of_step (step.End used) = AtEnd
cause_of_step (step.Bad s) = AtRefusal s

abbrev pub last_cause : Ended → reader.Standing → Cause
last_cause ended.Whole standing = cause_of_step (reader.finished_step standing.place standing.phase)
last_cause ended.Fault standing = AtFault
last_cause ended.TooLong standing = AtLimit
last_cause (ended.Refused s) standing = AtRefusal s

-- These bytes were read of the file: they and the rest that the shelf tells are the file, and there
-- are none where the file couldn't be opened.
pub record ReadOf (file : List ℕ) (opened : Bool) (rest : Option (List ℕ)) (read : List ℕ)
    : Type 0 where
  pub from_file : opened ≡ true → Some file ≡ ahead read rest
  pub nothing : opened ≡ false → read ≡ []

abbrev pub nothing_judged : Judging
nothing_judged = record { reader = reader.start; items = 0; listed = 0; verdicts = 0 }

abbrev pub CaptureJudged : View → Profile → Result Ended Failed → Judging → Engine →
    Tells → Tells → Asked → Type 0
CaptureJudged v p (Ok ended) j k old new at = Taken v p ended j k old new at
CaptureJudged v p (Err failed) j k old new at = TakenCut v p k old new at

-- this is what an engine counted
pub record IsTallyOf (kept : Engine) (tally : Tally) : Type 0 where
  pub counted : (past : List Entry) → engine.StandsFor kept past →
      tally ≡ tally_of kept.profile past

-- the last lines: what was counted, where that is shown, and the last one
abbrev pub last_lines : View → Tally → Judging → Cause → List ℕ
last_lines view tally j cause =
    summary view tally ++ last_text view j.items j.listed j.verdicts cause

-- what a look behind the most bytes that are judged finds
abbrev pub LooksBehind : Ended → List ℕ → Option (List ℕ) → Type 0
LooksBehind ended.Whole extra rest = (extra ≡ []) × told.AtEnd rest
LooksBehind ended.Fault extra rest = extra ≡ []
LooksBehind ended.TooLong extra rest = 0 < length extra
LooksBehind (ended.Refused s) extra rest = ⊥
