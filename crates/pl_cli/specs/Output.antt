-- What the program writes about the bytes of a capture, and the status that it answers.
use Rattle.std.specs.Prelude.{ℕ, ◌^◌, ◌==◌, nat_lt, Bool, false, List, [], ◌∷◌, ◌++◌, length, take}
use Rattle.std.specs.Prelude.{count_by, Option, Some, None, if◌then◌else◌}
use Rattle.std.specs.List.{concat, flat_map}
use Rattle.pl_base.specs.declared.stop.Malformed.TheVariants.{Truncated}
use Rattle.pl_base.specs.declared.stop.Stop.{Stop}
use Rattle.pl_base.specs.declared.stop.Stop.TheVariants.{Malformed, Unsupported, Outstanding}
use Rattle.pl_base.specs.declared.stop.Stop.TheVariants.{Unacknowledged, Memory}
use Rattle.pl_base.specs.declared.tally.Tally.{Tally}
use Rattle.pl_base.specs.declared.verdict.Verdict.{Verdict}
use Rattle.pl_capture.specs.Entry.{Entry}
use Rattle.pl_capture.specs.Reading.{Reading, reading, Ending, Ended, Bad, Open}
use Rattle.pl_profile.specs.declared.profile.Profile.{Profile}
use Rattle.pl_engine.specs.Events.{number_after}
use Rattle.pl_engine.specs.Judged.{judged_items, judged_verdicts}
use Rattle.pl_engine.specs.Tally.{tally_of}
use Rattle.pl_engine.specs.Verdicts.{history_after, refusal, verdicts_after, verdicts_at}
use Rattle.pl_filter.specs.Meaning.{holds}
use Rattle.pl_filter.specs.Trees.{Tree}
use Rattle.pl_cli.specs.declared.status.TheConstants.{BROKEN, CLEAN, LIMIT, MALFORMED, NO_MEMORY}
use Rattle.pl_cli.specs.declared.status.TheConstants.{READ_FAULT, UNSUPPORTED}
use Rattle.pl_report.specs.Lines.{closing_text, item_text, length_text, list_closing_text}
use Rattle.pl_report.specs.Lines.{read_fault_text, stop_text, verdict_text}
use Rattle.pl_report.specs.Summary.{summary_lines}

-- What a command shows of a capture.
pub data View : Type 0 where
  -- the verdicts
  Check : View
  -- the items for which a filter holds, each with its verdicts
  Listing : Tree → View
  -- what is counted
  Report : View

-- How bytes that were read go on: the file ends there, it is longer than what is judged, or a read
-- failed.
pub data How : Type 0 where
  Whole : How
  TooLong : How
  Fault : How

-- Why judging ended.
pub data Cause : Type 0 where
  -- with the right end record
  AtEnd : Cause
  -- at a refusal
  AtRefusal : Stop → Cause
  -- at the most bytes that are judged
  AtLimit : Cause
  -- at a read that failed
  AtFault : Cause

-- A refusal of the reader goes before all that may follow.
abbrev pub cause_of_ending : Ending → How → Cause
cause_of_ending (Bad s) how = AtRefusal s
cause_of_ending Ended Whole = AtEnd
cause_of_ending Ended TooLong = AtLimit
cause_of_ending Ended Fault = AtFault
cause_of_ending (Open place pending) Whole = AtRefusal (Malformed Truncated place)
cause_of_ending (Open place pending) TooLong = AtLimit
cause_of_ending (Open place pending) Fault = AtFault

-- The engine's refusal of an item goes before what is read behind it.
abbrev pub cause_of : Option Stop → Ending → How → Cause
cause_of None ending how = cause_of_ending ending how
cause_of (Some s) ending how = AtRefusal s

-- why judging ends, of a reading that goes on so
abbrev pub cause : Profile → Reading → How → Cause
cause profile r how = cause_of (refusal profile [] r.items) r.ending how

-- ---- the lines of the items

abbrev pub lines : List Verdict → List ℕ
lines verdicts = flat_map verdict_text verdicts

-- what is written of an item with this number, which breaks these
abbrev pub item_lines : View → ℕ → Entry → List Verdict → List ℕ
item_lines Check number x verdicts = lines verdicts
item_lines (Listing filter) number x verdicts =
    if holds filter x then item_text number x ++ lines verdicts else []
item_lines Report number x verdicts = []

-- after a history
abbrev pub lines_at : View → Profile → List Entry → Entry → List ℕ
lines_at view profile past x = item_lines view (number_after past) x (verdicts_at profile past x)

-- and of items in captured order
abbrev pub lines_after : View → Profile → List Entry → List Entry → List ℕ
lines_after view profile past [] = []
lines_after view profile past (x ∷ xs) =
    lines_at view profile past x ++ lines_after view profile (x ∷ past) xs

-- how many items are listed
abbrev pub is_listed : View → Entry → Bool
is_listed Check x = false
is_listed (Listing filter) x = holds filter x
is_listed Report x = false

abbrev pub listed : View → List Entry → ℕ
listed view xs = count_by (is_listed view) xs

-- ---- the last lines

-- what stands before the last line: of a report what is counted of the items
abbrev pub summary : View → Tally → List ℕ
summary Check tally = []
summary (Listing filter) tally = []
summary Report tally = concat (summary_lines tally)

abbrev pub closing : View → ℕ → ℕ → ℕ → List ℕ
closing Check items shown verdicts = closing_text items verdicts
closing (Listing filter) items shown verdicts = list_closing_text items shown verdicts
closing Report items shown verdicts = closing_text items verdicts

-- the last line
abbrev pub last_text : View → ℕ → ℕ → ℕ → Cause → List ℕ
last_text view items shown verdicts AtEnd = closing view items shown verdicts
last_text view items shown verdicts (AtRefusal s) = stop_text s
last_text view items shown verdicts AtLimit = length_text
last_text view items shown verdicts AtFault = read_fault_text

-- what is counted of items in captured order
unfoldable pub tally_after : Profile → List Entry → Tally
tally_after profile xs = tally_of profile (history_after [] xs)

-- what is written of these items, where judging them ends so
abbrev pub text_of : View → Profile → List Entry → Cause → List ℕ
text_of view profile xs ended =
    lines_after view profile [] xs
    ++ (summary view (tally_after profile xs)
    ++ last_text view (length xs) (listed view xs) (length (verdicts_after profile [] xs)) ended)

abbrev pub stop_status : Stop → ℕ
stop_status (Malformed fault item) = MALFORMED
stop_status (Unsupported form item) = UNSUPPORTED
stop_status (Outstanding limit item) = LIMIT
stop_status (Unacknowledged limit item) = LIMIT
stop_status Memory = NO_MEMORY

-- the status is the same under every view
abbrev pub cause_status : ℕ → Cause → ℕ
cause_status verdicts AtEnd = if verdicts == 0 then CLEAN else BROKEN
cause_status verdicts (AtRefusal s) = stop_status s
cause_status verdicts AtLimit = LIMIT
cause_status verdicts AtFault = READ_FAULT

-- what is written for a reading that goes on so, and what is answered
unfoldable pub text : View → Profile → Reading → How → List ℕ
text view profile r how = text_of view profile (judged_items profile r) (cause profile r how)

unfoldable pub status : Profile → Reading → How → ℕ
status profile r how = cause_status (length (judged_verdicts profile r)) (cause profile r how)

-- so many bytes of a capture are judged
abbrev pub limit : ℕ
limit = 2 ^ 40

abbrev pub how_of : List ℕ → How
how_of file = if nat_lt limit (length file) then TooLong else Whole

-- what is written for a whole file, and what is answered
abbrev pub output : View → Profile → List ℕ → List ℕ
output view profile file = text view profile (reading (take limit file)) (how_of file)

abbrev pub status_of : Profile → List ℕ → ℕ
status_of profile file = status profile (reading (take limit file)) (how_of file)

-- what is written for bytes before a read that failed
abbrev pub cut : View → Profile → List ℕ → List ℕ
cut view profile bytes = text view profile (reading bytes) Fault
