-- What an excerpt of a file comes to: the answer, and what is written.
use Rattle.std.specs.Prelude.{ℕ, ◌-◌, ◌^◌, Bool, nat_lt, List, [], length, take, Option}
use Rattle.std.specs.Prelude.{Some, None, if◌then◌else◌}
use Rattle.pl_base.specs.declared.stop.Malformed.TheVariants.{Truncated}
use Rattle.pl_base.specs.declared.stop.Stop.{Stop}
use Rattle.pl_base.specs.declared.stop.Stop.TheVariants.{Malformed}
use Rattle.pl_capture.specs.Entry.{Entry}
use Rattle.pl_capture.specs.Reading as reading
use Rattle.pl_capture.specs.Reading.{Reading, reading, Ending, Bad, Open}
use Rattle.pl_profile.specs.declared.profile.Profile.{Profile}
use Rattle.pl_engine.specs.Judged.{judged_items}
use Rattle.pl_engine.specs.Verdicts.{refusal}
use Rattle.pl_excerpt.specs.declared.case.Case.{Case}
use Rattle.pl_excerpt.specs.declared.outcome.Outcome.{Outcome}
use Rattle.pl_excerpt.specs.declared.outcome.Outcome.TheVariants as outcome
use Rattle.pl_excerpt.specs.declared.source.Ended.{Ended}
use Rattle.pl_excerpt.specs.declared.source.Ended.TheVariants as ended
use Rattle.pl_excerpt.specs.Cases.{case_after}
use Rattle.pl_excerpt.specs.Excerpt.{excerpt_of}

-- the bytes of a capture that are judged at most
abbrev pub limit : ℕ
limit = 2 ^ 40

-- the case with a number, from 1, where there are so many
abbrev pub case_in : Profile → Reading → ℕ → Option Case
case_in profile r number = case_after profile (number - 1) [] (judged_items profile r)

-- the answer where there are fewer, by how the bytes end and whether the file is longer
abbrev pub answer_at : Ending → Bool → Outcome
answer_at (Bad s) longer = outcome.Stop s
answer_at reading.Ended longer = if longer then outcome.Length else outcome.NoVerdict
answer_at (Open place pending) longer =
    if longer then outcome.Length else outcome.Stop (Malformed Truncated place)

-- the engine's refusal of an item goes before what is read behind it
abbrev pub answer_before : Option Stop → Outcome → Outcome
answer_before None later = later
answer_before (Some s) later = outcome.Stop s

abbrev pub answer_without : Profile → Reading → Bool → Outcome
answer_without profile r longer =
    answer_before (refusal profile [] r.items) (answer_at r.ending longer)

abbrev pub answer_for : Option Case → Outcome → Outcome
answer_for None without = without
answer_for (Some case) without = outcome.Done

abbrev pub text_for : Option Case → List Entry → List ℕ
text_for None items = []
text_for (Some case) items = excerpt_of case items

-- for the verdict of this number in a whole file
unfoldable pub answer_of : Profile → List ℕ → ℕ → Outcome
answer_of profile file number =
    let r = reading (take limit file) in
    answer_for (case_in profile r number)
    (answer_without profile r (nat_lt limit (length file)))

unfoldable pub text_of : Profile → List ℕ → ℕ → List ℕ
text_of profile file number =
    let r = reading (take limit file) in
    text_for (case_in profile r number) (judged_items profile r)

-- the answer where a reading ends before the verdict
abbrev pub without_verdict : Ended → Outcome
without_verdict ended.Whole = outcome.NoVerdict
without_verdict (ended.Refused s) = outcome.Stop s
without_verdict ended.TooLong = outcome.Length
without_verdict ended.Fault = outcome.ReadFault

-- the answer where the second one ends before the item of the verdict
abbrev pub without_item : Ended → Outcome
without_item ended.Whole = outcome.Changed
without_item (ended.Refused s) = outcome.Changed
without_item ended.TooLong = outcome.Changed
without_item ended.Fault = outcome.ReadFault
