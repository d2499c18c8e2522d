-- The verdict that is asked for.
use Rattle.std.specs.Prelude.{ℕ, ◌-◌, List, [], ◌∷◌, length, slice_get, Option, Some, None}
use Rattle.pl_base.specs.declared.verdict.Verdict.{Verdict}
use Rattle.pl_capture.specs.Entry.{Entry}
use Rattle.pl_profile.specs.declared.profile.Profile.{Profile}
use Rattle.pl_engine.specs.Events.{number_after}
use Rattle.pl_engine.specs.Verdicts.{verdicts_at}
use Rattle.pl_excerpt.specs.declared.case.Case.{Case}
use Rattle.pl_excerpt.specs.CoreItems.{span_start}

-- a verdict on the item behind a history, or what comes later
abbrev pub case_or : Option Verdict → List Entry → Option Case → Option Case
case_or None past later = later
case_or (Some verdict) past later =
    Some (record { verdict = verdict; at = number_after past; start = span_start past })

-- The verdict behind so many others on items in captured order, which come behind a history.
abbrev pub case_after : Profile → ℕ → List Entry → List Entry → Option Case
case_after profile skipped past [] = None
case_after profile skipped past (x ∷ xs) =
    case_or (slice_get (verdicts_at profile past x) skipped) past
    (case_after profile (skipped - length (verdicts_at profile past x)) (x ∷ past) xs)
