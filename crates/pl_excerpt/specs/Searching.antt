-- The first reading on its way: the verdicts that it passed over, and what it comes to.
use Rattle.std.specs.Prelude.{◌≡◌, ℕ, ◌-◌, List, [], ◌∷◌, ◌++◌, length, take, nat_lt}
use Rattle.std.specs.Prelude.{Option, Some, None, Result, Ok, Err}
use Rattle.pl_base.specs.declared.stop.Stop.{Stop}
use Rattle.pl_capture.specs.Entry.{Entry}
use Rattle.pl_capture.specs.Reading.{reading}
use Rattle.pl_profile.specs.declared.profile.Profile.{Profile}
use Rattle.pl_engine.specs.declared.engine.Engine.{Engine}
use Rattle.pl_engine.specs.Engine.{StandsFor}
use Rattle.pl_engine.specs.declared.refused.Refused.{Refused}
use Rattle.pl_engine.specs.Events.{number_after}
use Rattle.pl_engine.specs.Verdicts.{blocked, history_after, refusal, stop_of}
use Rattle.pl_excerpt.specs.declared.case.Case.{Case}
use Rattle.pl_excerpt.specs.declared.finding.Search.{Search}
use Rattle.pl_excerpt.specs.declared.outcome.Outcome.{Outcome}
use Rattle.pl_excerpt.specs.declared.outcome.Outcome.TheVariants as outcome
use Rattle.pl_excerpt.specs.declared.source.Ended.{Ended}
use Rattle.pl_excerpt.specs.declared.source.Ended.TheVariants as ended
use Rattle.pl_excerpt.specs.Answer.{answer_without, case_in, limit}
use Rattle.pl_excerpt.specs.Cases.{case_after}
use Rattle.pl_excerpt.specs.CoreItems.{span_start}

-- These items were judged, none is refused, and the verdict isn't among theirs.
pub record SearchedTo (profile : Profile) (number : ℕ) (items : List Entry) (search : Search)
    (kept : Engine) : Type 0 where
  pub profile_is : kept.profile ≡ profile
  pub engine_stands : StandsFor kept (history_after [] items)
  pub accepted : refusal profile [] items ≡ None
  pub items_are : search.items ≡ length items
  pub start_is : search.start ≡ span_start (history_after [] items)
  pub left_is : (more : List Entry) → case_after profile (number - 1) [] (items ++ more)
      ≡ case_after profile search.left (history_after [] items) more

-- It is among those of the last of these items.
pub record Finds (profile : Profile) (number : ℕ) (items : List Entry) (case : Case)
    : Type 0 where
  pub accepted : refusal profile [] items ≡ None
  pub case_is : (more : List Entry) →
      case_after profile (number - 1) [] (items ++ more) ≡ Some case

-- Or the engine refuses the item behind these.
pub record Blocks (profile : Profile) (number : ℕ) (items : List Entry) (x : Entry) (s : Stop)
    : Type 0 where
  pub accepted : refusal profile [] items ≡ None
  pub refused : Refused
  pub is_blocked : blocked profile (history_after [] items) x ≡ Some refused
  pub stop_is : s ≡ stop_of refused (number_after (history_after [] items))
  pub none : case_after profile (number - 1) [] items ≡ None

-- What judging one more item comes to.
abbrev pub SearchJudged : Profile → ℕ → List Entry → Entry → Result (Option Case) Stop → Search →
    Engine → Type 0
SearchJudged p number items x (Ok None) search kept = SearchedTo p number (items ++ x ∷ []) search kept
SearchJudged p number items x (Ok (Some case)) search kept = Finds p number (items ++ x ∷ []) case
SearchJudged p number items x (Err s) search kept = Blocks p number items x s

-- The file has fewer verdicts, and this is the answer.
pub record LacksCase (profile : Profile) (number : ℕ) (file : List ℕ) (answer : Outcome)
    : Type 0 where
  pub none : case_in profile (reading (take limit file)) number ≡ None
  pub answer_is :
      answer_without profile (reading (take limit file)) (nat_lt limit (length file)) ≡ answer

-- What the search for the verdict with a number in a file comes to, where that is told.
abbrev pub Searched : Profile → ℕ → Option (List ℕ) → Result Case Outcome → Type 0
Searched p number file (Ok case) =
    (whole : List ℕ) → file ≡ Some whole →
    case_in p (reading (take limit whole)) number ≡ Some case
Searched p number file (Err outcome.ReadFault) = Unit {0}
Searched p number file (Err outcome.NoVerdict) =
    (whole : List ℕ) → file ≡ Some whole → LacksCase p number whole outcome.NoVerdict
Searched p number file (Err outcome.Length) =
    (whole : List ℕ) → file ≡ Some whole → LacksCase p number whole outcome.Length
Searched p number file (Err (outcome.Stop s)) =
    (whole : List ℕ) → file ≡ Some whole → LacksCase p number whole (outcome.Stop s)
Searched p number file (Err outcome.Done) = ⊥
Searched p number file (Err outcome.Changed) = ⊥
Searched p number file (Err outcome.WriteFault) = ⊥

-- the fault of the shelf that is answered
abbrev pub fault_of : Outcome → Option Ended
fault_of outcome.ReadFault = Some ended.Fault
fault_of outcome.NoVerdict = None
fault_of outcome.Length = None
fault_of (outcome.Stop s) = None
fault_of outcome.Done = None
fault_of outcome.Changed = None
fault_of outcome.WriteFault = None

abbrev pub fault_in : {T : Type 0} → Result T Outcome → Option Ended
fault_in (Ok value) = None
fault_in (Err answer) = fault_of answer

-- a search finds the verdict, or answers so
abbrev pub IsOfSearch : Outcome → Type 0
IsOfSearch outcome.NoVerdict = Unit {0}
IsOfSearch outcome.Length = Unit {0}
IsOfSearch (outcome.Stop s) = Unit {0}
IsOfSearch outcome.ReadFault = Unit {0}
IsOfSearch outcome.Done = ⊥
IsOfSearch outcome.Changed = ⊥
IsOfSearch outcome.WriteFault = ⊥
