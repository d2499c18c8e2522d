-- The answer of an excerpt, by what its readings came to.
use Rattle.std.proofs.Common.{ℕ, List, Option, Ok, Err}
use Rattle.std.proofs.Common.{refl}
use Rattle.pl_base.specs.declared.stop.Stop.{Stop}
use Rattle.pl_base.specs.declared.stop.Stop.TheVariants as stop
use Rattle.pl_profile.specs.declared.profile.Profile.{Profile}
use Rattle.pl_excerpt.specs.declared.case.Case.{Case}
use Rattle.pl_excerpt.specs.declared.outcome.Outcome.{Outcome}
use Rattle.pl_excerpt.specs.declared.outcome.Outcome.TheVariants as outcome
use Rattle.pl_excerpt.specs.Answer.{without_verdict}
use Rattle.pl_excerpt.specs.Promise.{Answered}
use Rattle.pl_excerpt.specs.Replaying.{IsOfCopy, SinkCause}
use Rattle.pl_excerpt.specs.Searching.{IsOfSearch, Searched}
use Rattle.pl_excerpt.specs.declared.source.Ended.{Ended}
use Rattle.pl_excerpt.specs.declared.source.Ended.TheVariants as ended

pub answered_copy : (p : Profile) (number : ℕ) (file : Option (List ℕ)) (case : Case)
    (o : Outcome)
    → IsOfCopy o → Searched p number file (Ok case) → Answered p number file o
answered_copy p number file case outcome.Done of found = λ whole is. (case, found whole is)
answered_copy p number file case outcome.Changed of found = λ whole is. (case, found whole is)
answered_copy p number file case outcome.WriteFault of found = λ whole is. (case, found whole is)
answered_copy p number file case outcome.ReadFault of found = tt
answered_copy p number file case outcome.NoVerdict of found = absurd of
answered_copy p number file case outcome.Length of found = absurd of
answered_copy p number file case (outcome.Stop s) of found = absurd of

answered_stop : (p : Profile) (number : ℕ) (file : Option (List ℕ)) (s : Stop)
    → Searched p number file (Err (outcome.Stop s)) → Answered p number file (outcome.Stop s)
answered_stop p number file stop.Memory h = tt
answered_stop p number file (stop.Malformed fault at) h = h
answered_stop p number file (stop.Unsupported form at) h = h
answered_stop p number file (stop.Outstanding most at) h = h
answered_stop p number file (stop.Unacknowledged most at) h = h

pub answered_search : (p : Profile) (number : ℕ) (file : Option (List ℕ)) (o : Outcome)
    → Searched p number file (Err o) → Answered p number file o
answered_search p number file outcome.NoVerdict h = h
answered_search p number file outcome.Length h = h
answered_search p number file (outcome.Stop s) h = answered_stop p number file s h
answered_search p number file outcome.ReadFault h = tt
answered_search p number file outcome.Done h = absurd h
answered_search p number file outcome.Changed h = absurd h
answered_search p number file outcome.WriteFault h = absurd h

pub sink_search : (n : ℕ) (o : Outcome) → IsOfSearch o → SinkCause o n n
sink_search n outcome.NoVerdict h = refl
sink_search n outcome.Length h = refl
sink_search n (outcome.Stop s) h = refl
sink_search n outcome.ReadFault h = refl
sink_search n outcome.Done h = absurd h
sink_search n outcome.Changed h = absurd h
sink_search n outcome.WriteFault h = absurd h

pub of_search : (e : Ended) → IsOfSearch (without_verdict e)
of_search ended.Whole = tt
of_search (ended.Refused s) = tt
of_search ended.TooLong = tt
of_search ended.Fault = tt
