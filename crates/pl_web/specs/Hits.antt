-- What a request for the hits of a rule is answered. It leaves the archive as it is.
use Rattle.std.specs.Prelude.{ℕ, List, codes, Result, Ok, Err}
use Rattle.pl_base.specs.Rule.{name_of}
use Rattle.pl_base.specs.declared.rule.Rule.{Rule}
use Rattle.pl_head.specs.declared.status.Status.TheVariants.{Success, UnprocessableEntity}
use Rattle.pl_head.specs.declared.status.Status.TheVariants.{InternalServerError}
use Rattle.pl_head.specs.declared.status.Status.TheVariants.{ServiceUnavailable}
use Rattle.pl_keeper.specs.Archive.{Archive}
use Rattle.pl_search.specs.Answers.{search_of}
use Rattle.pl_search.specs.Hits.{hits_of}
use Rattle.pl_search.specs.declared.error.SearchError.{SearchError}
use Rattle.pl_search.specs.declared.error.SearchError.TheVariants.{Store, Profile, Capture, Memory}
use Rattle.pl_search.specs.declared.found.Search.{Search}
use Rattle.pl_search.specs.declared.hit.Hit.{Hit}
use Rattle.pl_web.specs.Answer.{Answer, Outcome, json, leaves}
use Rattle.pl_web.specs.Bodies.{error_body, number_body, hits_body}
use Rattle.pl_web.specs.Judging.{stop_answer}

-- how many hits there are, and the first of them
abbrev pub found_answer : (bench : List ℕ) → Rule → Search → Answer
found_answer bench rule search =
    json Success (hits_body bench (name_of rule) search.total search.found)

-- to the first capture that can't be judged to its end; no rows end a search for want of memory, or
-- for a keeper that failed
abbrev pub refused_answer : SearchError → Answer
refused_answer Store = json ServiceUnavailable (error_body (codes "store"))
refused_answer (Profile key number) =
    json UnprocessableEntity (number_body (codes "profile") number)
refused_answer (Capture key stop) = stop_answer stop
refused_answer Memory = json InternalServerError (error_body (codes "memory"))

abbrev pub hits_answer : (bench : List ℕ) → Rule → Result (List Hit) SearchError → Answer
hits_answer bench rule (Ok hits) = found_answer bench rule (search_of hits)
hits_answer bench rule (Err error) = refused_answer error

abbrev pub hits_shown : Archive → (bench : List ℕ) → Rule → Outcome
hits_shown a bench rule = leaves a (hits_answer bench rule (hits_of a bench rule))
