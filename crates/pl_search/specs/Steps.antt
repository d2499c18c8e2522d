-- What each step of a search leads to.
use Rattle.std.specs.Prelude.{◌≡◌, ℕ, ◌+◌, ◌-◌, List, ◌++◌, length, take, map, Result, Ok, Err}
use Rattle.pl_engine.specs.declared.judged.Judged.{Judged}
use Rattle.pl_search.specs.Answers.{IsFree, Refuses, most_found, search_of}
use Rattle.pl_search.specs.Hits.{hit_of}
use Rattle.pl_search.specs.declared.error.SearchError.{SearchError}
use Rattle.pl_search.specs.declared.hit.Hit.{Hit}
use Rattle.pl_search.specs.declared.found.Search.{Search}

-- The verdicts of a judged capture are these hits: how many there are, and the first of them.
pub record AreHits (hits : List Hit) (key : List ℕ) (most : ℕ) (judged : Judged) : Type 0 where
  pub total : judged.total ≡ length hits
  pub found : map (hit_of key) judged.verdicts.items ≡ take most hits

-- the judging of a capture came to what is found of it
abbrev pub Judges : Result (List Hit) SearchError → List ℕ → ℕ → Result Judged SearchError → Type 0
Judges (Ok hits) key most (Ok judged) = AreHits hits key most judged
Judges (Ok hits) key most (Err error) = IsFree error
Judges (Err refused) key most (Ok judged) = ⊥
Judges (Err refused) key most (Err error) = Refuses refused error

-- these hits are behind those that were there
pub record Grew (hits : List Hit) (old new : Search) : Type 0 where
  pub total : new.total ≡ old.total + length hits
  pub found : new.found ≡ old.found ++ take (most_found - length old.found) hits

-- what is found of one capture was added, or is the refusal
abbrev pub Adds : Result (List Hit) SearchError → (old new : Search) → Result (Unit {0}) SearchError
    → Type 0
Adds (Ok hits) old new (Ok done) = Grew hits old new
Adds (Ok hits) old new (Err error) = IsFree error
Adds (Err refused) old new (Ok done) = ⊥
Adds (Err refused) old new (Err error) = Refuses refused error

-- what is found so far is in the search
abbrev pub Holds : Result (List Hit) SearchError → Search → Type 0
Holds (Ok hits) search = search ≡ search_of hits
Holds (Err refused) search = ⊥
