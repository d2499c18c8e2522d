-- What a search answers, by what is found.
use Rattle.std.specs.Prelude.{◌≡◌, ℕ, List, length, take, Result, Ok, Err}
use Rattle.pl_search.specs.declared.error.SearchError.{SearchError}
use Rattle.pl_search.specs.declared.error.SearchError.TheVariants.{Store, Profile, Capture, Memory}
use Rattle.pl_search.specs.declared.hit.Hit.{Hit}
use Rattle.pl_search.specs.declared.found.Search.{Search}

-- the most hits that are shown
abbrev pub most_found : ℕ
most_found = 10000

-- how many there are, and the first of them
abbrev pub search_of : List Hit → Search
search_of hits = record { total = length hits; found = take most_found hits }

-- a failed keeper or want of memory, of which the rows say nothing
abbrev pub IsFree : SearchError → Type 0
IsFree Store = Unit {0}
IsFree (Profile key number) = ⊥
IsFree (Capture key stop) = ⊥
IsFree Memory = Unit {0}

-- this refusal, or one of those in its place
abbrev pub Refuses : SearchError → SearchError → Type 0
Refuses refused Store = Unit {0}
Refuses refused (Profile key number) = Profile key number ≡ refused
Refuses refused (Capture key stop) = Capture key stop ≡ refused
Refuses refused Memory = Unit {0}

-- the search of what is found, or the refusal
abbrev pub Answers : Result (List Hit) SearchError → Result Search SearchError → Type 0
Answers (Ok hits) (Ok search) = search ≡ search_of hits
Answers (Ok hits) (Err error) = IsFree error
Answers (Err refused) (Ok search) = ⊥
Answers (Err refused) (Err error) = Refuses refused error
