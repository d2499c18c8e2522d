-- The bodies of replies in JSON (RFC 8259). The members of an object ascend by key.
use Rattle.std.specs.Prelude.{ℕ, List, [], ◌∷◌, ◌++◌, codes, decimal}
use Rattle.std.specs.List.{flat_map}
use Rattle.json.specs.Print.{quoted}
use Rattle.pl_base.specs.declared.verdict.Verdict.{Verdict}
use Rattle.pl_keeper.specs.Listing.{Line}
use Rattle.pl_report.specs.Json.{objects}
use Rattle.pl_search.specs.declared.hit.Hit.{Hit}

-- what is wrong
unfoldable pub error_body : List ℕ → List ℕ
error_body name = codes "{\"error\":" ++ quoted name ++ codes "}"

-- and the limit that doesn't hold
unfoldable pub limit_body : List ℕ → ℕ → List ℕ
limit_body name limit =
    codes "{\"error\":" ++ quoted name ++ codes ",\"limit\":" ++ decimal limit ++ codes "}"

-- and the number of what is wrong
unfoldable pub number_body : List ℕ → ℕ → List ℕ
number_body name number =
    codes "{\"error\":" ++ quoted name ++ codes ",\"number\":" ++ decimal number ++ codes "}"

-- and how many bytes there are, where the first stands that differs, and how many were sent
unfoldable pub difference_body : ℕ → ℕ → ℕ → List ℕ
difference_body length place sent =
    codes "{\"error\":\"other bytes\",\"length\":" ++ decimal length
    ++ codes ",\"place\":" ++ decimal place ++ codes ",\"sent\":" ++ decimal sent ++ codes "}"

-- a profile that is there
unfoldable pub profile_body : List ℕ → List ℕ → List ℕ
profile_body bench profile =
    codes "{\"bench\":" ++ quoted bench ++ codes ",\"profile\":" ++ quoted profile ++ codes "}"

-- what is wrong with an item of a capture, by its number
unfoldable pub item_body : List ℕ → ℕ → ℕ → List ℕ
item_body name item number =
    codes "{\"error\":" ++ quoted name ++ codes ",\"item\":" ++ decimal item
    ++ codes ",\"number\":" ++ decimal number ++ codes "}"

-- the item at which a capture passes a limit
unfoldable pub item_limit_body : List ℕ → ℕ → ℕ → List ℕ
item_limit_body name item limit =
    codes "{\"error\":" ++ quoted name ++ codes ",\"item\":" ++ decimal item
    ++ codes ",\"limit\":" ++ decimal limit ++ codes "}"

-- a capture that is there: how many items and verdicts it has
unfoldable pub capture_body : (bench key profile : List ℕ) (items verdicts : ℕ) → List ℕ
capture_body bench key profile items verdicts =
    codes "{\"bench\":" ++ quoted bench ++ codes ",\"items\":" ++ decimal items
    ++ codes ",\"key\":" ++ quoted key ++ codes ",\"profile\":" ++ quoted profile
    ++ codes ",\"verdicts\":" ++ decimal verdicts ++ codes "}"

-- how many items and verdicts a capture has, and the first of the verdicts
unfoldable pub verdicts_body :
    (bench key : List ℕ) (items total : ℕ) (verdicts : List Verdict) → List ℕ
verdicts_body bench key items total verdicts =
    codes "{\"bench\":" ++ quoted bench ++ codes ",\"items\":" ++ decimal items
    ++ codes ",\"key\":" ++ quoted key ++ codes ",\"total\":" ++ decimal total
    ++ codes ",\"verdicts\":[" ++ objects verdicts ++ codes "]}"

-- a capture in the list of a bench
unfoldable pub line_object : Line → List ℕ
line_object line =
    codes "{\"key\":" ++ quoted line.key ++ codes ",\"length\":" ++ decimal line.length
    ++ codes ",\"profile\":" ++ quoted line.profile ++ codes "}"

-- a line behind another one
abbrev pub next_line : Line → List ℕ
next_line line = codes "," ++ line_object line

abbrev pub line_objects : List Line → List ℕ
line_objects [] = []
line_objects (line ∷ lines) = line_object line ++ flat_map next_line lines

-- the captures of a bench
unfoldable pub list_body : List ℕ → List Line → List ℕ
list_body bench lines =
    codes "{\"bench\":" ++ quoted bench ++ codes ",\"captures\":[" ++ line_objects lines
    ++ codes "]}"

-- a hit: which item of which capture
unfoldable pub hit_object : Hit → List ℕ
hit_object hit = codes "{\"at\":" ++ decimal hit.at ++ codes ",\"key\":" ++ quoted hit.key ++ codes "}"

-- a hit behind another one
abbrev pub next_hit : Hit → List ℕ
next_hit hit = codes "," ++ hit_object hit

abbrev pub hit_objects : List Hit → List ℕ
hit_objects [] = []
hit_objects (hit ∷ hits) = hit_object hit ++ flat_map next_hit hits

-- how often the captures of a bench break a rule, and the first of the hits
unfoldable pub hits_body : (bench rule : List ℕ) (total : ℕ) (hits : List Hit) → List ℕ
hits_body bench rule total hits =
    codes "{\"bench\":" ++ quoted bench ++ codes ",\"found\":[" ++ hit_objects hits
    ++ codes "],\"rule\":" ++ quoted rule ++ codes ",\"total\":" ++ decimal total ++ codes "}"
