-- What a path asks for, by its segments.
use Rattle.std.specs.Prelude.{ℕ, List, [], ◌∷◌, codes, Bool, true, false, ◌&&◌, ◌==◌}
use Rattle.std.specs.Prelude.{bytes_eq, if◌then◌else◌, Option, Some, None}
use Rattle.pl_web.specs.declared.routes.Kind.{Kind}
use Rattle.pl_web.specs.declared.routes.Kind.TheVariants.{PutProfile, PutCapture, ListCaptures}
use Rattle.pl_web.specs.declared.routes.Kind.TheVariants.{GetCapture, GetVerdicts, GetHits}

-- the code of `/`
abbrev pub slash : ℕ
slash = 47

-- one byte more at the front of the first segment
abbrev pub onto_first : ℕ → List (List ℕ) → List (List ℕ)
onto_first c [] = (c ∷ []) ∷ []
onto_first c (segment ∷ segments) = (c ∷ segment) ∷ segments

-- what stands before, between and behind the slashes
abbrev pub segments_of : List ℕ → List (List ℕ)
segments_of [] = [] ∷ []
segments_of (c ∷ path) =
    if c == slash then [] ∷ segments_of path else onto_first c (segments_of path)

-- of what follows a slash, where there is one
abbrev pub segments_behind : Option (List ℕ) → List (List ℕ)
segments_behind None = []
segments_behind (Some text) = segments_of text

-- a segment that stands for a name has a byte at least
abbrev pub is_filled : List ℕ → Bool
is_filled [] = false
is_filled (c ∷ segment) = true

-- behind the key of a capture: nothing, or `verdicts`
abbrev pub kind_of_key : List (List ℕ) → Option Kind
kind_of_key [] = Some GetCapture
kind_of_key (word ∷ []) = if bytes_eq word (codes "verdicts") then Some GetVerdicts else None
kind_of_key (word ∷ next ∷ segments) = None

-- behind `captures`: nothing, or a key
abbrev pub kind_of_captures : List (List ℕ) → Option Kind
kind_of_captures [] = Some ListCaptures
kind_of_captures (key ∷ segments) = if is_filled key then kind_of_key segments else None

-- behind the name of a profile: nothing, or `captures` and a key
abbrev pub kind_of_profile : List (List ℕ) → Option Kind
kind_of_profile [] = Some PutProfile
kind_of_profile (word ∷ []) = None
kind_of_profile (word ∷ key ∷ []) =
    if bytes_eq word (codes "captures") && is_filled key then Some PutCapture else None
kind_of_profile (word ∷ key ∷ next ∷ segments) = None

-- behind `profiles`: a name
abbrev pub kind_of_profiles : List (List ℕ) → Option Kind
kind_of_profiles [] = None
kind_of_profiles (profile ∷ segments) =
    if is_filled profile then kind_of_profile segments else None

-- behind `rules`: a rule
abbrev pub kind_of_rules : List (List ℕ) → Option Kind
kind_of_rules [] = None
kind_of_rules (rule ∷ []) = if is_filled rule then Some GetHits else None
kind_of_rules (rule ∷ next ∷ segments) = None

-- behind the name of a bench: `captures`, `profiles` or `rules`
abbrev pub kind_of_bench : List (List ℕ) → Option Kind
kind_of_bench [] = None
kind_of_bench (word ∷ segments) =
    if bytes_eq word (codes "captures") then kind_of_captures segments
    else (if bytes_eq word (codes "profiles") then kind_of_profiles segments
    else (if bytes_eq word (codes "rules") then kind_of_rules segments else None))

-- a slash in front, then `benches` and a name
abbrev pub kind_of : List (List ℕ) → Option Kind
kind_of (front ∷ word ∷ bench ∷ segments) =
    if bytes_eq front [] && bytes_eq word (codes "benches") && is_filled bench
    then kind_of_bench segments else None
kind_of other = None
