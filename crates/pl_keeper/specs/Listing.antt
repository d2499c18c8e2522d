-- What a keeper's look-ups hand out.
use Rattle.std.specs.Prelude.{ℕ, List, map, length, IsPermutation}
use Rattle.std.specs.List.Sorted.{IsSortedByKey}
use Rattle.std.specs.Ordering.{nat_cmp}
use Rattle.std.specs.Cmp.Lexicographic.{slice_cmp}
use Rattle.pl_keeper.specs.Archive.{Capture}

-- a capture that was found: the name of its profile, and its bytes
pub record Found : Type 0 where
  pub profile : List ℕ
  pub bytes : List ℕ

abbrev pub found_of : Capture → Found
found_of c = record { profile = c.profile; bytes = c.bytes }

-- a line of the list: the key, the name of the profile, and how many bytes
pub record Line : Type 0 where
  pub key : List ℕ
  pub profile : List ℕ
  pub length : ℕ

abbrev pub line_of : Capture → Line
line_of c = record { key = c.key; profile = c.profile; length = length c.bytes }

-- one line for each of the captures
abbrev pub Lists : List Capture → List Line → Type 0
Lists captures lines = IsPermutation (map line_of captures) lines

-- no key stands before a lesser one, byte by byte
abbrev pub Ascends : List Line → Type 0
Ascends = IsSortedByKey (λ line. line.key) (slice_cmp nat_cmp)
