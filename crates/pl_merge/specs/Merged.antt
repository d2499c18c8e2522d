-- The items of two files as one list.
use Rattle.std.specs.Prelude.{ℕ, Bool, true, false, ◌||◌, nat_lt, nat_le, List, [], ◌∷◌, map}
use Rattle.std.specs.Prelude.{length, Option, Some, None, if◌then◌else◌}
use Rattle.pl_base.specs.declared.link.Dir.{Dir}
use Rattle.pl_base.specs.declared.link.Dir.TheVariants.{Down, Up}
use Rattle.pl_base.specs.Link.{is_same_direction}
use Rattle.pl_capture.specs.Entry.{Entry}
use Rattle.pl_merge.specs.declared.end.End.{End}
use Rattle.pl_merge.specs.declared.end.End.TheVariants as end

-- An item, and its file: Down is the first, whose packets travel down, and Up the second.
pub record Placed : Type 0 where
  pub file : Dir
  pub item : Entry

abbrev pub of : Dir → Entry → Placed
of file x = record { file = file; item = x }

-- An item of the first file goes before those of the second that aren't earlier; `others` merges
-- those behind it.
unfoldable pub insert : Entry → (List Entry → List Placed) → List Entry → List Placed
insert x others [] = of Down x ∷ others []
insert x others (y ∷ ys) =
    if nat_lt y.time x.time then of Up y ∷ insert x others ys
    else of Down x ∷ others (y ∷ ys)

-- The items of both files by their times: at equal times the first file's go first.
unfoldable pub merged : List Entry → List Entry → List Placed
merged [] ys = map (of Up) ys
merged (x ∷ xs) ys = insert x (merged xs) ys

-- whether one of these is of this file
abbrev pub has_of : Dir → List Placed → Bool
has_of file [] = false
has_of file (m ∷ ms) = is_same_direction m.file file || has_of file ms

-- Those up to the last one of a file: none where it has none.
unfoldable pub to_last : Dir → List Placed → List Placed
to_last file [] = []
to_last file (m ∷ ms) = if has_of file (m ∷ ms) then m ∷ to_last file ms else []

-- The file that decides, by how both end: the one that isn't lawful to its end. Where neither is,
-- that whose last lawful item stands earlier among all.
abbrev pub earlier : List Placed → Dir
earlier ms = if nat_le (length (to_last Down ms)) (length (to_last Up ms)) then Down else Up

abbrev pub is_ended : End → Bool
is_ended end.Ended = true
is_ended end.WrongDirection = false
is_ended end.FallenTime = false
is_ended end.Malformed = false
is_ended end.Unsupported = false
is_ended end.TooLong = false

abbrev pub decider : List Placed → End → End → Option Dir
decider ms first second =
    if is_ended first then (if is_ended second then None else Some Up)
    else if is_ended second then Some Down
    else Some (earlier ms)
