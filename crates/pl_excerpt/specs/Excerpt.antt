-- The bytes of an excerpt.
use Rattle.std.specs.Prelude.{ℕ, Bool, true, false, List, [], ◌∷◌, ◌++◌, length, take}
use Rattle.std.specs.Prelude.{if◌then◌else◌}
use Rattle.std.specs.List.{flat_map}
use Rattle.pl_base.specs.declared.link.Dir.TheVariants.{Down}
use Rattle.pl_capture.specs.declared.item.ItemKind.TheVariants.{Gap}
use Rattle.pl_capture.specs.Entry.{Entry}
use Rattle.pl_capture.specs.Record.{end_of, header_of, record_of}
use Rattle.pl_excerpt.specs.declared.case.Case.{Case}
use Rattle.pl_excerpt.specs.Selected.{is_selected}

-- a gap of a time
abbrev pub gap_at : ℕ → Entry
gap_at time = record { kind = Gap; dir = Down; bad_end = false; time = time; body = [] }

-- An item with a gap before it, unless it is the first of the capture or the one before it is
-- selected too.
abbrev pub with_gap : Bool → Entry → List Entry
with_gap follows x = if follows then x ∷ [] else gap_at x.time ∷ x ∷ []

-- what stands in the excerpt for an item
abbrev pub copied : Case → Bool → List Entry → Entry → List Entry
copied case follows past x = if is_selected case past x then with_gap follows x else []

-- and for items in captured order behind a history
abbrev pub copied_after : Case → Bool → List Entry → List Entry → List Entry
copied_after case follows past [] = []
copied_after case follows past (x ∷ xs) =
    copied case follows past x ++ copied_after case (is_selected case past x) (x ∷ past) xs

-- the records of items
abbrev pub records_of : List Entry → List ℕ
records_of items = flat_map record_of items

-- a capture of version 2 with these items
abbrev pub capture_of : List Entry → List ℕ
capture_of items = header_of 2 0 ++ (records_of items ++ end_of (length items) 0)

-- The excerpt of a case: what is selected of the items up to that of its verdict.
unfoldable pub excerpt_of : Case → List Entry → List ℕ
excerpt_of case items = capture_of (copied_after case true [] (take case.at items))
