-- The summary of the items of a capture. Each line ends with LF.
use Rattle.std.specs.Prelude.{ℕ, Bool, List, [], ◌∷◌, ◌++◌, map, slice_index, nat_lt}
use Rattle.std.specs.Prelude.{codes, decimal, bytes_eq, Option}
use Rattle.std.specs.List.{filter, find}
use Rattle.pl_base.specs.Link as dir
use Rattle.pl_base.specs.Rule.{index_of, name_of}
use Rattle.pl_base.specs.declared.link.Dir.TheVariants.{Down, Up}
use Rattle.pl_base.specs.declared.rule.Rule.{Rule}
use Rattle.pl_base.specs.declared.rule.Rule.TheVariants.{L1, L2, L3, S1, S2, S3, S4, S5, F1, F2, F3}
use Rattle.pl_base.specs.declared.rule.Rule.TheVariants.{F4, F5, F6, F7, F8, F9, F10, F11, M1, M2}
use Rattle.pl_base.specs.declared.rule.Rule.TheVariants.{M3, M4, M5, M6, M7, M8, M9, M10, M11, M12}
use Rattle.pl_base.specs.declared.rule.Rule.TheVariants.{M13, M14, M15, M16, M17, M18, M19, M20, C1}
use Rattle.pl_base.specs.declared.rule.Rule.TheVariants.{C2, C3, C4, C5, C6, C7, C8, C9, C10}
use Rattle.pl_base.specs.declared.tally.Tally.{Tally}

-- `W N`
abbrev pub count_text : List ℕ → ℕ → List ℕ
count_text word count = word ++ codes " " ++ decimal count ++ codes "\n"

-- `W down A up B`: a count for each direction
abbrev pub directions_text : List ℕ → List ℕ → List ℕ
directions_text word counts =
    word ++ codes " down " ++ decimal (slice_index counts (dir.index_of Down))
    ++ codes " up " ++ decimal (slice_index counts (dir.index_of Up)) ++ codes "\n"

-- what is counted of the items of a capture
abbrev pub count_lines : Tally → List (List ℕ)
count_lines t =
    count_text (codes "items") t.items
    ∷ directions_text (codes "tlp") t.tlp
    ∷ directions_text (codes "dllp") t.dllp
    ∷ count_text (codes "link down") t.link_down
    ∷ directions_text (codes "taken") t.taken
    ∷ directions_text (codes "repeat") t.repeat
    ∷ directions_text (codes "stray") t.stray
    ∷ directions_text (codes "spoiled") t.spoiled
    ∷ directions_text (codes "nullified") t.nullified
    ∷ count_text (codes "most outstanding") t.most_outstanding
    ∷ directions_text (codes "most unacknowledged") t.most_unacknowledged
    ∷ []

-- every rule, in the order of their indices
unfoldable pub every_rule : List Rule
every_rule =
    L1 ∷ L2 ∷ L3 ∷ S1 ∷ S2 ∷ S3 ∷ S4 ∷ S5 ∷ F1 ∷ F2 ∷ F3 ∷ F4 ∷ F5 ∷ F6 ∷ F7 ∷ F8 ∷ F9 ∷ F10
    ∷ F11 ∷ M1 ∷ M2 ∷ M3 ∷ M4 ∷ M5 ∷ M6 ∷ M7 ∷ M8 ∷ M9 ∷ M10 ∷ M11 ∷ M12 ∷ M13 ∷ M14 ∷ M15
    ∷ M16 ∷ M17 ∷ M18 ∷ M19 ∷ M20 ∷ C1 ∷ C2 ∷ C3 ∷ C4 ∷ C5 ∷ C6 ∷ C7 ∷ C8 ∷ C9 ∷ C10 ∷ []

-- the rule with this printed name
abbrev pub named : List ℕ → Option Rule
named name = find (λ rule. bytes_eq (name_of rule) name) every_rule

abbrev pub verdicts_of : Tally → Rule → ℕ
verdicts_of t rule = slice_index t.rules (index_of rule)

abbrev pub is_broken : Tally → Rule → Bool
is_broken t rule = nat_lt 0 (verdicts_of t rule)

-- `rule R N first I`: a rule, its verdicts, and the first item that breaks it
abbrev pub rule_text : Tally → Rule → List ℕ
rule_text t rule =
    codes "rule " ++ name_of rule ++ codes " " ++ decimal (verdicts_of t rule)
    ++ codes " first " ++ decimal (slice_index t.first_at (index_of rule)) ++ codes "\n"

-- a line for each rule with a verdict
abbrev pub rule_lines : Tally → List (List ℕ)
rule_lines t = map (rule_text t) (filter (is_broken t) every_rule)

-- what a report says of a capture before its last line
unfoldable pub summary_lines : Tally → List (List ℕ)
summary_lines t = count_lines t ++ rule_lines t
