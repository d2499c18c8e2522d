-- The verdict on an item, where it breaks a rule.
use Rattle.std.specs.Prelude.{ℕ, Bool, true, false, List, [], ◌∷◌, Option}
use Rattle.pl_base.specs.declared.rule.Rule.{Rule}
use Rattle.pl_base.specs.declared.verdict.Verdict.{Verdict}

-- the verdict on item `at` with the earlier items that show it, where it breaks the rule
abbrev pub verdict_if : Bool → Rule → ℕ → Option ℕ → Option ℕ → List Verdict
verdict_if false rule at first second = []
verdict_if true rule at first second =
    record { rule = rule; at = at; first = first; second = second } ∷ []
