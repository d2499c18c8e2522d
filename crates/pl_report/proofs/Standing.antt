-- Which line of the summary stands where.
use Rattle.std.proofs.Common.{◌≡◌, ◌∙◌, ℕ, zero, suc, ◌-◌, ◌≤◌, true, false, List, [], ◌∷◌, ◌++◌}
use Rattle.std.proofs.Common.{length, Option, Some, None, ap, arith, refl}
use Rattle.std.proofs.lemmas.Option.{slice_get-map, slice_get_within}
use Rattle.std.specs.List.{filter, slice_get}
use Rattle.std.specs.Option.{IsNone, is_some, option_map}
use Rattle.pl_base.specs.Rule.{index_of}
use Rattle.pl_base.specs.declared.rule.Rule.{Rule}
use Rattle.pl_base.specs.declared.rule.Rule.TheVariants.{L1}
use Rattle.pl_base.specs.declared.tally.Tally.{Tally}
use Rattle.pl_report.specs.Summary.{count_lines, every_rule, is_broken, rule_lines, rule_text}
use Rattle.pl_report.specs.Summary.{summary_lines}

in_front : (xs ys : List (List ℕ)) (k : ℕ) (line : List ℕ) →
    slice_get xs k ≡ Some line → slice_get (xs ++ ys) k ≡ Some line
in_front [] ys k line h = cc
in_front (x ∷ xs) ys zero line h = h
in_front (x ∷ xs) ys (suc k) line h = in_front xs ys k line h

behind : (xs ys : List (List ℕ)) (k : ℕ) →
    length xs ≤ k → slice_get (xs ++ ys) k ≡ slice_get ys (k - length xs)
behind [] ys k h = let e : k ≡ k - 0 = omega arith in ap (slice_get ys) e
behind (x ∷ xs) ys zero h = absurd (omega arith)
behind (x ∷ xs) ys (suc k) h =
    let e : k - length xs ≡ suc k - length (x ∷ xs) = omega arith in
    behind xs ys k (omega arith) ∙ ap (slice_get ys) e

-- a line before those of the rules
pub summary-count : (t : Tally) (k : ℕ) (line : List ℕ) →
    slice_get (count_lines t) k ≡ Some line → slice_get (summary_lines t) k ≡ Some line
unfolding summary_lines
summary-count t k line h = in_front (count_lines t) (rule_lines t) k line h

-- a line of a rule, or none
pub summary-rule : (t : Tally) (k : ℕ) (found : Option Rule) → 11 ≤ k →
    found ≡ slice_get (filter (is_broken t) every_rule) (k - 11) →
    slice_get (summary_lines t) k ≡ option_map (rule_text t) found
unfolding summary_lines
summary-rule t k found h e =
    behind (count_lines t) (rule_lines t) k h
    ∙ rw e (slice_get-map (rule_text t) (filter (is_broken t) every_rule) (k - 11))

-- Each rule stands at its index, so none is left out.
pub every_rule-index : (rule : Rule) → slice_get every_rule (index_of rule) ≡ Some rule
unfolding every_rule
every_rule-index L1 = refl
every_rule-index _ = refl

past_none : (lines : List (List ℕ)) (k : ℕ) → slice_get lines k ≡ None → length lines ≤ k
past_none [] k h = omega arith
past_none (x ∷ xs) zero h = cc
past_none (x ∷ xs) (suc k) h = omega (arith, past_none xs k h)

-- None is the answer exactly past the last line
pub not_past : (lines : List (List ℕ)) (k : ℕ) (line : List ℕ) → slice_get lines k ≡ Some line →
    (true ≡ false → length lines ≤ k) × (length lines ≤ k → true ≡ false)
not_past lines k line h =
    (λ e. cc, λ p. absurd (omega (arith, slice_get_within lines k line h)))

pub is_past : {A : Type 0} (result : Option A) (lines : List (List ℕ)) (k : ℕ) →
    result ≡ None → slice_get lines k ≡ None →
    (IsNone result → length lines ≤ k) × (length lines ≤ k → IsNone result)
is_past result lines k none h = (λ e. past_none lines k h, λ p. ap is_some none)
