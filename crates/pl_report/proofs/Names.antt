-- How long the names of the rules are.
use Rattle.std.specs.Prelude.{◌≤◌, length}
use Rattle.std.proofs.Common.{arith}
use Rattle.pl_base.specs.Rule.{name_of}
use Rattle.pl_base.specs.declared.rule.Rule.{Rule}
use Rattle.pl_base.specs.declared.rule.Rule.TheVariants.{L1}

-- each case computes
pub short : (r : Rule) → length (name_of r) ≤ 3
short L1 = omega arith
short _ = omega arith
