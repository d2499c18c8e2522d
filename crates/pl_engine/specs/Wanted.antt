-- The verdicts of all rules, or of one of them alone.
use Rattle.std.specs.Prelude.{◌==◌, Bool, true, List, filter}
use Rattle.pl_base.specs.Rule.{index_of}
use Rattle.pl_base.specs.declared.rule.Rule.{Rule}
use Rattle.pl_base.specs.declared.verdict.Verdict.{Verdict}
use Rattle.pl_engine.specs.declared.wanted.Wanted.{Wanted}
use Rattle.pl_engine.specs.declared.wanted.Wanted.TheVariants.{Every, Of}

-- a verdict is of a rule
abbrev pub is_of : Rule → Verdict → Bool
is_of rule verdict = index_of verdict.rule == index_of rule

-- one of those that are asked for
abbrev pub is_wanted : Wanted → Verdict → Bool
is_wanted Every verdict = true
is_wanted (Of rule) verdict = is_of rule verdict

abbrev pub wanted_of : Wanted → List Verdict → List Verdict
wanted_of Every verdicts = verdicts
wanted_of (Of rule) verdicts = filter (is_of rule) verdicts
