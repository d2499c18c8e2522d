use Rattle.std.proofs.Common.{◌≡◌, true}
use Rattle.std.specs.Prelude.{is_some}
use Rattle.pl_make.proofs.tests.a_thousand_rounds_are_those_of_another_program.Given as goal

abbrev pub invariant-loop : goal.invariant-loop
invariant-loop g l = is_some l.maker.opened ≡ true
