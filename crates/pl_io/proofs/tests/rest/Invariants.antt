use Rattle.std.proofs.Common.{◌≡◌, true}
use Rattle.pl_io.proofs.tests.rest.Given as goal

abbrev pub invariant-loop : goal.invariant-loop
invariant-loop g l = g.H.Shelf.is_open l.shelf ≡ true
