use Rattle.std.proofs.Common.{◌≡◌, ◌≤◌, ◌+◌, ◌-◌, [], length}
use Rattle.pl_merge.specs.Lawful.{limit}
use Rattle.pl_merge.specs.Sides.{Reached}
use Rattle.pl_merge.proofs.Steadies.{Kept}
use Rattle.pl_merge.proofs.side.Side.take_header.Given as goal

abbrev pub invariant-loop-self : goal.invariant-loop-self
invariant-loop-self g l = record {
  dir : l.self.dir ≡ l.initial.self.dir;
  used : l.self.used ≤ 16;
  bound : l.self.used + length l.self.left ≤ limit;
  kept : Kept g.H.Shelf l.initial.shelf l.shelf;
  reached : Reached l.self (g.H.Shelf.rest l.shelf) (g.H.Shelf.rest l.initial.shelf) [];
}

abbrev pub decreases-loop-self : goal.decreases-loop-self
decreases-loop-self g l = 16 - l.self.used
