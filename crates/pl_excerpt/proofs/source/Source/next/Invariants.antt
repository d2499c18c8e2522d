use Rattle.std.proofs.Common.{◌≤◌, ◌+◌, ◌-◌, ◌^◌, List, ℕ, length, Option}
use Rattle.pl_capture.specs.Entry.{Entry}
use Rattle.pl_excerpt.specs.Answer.{limit}
use Rattle.pl_excerpt.specs.Sources.{Reached}
use Rattle.pl_excerpt.proofs.Steadies.{Kept}
use Rattle.pl_excerpt.proofs.source.Source.next.Given as goal

abbrev pub invariant-pieces : goal.invariant-pieces
invariant-pieces g l = record {
  used : l.initial.self.used ≤ l.self.used;
  bound : l.self.used + length l.self.left ≤ limit;
  kept : Kept g.H.Shelf l.initial.shelf l.shelf;
  reached : (file : Option (List ℕ)) (items : List Entry) →
      Reached l.initial.self (g.H.Shelf.rest l.initial.shelf) file items →
      Reached l.self (g.H.Shelf.rest l.shelf) file items;
}

abbrev pub decreases-pieces : goal.decreases-pieces
decreases-pieces g l = 2 ^ 40 - l.self.used
