use Rattle.std.proofs.Common.{◌≡◌, ◌≤◌, ◌+◌, ◌*◌, ℕ, List, Option, length}
use Rattle.pl_base.specs.declared.link.Dir.TheVariants.{Down, Up}
use Rattle.pl_capture.specs.Standing.{lent}
use Rattle.pl_page.specs.Gathers.{Tells, tells}
use Rattle.pl_merge.specs.Lawful.{limit}
use Rattle.pl_merge.specs.Mixing.{Mixed}
use Rattle.pl_merge.proofs.Measures.{to_read}
use Rattle.pl_merge.proofs.Steadies.{Kept}
use Rattle.pl_merge.proofs.merging.merge_waiting.Given as goal

abbrev pub invariant-items : goal.invariant-items
invariant-items g l = record {
  down : l.one.dir ≡ Down;
  up : l.two.dir ≡ Up;
  bound : l.one.used + length l.one.left ≤ limit;
  bound2 : l.two.used + length l.two.left ≤ limit;
  kept : Kept g.H.Shelf l.initial.first l.first;
  kept2 : Kept g.H.Shelf l.initial.second l.second;
  faults : g.O.Sink.faults l.out ≡ g.O.Sink.faults l.initial.out;
  count : l.count + (to_read l.one.used (lent l.one.reader.phase) + to_read l.two.used (lent l.two.reader.phase)) ≤ 2 * limit + 2;
  mixed : (down up : Option (List ℕ)) (head : List ℕ) (start : Tells) →
      Mixed down up l.initial.one l.initial.two (g.H.Shelf.rest l.initial.first) (g.H.Shelf.rest l.initial.second)
      l.initial.page head start (tells g.O.Sink l.initial.out) 0 →
      Mixed down up l.one l.two (g.H.Shelf.rest l.first) (g.H.Shelf.rest l.second)
      l.page head start (tells g.O.Sink l.out) l.count;
}

abbrev pub decreases-items : goal.decreases-items
decreases-items g l = to_read l.one.used (lent l.one.reader.phase) + to_read l.two.used (lent l.two.reader.phase)
