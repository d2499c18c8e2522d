use Rattle.std.proofs.Common.{◌≡◌, ◌+◌, ◌*◌, ◌-◌, ◌≤◌, length}
use Rattle.pl_excerpt.specs.Answer.{limit}
use Rattle.pl_excerpt.specs.Replaying.{Follows}
use Rattle.pl_excerpt.proofs.Steadies.{Kept}
use Rattle.pl_excerpt.proofs.copying.copy_items.Given as goal

abbrev pub invariant-items : goal.invariant-items
invariant-items g l = record {
  follows : Follows l.engine l.witnesses.lanes (l.at + 1);
  shelf_kept : Kept g.H.Shelf l.initial.shelf l.shelf;
  sink_kept : g.O.Sink.faults l.out ≡ g.O.Sink.faults l.initial.out;
  bound : l.source.used + length l.source.left ≤ limit;
  few : l.at ≤ l.source.used;
  records : l.written.records ≤ 2 * l.at;
}

abbrev pub decreases-items : goal.decreases-items
decreases-items g l = l.last - l.at
