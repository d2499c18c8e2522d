use Rattle.std.proofs.Common.{◌∷◌}
use Rattle.pl_engine.proofs.Counting.{one_item_more}
use Rattle.pl_engine.proofs.counts.Counts.add.Goals as goal

pub returns-clause-stands : goal.returns-clause-stands
returns-clause-stands c = λ profile past x stands same arrived found at parts. record {
  arrivals = c.come.ensures.stands past x stands.arrivals same arrived;
  peaks = c.rise.ensures past x stands.peaks (c.outstanding-outstanding.ensures.past _ parts.pairs)
      (c.unacknowledged_of-down.ensures.past (x ∷ past) parts.lanes)
      (c.unacknowledged_of-up.ensures.past (x ∷ past) parts.lanes);
  broken = one_item_more _ _ _ past x _ _ stands.broken found at c.add_all.ensures.verdicts
      c.add_all.ensures.rules c.add_all.ensures.first_at;
}
