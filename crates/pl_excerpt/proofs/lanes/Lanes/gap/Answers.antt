use Rattle.std.proofs.Common.{List, sym, subst}
use Rattle.pl_base.specs.declared.link.Dir.TheVariants.{Down, Up}
use Rattle.pl_seq.specs.History as lane
use Rattle.pl_seq.specs.Lane.{StandsFor}
use Rattle.pl_engine.specs.Events.{lane_events}
use Rattle.pl_excerpt.proofs.Copies.{gap_events}
use Rattle.pl_excerpt.proofs.lanes.Lanes.gap.Goals as goal

pub returns-clause-stands : goal.returns-clause-stands
returns-clause-stands c = λ past x is. record {
  down_is = subst (λ (events : List lane.Event). StandsFor c.gap.new.self events)
      (sym (gap_events past x Down is)) (c.gap.ensures.stands (lane_events Down past));
  up_is = subst (λ (events : List lane.Event). StandsFor c.gap-2.new.self events)
      (sym (gap_events past x Up is)) (c.gap-2.ensures.stands (lane_events Up past));
}
