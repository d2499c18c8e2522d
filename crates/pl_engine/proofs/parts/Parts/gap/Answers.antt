use Rattle.std.proofs.Common.{List, sym, subst}
use Rattle.pl_credit.specs.Credits as credit
use Rattle.pl_credit.specs.Link.{LinkEvent}
use Rattle.pl_pair.specs.Pairs as pair
use Rattle.pl_pair.specs.History.{Event}
use Rattle.pl_engine.specs.Events.{credit_events, pair_events}
use Rattle.pl_engine.proofs.Taken.{gap-blocked, gap-credits, gap-pairs, gap-verdicts}
use Rattle.pl_engine.proofs.parts.Parts.gap.Goals as goal

pub returns-clause-judged : goal.returns-clause-judged
returns-clause-judged c = λ profile past x is. record {
  allowed = gap-blocked past x is profile;
  verdicts = sym (gap-verdicts past x is profile);
  stands = record {
    lanes = c.gap.ensures.stands past x is;
    credits = subst (λ (events : List LinkEvent). credit.StandsFor c.gap-2.new.self events)
        (sym (gap-credits past x is profile))
        (c.gap-2.ensures.stands (credit_events profile past));
    pairs = subst (λ (events : List Event). pair.StandsFor c.gap-3.new.self events)
        (sym (gap-pairs past x is)) (c.gap-3.ensures.stands (pair_events past));
  };
}

pub returns-clause-ready : goal.returns-clause-ready
returns-clause-ready c = λ profile at ready. record {
  lanes = c.gap.ensures.ready _ _ ready.lanes;
  credits = let before = ready.credits in cc;
  pairs = let before = ready.pairs in cc;
}
