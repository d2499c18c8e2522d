use Rattle.pl_engine.proofs.counts.Counts.new.Goals as goal

pub returns-clause-stands : goal.returns-clause-stands
returns-clause-stands c = λ profile. record {
  arrivals = c.new-arrivals.ensures.stands;
  peaks = c.new-peaks.ensures;
  broken = c.new-broken.ensures.stands profile;
}
