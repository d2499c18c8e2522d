use Rattle.std.proofs.Common.{◌-◌, ◌^◌}
use Rattle.pl_excerpt.proofs.Searches.{OnTheWay}
use Rattle.pl_excerpt.proofs.finding.find_open.Given as goal

abbrev pub invariant-items : goal.invariant-items
invariant-items g l =
    OnTheWay g.H.Shelf l.initial.engine.profile l.number l.source l.search l.engine
    l.initial.shelf l.shelf

abbrev pub decreases-items : goal.decreases-items
decreases-items g l = 2 ^ 40 - l.source.used
