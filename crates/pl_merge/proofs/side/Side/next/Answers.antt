use Rattle.std.proofs.Common.{Ok, ap}
use Rattle.pl_merge.proofs.Finishing.{waits_item, waits_over}
use Rattle.pl_merge.proofs.side.Side.next.Goals as goal

pub returns-in-Ok-false-clause-comes : goal.returns-in-Ok-false-clause-comes
returns-in-Ok-false-clause-comes g c = λ file items r.
    waits_over c.fill.new.self (g.H.Shelf.rest c.fill.new.shelf) file items
    (c.in-Ok-false.ensures.over (ap Ok c.in-Ok-false.field-0-test))
    (rw c.in-Ok-false.field-0-test at (c.in-Ok-false.ensures.refills file items (c.pieces.invariant.reached file items r)))

pub returns-in-Item-clause-comes : goal.returns-in-Item-clause-comes
returns-in-Item-clause-comes g c = λ file items r.
    let here = rw c.in-Ok-true.field-0-test at (c.in-Ok-true.ensures.refills file items (c.pieces.invariant.reached file items r)) in
    let item = c.in-Item.ensures.feeds (g.H.Shelf.rest c.fill.new.shelf) file items here in
    waits_item c.feed.new.self (g.H.Shelf.rest c.fill.new.shelf) file items item.0 item.1

pub returns-in-Stops-clause-comes : goal.returns-in-Stops-clause-comes
returns-in-Stops-clause-comes g c = λ file items r.
    let here = rw c.in-Ok-true.field-0-test at (c.in-Ok-true.ensures.refills file items (c.pieces.invariant.reached file items r)) in
    c.in-Stops.ensures.feeds (g.H.Shelf.rest c.fill.new.shelf) file items here
