use Rattle.pl_excerpt.proofs.source.Source.next.Goals as goal

pub returns-in-Bad-clause-comes : goal.returns-in-Bad-clause-comes
returns-in-Bad-clause-comes g c = λ file items r.
    c.in-Bad.ensures.feeds (g.H.Shelf.rest c.fill.new.shelf) file items
    (c.in-Ok.ensures.refills file items (c.pieces.invariant.reached file items r))

pub returns-in-Err-clause-comes : goal.returns-in-Err-clause-comes
returns-in-Err-clause-comes g c = λ file items r.
    c.in-Err.ensures.refills file items (c.pieces.invariant.reached file items r)
