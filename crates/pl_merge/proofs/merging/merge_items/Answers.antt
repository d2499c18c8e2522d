use Rattle.std.proofs.Common.{◌∙◌, []}
use Rattle.pl_page.specs.Gathers.{tells}
use Rattle.pl_merge.proofs.Mixes.{start_down, start_mixed, start_up}
use Rattle.pl_merge.proofs.merging.merge_items.Goals as goal

pub returns-in-Ok-next-clause-mixes : goal.returns-in-Ok-next-clause-mixes
returns-in-Ok-next-clause-mixes g c = λ down up head start r r2 f.
    c.merge_waiting.ensures.mixes down up head start
    (start_mixed down up c.next.new.self c.next-in-Ok.new.self (g.H.Shelf.rest c.next.new.shelf) (g.H.Shelf.rest c.next-in-Ok.new.shelf)
    c.args.page.now head start (tells g.O.Sink c.args.out.now) (c.in-Ok.ensures.comes down [] r) (c.in-Ok-next.ensures.comes up [] r2) f)

pub returns-in-Err-next-clause-mixes : goal.returns-in-Err-next-clause-mixes
returns-in-Err-next-clause-mixes g c = λ down up head start r r2 f.
    start_up c.in-Err-next.halt down up c.next.new.self c.next-in-Ok.new.self (g.H.Shelf.rest c.next.new.shelf) (g.H.Shelf.rest c.next-in-Ok.new.shelf)
    c.args.page.now head start (tells g.O.Sink c.args.out.now) (c.in-Ok.ensures.dir ∙ c.requires.down) (c.in-Err-next.ensures.dir ∙ c.requires.up)
    (c.in-Ok.ensures.comes down [] r) (c.in-Err-next.ensures.comes up [] r2) f

pub returns-in-Err-clause-mixes : goal.returns-in-Err-clause-mixes
returns-in-Err-clause-mixes g c = λ down up head start r r2 f.
    start_down c.in-Err.halt down up c.next.new.self c.args.two.now (g.H.Shelf.rest c.next.new.shelf) (g.H.Shelf.rest c.args.second.now)
    c.args.page.now head start (tells g.O.Sink c.args.out.now) (c.in-Err.ensures.dir ∙ c.requires.down) c.requires.up
    (c.in-Err.ensures.comes down [] r) r2 f
