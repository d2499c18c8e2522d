use Rattle.std.proofs.Common.{subst, sym}
use Rattle.pl_excerpt.specs.Sources.{Steady}
use Rattle.pl_excerpt.proofs.Steadies.{kept_on, steady_kept}
use Rattle.pl_excerpt.proofs.copying.copy_items.Goals as goal

pub returns-in-Err-copy_lent-clause-shelf : goal.returns-in-Err-copy_lent-clause-shelf
returns-in-Err-copy_lent-clause-shelf g c =
    subst (λ e. Steady g.H.Shelf e c.args.shelf.now c.next.new.shelf)
    (sym c.in-Err-copy_lent.ensures.no_read)
    (steady_kept g.H.Shelf c.args.shelf.now c.next.new.shelf
    (kept_on g.H.Shelf _ _ _ c.items.invariant.shelf_kept c.in-Ok.ensures.shelf))
