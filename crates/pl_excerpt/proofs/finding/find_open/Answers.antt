use Rattle.std.proofs.Common.{Some, refl}
use Rattle.pl_excerpt.proofs.Answers.{of_search}
use Rattle.pl_excerpt.proofs.Searches.{begins, ended_in, found_in, goes_on, refused_in}
use Rattle.pl_excerpt.proofs.Steadies.{kept_on, steady_kept, steady_on, steady_search}
use Rattle.pl_excerpt.proofs.finding.find_open.Goals as goal

pub items-init : goal.items-init
items-init g c =
    begins g.H.Shelf c.args.number c.new-source.result c.new-search.result c.args.engine.now
    c.args.shelf.now c.requires.opened c.new-source.ensures.fresh c.new-source.ensures.stands refl
    c.requires.engine c.new-search.ensures

pub items-preserved : goal.items-preserved
items-preserved g c =
    let way = c.items.invariant in
    let lends = c.in-Ok.ensures.comes (g.H.Shelf.rest c.args.shelf.now) way.items way.reached in
    goes_on g.H.Shelf lends.0 way lends.1
    (rw c.in-Ok-None.field-0-is at (c.in-Ok-None.ensures.judged c.args.engine.now.profile
    c.args.number way.items lends.0 lends.1.holds way.searched))
    c.in-Ok.ensures.shelf c.in-Ok.ensures.bound c.in-Ok.ensures.on c.in-Ok-None.ensures.items
    c.in-Ok-None.ensures.engine

pub returns-in-Ok-Some : goal.returns-in-Ok-Some
returns-in-Ok-Some g c =
    let way = c.items.invariant in
    let lends = c.in-Ok.ensures.comes (g.H.Shelf.rest c.args.shelf.now) way.items way.reached in
    record {
      searched = found_in lends.1.reached
          (rw c.in-Ok-Some.field-0-is at (c.in-Ok-Some.ensures.judged c.args.engine.now.profile
          c.args.number way.items lends.0 lends.1.holds way.searched));
      answer = tt;
      shelf = steady_kept g.H.Shelf c.args.shelf.now c.next.new.shelf
          (kept_on g.H.Shelf _ _ _ way.shelf_kept c.in-Ok.ensures.shelf);
    }

pub returns-in-Err-search_item : goal.returns-in-Err-search_item
returns-in-Err-search_item g c =
    let way = c.items.invariant in
    let lends = c.in-Ok.ensures.comes (g.H.Shelf.rest c.args.shelf.now) way.items way.reached in
    record {
      searched = refused_in lends.1.reached
          (c.in-Err-search_item.ensures.judged c.args.engine.now.profile c.args.number way.items
          lends.0 lends.1.holds way.searched);
      answer = tt;
      shelf = steady_kept g.H.Shelf c.args.shelf.now c.next.new.shelf
          (kept_on g.H.Shelf _ _ _ way.shelf_kept c.in-Ok.ensures.shelf);
    }

pub returns-in-Err : goal.returns-in-Err
returns-in-Err g c =
    let way = c.items.invariant in
    let halts = c.in-Err.ensures.comes (g.H.Shelf.rest c.args.shelf.now) way.items way.reached in
    record {
      searched = rw c.without_verdict.ensures
          (ended_in c.in-Err.ended c.next.new.self (g.H.Shelf.rest c.next.new.shelf)
          (g.H.Shelf.rest c.args.shelf.now) halts way.searched);
      answer = rw c.without_verdict.ensures (of_search c.in-Err.ended);
      shelf = rw c.without_verdict.ensures
          (steady_search g.H.Shelf c.in-Err.ended c.args.shelf.now c.next.new.shelf
          (steady_on g.H.Shelf (Some c.in-Err.ended) c.args.shelf.now c.items.shelf
          c.next.new.shelf way.shelf_kept c.in-Err.ensures.shelf));
    }
