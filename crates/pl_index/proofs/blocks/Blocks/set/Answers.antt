use Rattle.std.proofs.Common.{◌∙◌, ap, arith, set}
use Rattle.pl_index.specs.Blocks.{laid_out, numbers}
use Rattle.pl_index.proofs.Places.{laid_written, laid_same, seen_within}
use Rattle.pl_index.proofs.blocks.Blocks.set.Goals as goal

pub own_place-place-requires-clause-block : goal.own_place-place-requires-clause-block
own_place-place-requires-clause-block g c = omega (arith, c.self.invariant.covered, seen_within _ _ _ _ _ _ c.self.view_is c.requires)

pub returns : goal.returns
returns g c =
    let own = c.own_place-place.ensures in
    let items = c.own_place-place.new.items.items in
    let lie = numbers c.own_place-place.new.shifts.items in
    ap (λ p. laid_out c.self.inside.blank (set items p c.args.item) lie c.self.inside.count) own.place
    ∙ laid_written _ _ _ _ _ own.blocks own.own _ (seen_within _ _ _ _ _ _ c.self.view_is c.requires)
    ∙ ap (λ l. set l c.args.at c.args.item) (laid_same _ _ _ _ _ _ own.same ∙ c.self.view_is)
