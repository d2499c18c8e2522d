use Rattle.std.proofs.Common.{◌∙◌, ap, arith, get_or}
use Rattle.pl_index.proofs.Places.{seen_within, seen_at}
use Rattle.pl_index.proofs.blocks.Blocks.at.Goals as goal

pub place_of-requires : goal.place_of-requires
place_of-requires g c = record {
  block = omega (arith, c.self.invariant.covered, seen_within _ _ _ _ _ _ c.self.view_is c.requires);
  shifts = c.self.invariant.aligned;
}

pub returns : goal.returns
returns g c =
    seen_at _ _ _ _ _ _ _ c.self.view_is c.requires c.self.invariant.blocks
    (c.index.ensures ∙ ap (λ p. get_or c.self.inside.items.items p c.index.result.now) c.place_of.ensures)
