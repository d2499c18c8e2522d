use Rattle.std.proofs.Common.{◌∙◌, ◌++◌, arith, replicate, ap}
use Rattle.pl_index.proofs.Places.{laid_unbegun, unbegun_blocks, unbegun_shifts}
use Rattle.pl_index.proofs.blocks.Blocks.open.Goals as goal

pub invariant_of-result : goal.invariant_of-result
invariant_of-result g c =
    let unbegun = c.push_shifts.ensures in
    record {
      blocks = unbegun_blocks _ _ _ _ 0 (c.push_block.ensures.items ∙ ap (λ l. l ++ replicate 16 c.args.blank) c.in_ok-items.ensures.items) unbegun;
      aligned = unbegun_shifts _ _ (omega (arith, c.requires.few, c.div_ceil-blocks.ensures)) unbegun;
      covered = omega (arith, c.div_ceil-blocks.ensures, unbegun.count);
      room = omega (arith, c.push_block.ensures.room, c.in_ok-items.ensures.capacity, unbegun.count);
    }

pub returns : goal.returns
returns g c =
    laid_unbegun _ _ _ _ _
    (c.push_block.ensures.items ∙ ap (λ l. l ++ replicate 16 c.args.blank) c.in_ok-items.ensures.items)
    c.push_shifts.ensures
