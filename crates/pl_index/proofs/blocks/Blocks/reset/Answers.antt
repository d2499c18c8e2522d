use Rattle.std.proofs.Common.{◌∙◌, ◌++◌, arith, replicate, sym, ap, length}
use Rattle.pl_index.proofs.Places.{laid_length, laid_unbegun, unbegun_blocks, unbegun_shifts}
use Rattle.pl_index.proofs.blocks.Blocks.reset.Goals as goal

pub invariant_of-self : goal.invariant_of-self
invariant_of-self g c =
    let before = c.self.invariant in
    let unbegun = c.push_shifts.ensures in
    let count = c.len-blocks.ensures ∙ c.self.inside.shifts.ok.0 in
    record {
      blocks = unbegun_blocks _ _ _ _ 0 (c.push_block.ensures.items ∙ ap (λ l. l ++ replicate 16 c.args.blank) c.clear-2.ensures.items) unbegun;
      aligned = unbegun_shifts _ _ (omega (arith, before.aligned.few, count)) unbegun;
      covered = omega (arith, before.covered, count, unbegun.count);
      room = omega (arith, before.room, count, unbegun.count, c.push_block.ensures.room, c.clear-2.ensures.capacity);
    }

pub returns : goal.returns
returns g c =
    laid_unbegun _ _ _ _ _
    (c.push_block.ensures.items ∙ ap (λ l. l ++ replicate 16 c.args.blank) c.clear-2.ensures.items)
    c.push_shifts.ensures
    ∙ ap (λ n. replicate n c.args.blank) (sym (laid_length _ _ _ _) ∙ ap length c.self.view_is)
