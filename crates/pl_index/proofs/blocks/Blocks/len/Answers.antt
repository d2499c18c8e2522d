use Rattle.std.proofs.Common.{◌∙◌, sym, ap, length}
use Rattle.pl_index.proofs.Places.{laid_length}
use Rattle.pl_index.proofs.blocks.Blocks.len.Goals as goal

pub returns : goal.returns
returns g c = sym (laid_length _ _ _ _) ∙ ap length c.self.view_is
