use Rattle.std.proofs.Common.{arith, inl, lit<, refl}
use Rattle.pl_make.specs.Generated.{Gen, items}
use Rattle.pl_make.proofs.Lefts.{items_length}
use Rattle.pl_make.proofs.Lawfulness.{items_lawful}
use Rattle.pl_make.proofs.laws.read_as_items.Goals as goal

pub returns : goal.returns
unfolding Gen
returns c = λ number count most.
    c.reads_back.ensures 1 (items number count) 0 (inl refl) (items_lawful number count most) (lit< tt)
    (omega (arith, items_length number count))
