use Rattle.std.proofs.Common.{ap, arith, length, length-drop, length-take, sym, take}
use Rattle.pl_excerpt.specs.Sources.{Sight}
use Rattle.pl_excerpt.proofs.Finishing.{left_lt}
use Rattle.pl_excerpt.proofs.source.Source.has_left.Goals as goal

pub returns : goal.returns
returns c =
    let len = ap (λ (s : Sight). length s.left) (sym c.self.view_is) in
    left_lt c.self.inside.place c.self.inside.filled (length c.args.self.now.left)
    (omega (arith, len, length-drop c.self.inside.place (take c.self.inside.filled c.self.inside.buffer), length-take c.self.inside.filled c.self.inside.buffer))
