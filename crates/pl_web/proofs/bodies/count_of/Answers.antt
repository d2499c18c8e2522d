use Rattle.std.proofs.Common.{◌≡◌, refl, subst}
use Rattle.std.specs.Prelude.{IfOk}
use Rattle.pl_web.proofs.Compact.{count_compact}
use Rattle.pl_web.proofs.bodies.count_of.Goals as goal

pub returns : goal.returns
returns c =
    subst (λ text. IfOk c.print.result (λ body. body.items ≡ text))
    (count_compact c.args.count)
    (c.print.ensures _ c.in_ok-count_value.ensures refl)
