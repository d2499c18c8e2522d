use Rattle.std.proofs.Common.{◌≡◌, refl, subst}
use Rattle.std.specs.Prelude.{IfOk}
use Rattle.pl_web.proofs.Compact.{number_compact}
use Rattle.pl_web.proofs.bodies.numbered.Goals as goal

pub returns : goal.returns
returns c =
    subst (λ text. IfOk c.print.result (λ body. body.items ≡ text))
    (number_compact c.args.name.now c.args.at)
    (c.print.ensures _ c.in_ok-number_value.ensures refl)
