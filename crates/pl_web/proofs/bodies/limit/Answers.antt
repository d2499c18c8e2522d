use Rattle.std.proofs.Common.{◌≡◌, refl, subst}
use Rattle.std.specs.Prelude.{IfOk}
use Rattle.pl_web.proofs.Compact.{limit_compact}
use Rattle.pl_web.proofs.bodies.limit.Goals as goal

pub returns : goal.returns
returns c =
    subst (λ text. IfOk c.print.result (λ body. body.items ≡ text))
    (limit_compact c.args.name.now c.args.limit)
    (c.print.ensures _ c.in_ok-limit_value.ensures refl)
