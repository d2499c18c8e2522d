use Rattle.std.proofs.Common.{◌≡◌, refl, subst}
use Rattle.std.specs.Prelude.{IfOk}
use Rattle.pl_web.proofs.Compact.{error_compact}
use Rattle.pl_web.proofs.bodies.error.Goals as goal

pub returns : goal.returns
returns c =
    subst (λ text. IfOk c.print.result (λ body. body.items ≡ text))
    (error_compact c.args.name.now)
    (c.print.ensures _ c.in_ok-error_value.ensures refl)
