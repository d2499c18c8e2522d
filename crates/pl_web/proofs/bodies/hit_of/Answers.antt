use Rattle.std.proofs.Common.{◌≡◌, refl, subst}
use Rattle.std.specs.Prelude.{IfOk}
use Rattle.pl_web.proofs.Compact.{hit_compact}
use Rattle.pl_web.proofs.bodies.hit_of.Goals as goal

pub returns : goal.returns
returns c =
    subst (λ text. IfOk c.print.result (λ body. body.items ≡ text))
    (hit_compact (record { key = c.args.key.now; at = c.args.at }))
    (c.print.ensures _ c.in_ok-hit_value.ensures refl)
