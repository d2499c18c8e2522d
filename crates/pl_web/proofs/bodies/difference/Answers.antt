use Rattle.std.proofs.Common.{◌≡◌, refl, subst}
use Rattle.std.specs.Prelude.{IfOk}
use Rattle.pl_web.proofs.Compact.{difference_compact}
use Rattle.pl_web.proofs.bodies.difference.Goals as goal

pub returns : goal.returns
returns c =
    subst (λ text. IfOk c.print.result (λ body. body.items ≡ text))
    (difference_compact c.args.length c.args.place c.args.sent)
    (c.print.ensures _ c.in_ok-difference_value.ensures refl)
