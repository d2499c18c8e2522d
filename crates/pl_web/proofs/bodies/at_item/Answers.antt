use Rattle.std.proofs.Common.{◌≡◌, refl, subst}
use Rattle.std.specs.Prelude.{IfOk}
use Rattle.pl_web.proofs.Compact.{item_compact}
use Rattle.pl_web.proofs.bodies.at_item.Goals as goal

pub returns : goal.returns
returns c =
    subst (λ text. IfOk c.print.result (λ body. body.items ≡ text))
    (item_compact c.args.name.now c.args.item c.args.at)
    (c.print.ensures _ c.in_ok-item_value.ensures refl)
