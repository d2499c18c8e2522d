use Rattle.std.proofs.Common.{◌≡◌, refl, subst}
use Rattle.std.specs.Prelude.{IfOk}
use Rattle.pl_web.proofs.Compact.{item_limit_compact}
use Rattle.pl_web.proofs.bodies.limit_at_item.Goals as goal

pub returns : goal.returns
returns c =
    subst (λ text. IfOk c.print.result (λ body. body.items ≡ text))
    (item_limit_compact c.args.name.now c.args.item c.args.limit)
    (c.print.ensures _ c.in_ok-item_limit_value.ensures refl)
