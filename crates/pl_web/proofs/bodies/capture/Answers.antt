use Rattle.std.proofs.Common.{◌≡◌, refl, subst}
use Rattle.std.specs.Prelude.{IfOk}
use Rattle.pl_web.proofs.Compact.{capture_compact}
use Rattle.pl_web.proofs.bodies.capture.Goals as goal

pub returns : goal.returns
returns c =
    subst (λ text. IfOk c.print.result (λ body. body.items ≡ text))
    (capture_compact c.args.bench.now c.args.key.now c.args.profile.now c.args.items
    c.args.verdicts)
    (c.print.ensures _ c.in_ok-capture_value.ensures refl)
