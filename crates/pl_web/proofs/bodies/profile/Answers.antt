use Rattle.std.proofs.Common.{◌≡◌, refl, subst}
use Rattle.std.specs.Prelude.{IfOk}
use Rattle.pl_web.proofs.Compact.{profile_compact}
use Rattle.pl_web.proofs.bodies.profile.Goals as goal

pub returns : goal.returns
returns c =
    subst (λ text. IfOk c.print.result (λ body. body.items ≡ text))
    (profile_compact c.args.bench.now c.args.profile.now)
    (c.print.ensures _ c.in_ok-profile_value.ensures refl)
