use Rattle.std.proofs.Common.{◌≡◌, refl, subst}
use Rattle.std.specs.Prelude.{IfOk}
use Rattle.pl_web.proofs.Compact.{line_compact}
use Rattle.pl_web.proofs.bodies.line_of.Goals as goal

pub returns : goal.returns
returns c =
    subst (λ text. IfOk c.print.result (λ body. body.items ≡ text))
    (line_compact (record {
      key = c.args.key.now;
      profile = c.args.profile.now;
      length = c.args.length;
    }))
    (c.print.ensures _ c.in_ok-line_value.ensures refl)
