use Rattle.std.proofs.Common.{◌≡◌, refl, subst}
use Rattle.std.specs.Prelude.{IfOk}
use Rattle.pl_web.proofs.Compact.{string_compact}
use Rattle.pl_web.proofs.bodies.quote.Goals as goal

pub returns : goal.returns
returns c =
    subst (λ text. IfOk c.print.result (λ body. body.items ≡ text))
    (string_compact c.args.word.now)
    (c.print.ensures _ c.in_ok-text_value.ensures refl)
