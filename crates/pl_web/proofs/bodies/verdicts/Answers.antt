use Rattle.std.proofs.Common.{◌≡◌, subst}
use Rattle.std.specs.Prelude.{IfOk}
use Rattle.pl_web.proofs.Compact.{verdicts_same}
use Rattle.pl_web.proofs.bodies.verdicts.Goals as goal

pub returns : goal.returns
returns c =
    subst (λ text. IfOk c.verdicts_json.result (λ body. body.items ≡ text))
    (verdicts_same c.args.bench.now c.args.key.now c.args.judged.now)
    c.verdicts_json.ensures
