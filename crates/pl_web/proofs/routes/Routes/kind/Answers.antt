use Rattle.std.proofs.Common.{ap, ◌∙◌, sym, arith}
use Rattle.matchit.specs.Seek.{first}
use Rattle.pl_web.proofs.Found.{path_found, are_bytes, kind_found}
use Rattle.pl_web.proofs.routes.Routes.kind.Goals as goal

pub returns-in-Ok : goal.returns-in-Ok
returns-in-Ok c =
    ap kind_found (sym c.in-Ok.ensures.found)
    ∙ ap (λ rows. kind_found (first rows c.args.path.now)) c.args.self.now.whole
    ∙ path_found c.args.path.now (are_bytes c.args.path.now (λ i. omega (arith, c.type_inv.path i)))

pub returns-in-Err : goal.returns-in-Err
returns-in-Err c =
    ap kind_found (sym c.in-Err.ensures.missing)
    ∙ ap (λ rows. kind_found (first rows c.args.path.now)) c.args.self.now.whole
    ∙ path_found c.args.path.now (are_bytes c.args.path.now (λ i. omega (arith, c.type_inv.path i)))
