use Rattle.std.proofs.Common.{◌≡◌, ◌<◌, ◌∙◌, Some, sym, ap, arith}
use Rattle.pl_capture.specs.Standing.{Standing}
use Rattle.pl_capture.proofs.Versions.{none_accepted, one_accepted}
use Rattle.pl_capture.proofs.reader.Reader.version.Goals as goal

pub returns-then-self-eq0-clause-accepted : goal.returns-then-self-eq0-clause-accepted
returns-then-self-eq0-clause-accepted c bytes stands =
    let place : c.args.self.now.place ≡ 0 =
    sym (ap (λ (s : Standing). s.place) c.self.view_is) ∙ c.if-self-eq0.true in
    sym (none_accepted c.args.self.now bytes stands place)

pub returns-else-self-eq0-clause-accepted : goal.returns-else-self-eq0-clause-accepted
returns-else-self-eq0-clause-accepted c bytes stands =
    let same = ap (λ (s : Standing). s.place) c.self.view_is in
    let some : 0 < c.args.self.now.place = grind (arith, same, c.if-self-eq0.false) in
    ap (λ (s : Standing). Some s.version) c.self.view_is
    ∙ sym (one_accepted c.args.self.now bytes stands some)
