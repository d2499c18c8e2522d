use Rattle.std.proofs.Common.{arith, length-take, subst, take}
use Rattle.pl_excerpt.specs.Sources.{Reached}
use Rattle.pl_excerpt.proofs.Finishing.{read_none, still_at_end, too_long}
use Rattle.pl_excerpt.proofs.source.Source.look_behind.Goals as goal

pub returns-in-Ok-eq0-clause-halts : goal.returns-in-Ok-eq0-clause-halts
returns-in-Ok-eq0-clause-halts g c = λ file items r.
    let same = read_none c.in-Ok-eq0.field-0 c.read.new.buf _ (g.H.Shelf.rest c.read.new.self)
    c.in-Ok-eq0.field-0-test c.in-Ok-eq0.ensures.bytes in
    c.finish.ensures.halts (g.H.Shelf.rest c.read.new.self) file items
    (still_at_end _ _ same (c.in-Ok-eq0.ensures.end c.in-Ok-eq0.field-0-test))
    (subst (λ rest. Reached c.args.self.now rest file items) same r)

pub returns-in-Ok-clause-halts : goal.returns-in-Ok-clause-halts
returns-in-Ok-clause-halts g c = λ file items r.
    too_long c.args.self.now _ _ file (take c.in-Ok.field-0 c.read.new.buf) items c.requires.none c.requires.full
    c.in-Ok.ensures.bytes (omega (arith, c.in-Ok.field-0-test, c.in-Ok.ensures.most, length-take c.in-Ok.field-0 c.read.new.buf)) r
