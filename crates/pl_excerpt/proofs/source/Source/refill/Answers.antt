use Rattle.std.proofs.Common.{◌∙◌, ap, arith, subst, sym}
use Rattle.pl_excerpt.specs.Sources.{Reached, Sight}
use Rattle.pl_excerpt.proofs.Finishing.{emptied, read_none, still_at_end, still_none}
use Rattle.pl_excerpt.proofs.source.Source.refill.Goals as goal

pub finish-requires : goal.finish-requires
finish-requires g c = record {
  none = still_none c.self.inside.place c.self.inside.filled c.self.inside.buffer _
      (ap (λ (s : Sight). s.left) c.self.view_is ∙ c.requires.none) (omega (arith, c.self.invariant));
}

pub returns-in-Ok-eq0-clause-refills : goal.returns-in-Ok-eq0-clause-refills
returns-in-Ok-eq0-clause-refills g c = λ file items r.
    let same = read_none c.in-Ok-eq0.field-0 c.read.new.buf _ (g.H.Shelf.rest c.read.new.self)
    c.in-Ok-eq0.field-0-test c.in-Ok-eq0.ensures.bytes in
    c.finish.ensures.halts (g.H.Shelf.rest c.read.new.self) file items
    (still_at_end _ _ same (c.in-Ok-eq0.ensures.end c.in-Ok-eq0.field-0-test))
    (emptied _ _ (g.H.Shelf.rest c.args.shelf.now) (g.H.Shelf.rest c.read.new.self) file items
    (ap (λ (s : Sight). s.left) c.self.view_is ∙ c.requires.none)
    (still_none c.self.inside.place c.self.inside.filled c.self.inside.buffer _
    (ap (λ (s : Sight). s.left) c.self.view_is ∙ c.requires.none) (omega (arith, c.self.invariant)))
    same
    (subst (λ (s : Sight). Reached s (g.H.Shelf.rest c.args.shelf.now) file items) (sym c.self.view_is) r))
