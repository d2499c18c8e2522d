use Rattle.std.proofs.Common.{◌∙◌, ◌++◌, ap, arith, length-take, subst, sym, take}
use Rattle.std.proofs.lemmas.List.{take-append-le}
use borrow.Rule.Slice.PartMut.{post_of}
use Rattle.pl_merge.specs.Sides.{Reached, Sight}
use Rattle.pl_merge.proofs.Finishing.{refilled, still_none}
use Rattle.pl_merge.proofs.side.Side.refill.Goals as goal

pub finish-requires : goal.finish-requires
finish-requires g c = record {
  none = still_none c.self.inside.place c.self.inside.filled c.self.inside.buffer _
      (ap (λ (s : Sight). s.left) c.self.view_is ∙ c.requires.none) (omega (arith, c.self.invariant));
}

pub returns-in-Ok-clause-refills : goal.returns-in-Ok-clause-refills
returns-in-Ok-clause-refills g c = λ file items r.
    let piece = take-append-le c.in-Ok.count c.read.new.buf (post_of 0 c.min-most.result c.self.inside.buffer) c.in-Ok.ensures.most in
    refilled _ (take c.in-Ok.count c.read.new.buf) _ (g.H.Shelf.rest c.args.shelf.now) _ file items
    (ap (λ (s : Sight). s.left) c.self.view_is ∙ c.requires.none) piece c.in-Ok.ensures.bytes
    (omega (arith, c.in-Ok.ensures.most, c.self.invariant, length-take c.in-Ok.count (c.read.new.buf ++ post_of 0 c.min-most.result c.self.inside.buffer)))
    (subst (λ (s : Sight). Reached s (g.H.Shelf.rest c.args.shelf.now) file items) (sym c.self.view_is) r)
