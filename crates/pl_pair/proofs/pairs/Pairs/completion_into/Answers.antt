use Rattle.std.proofs.Common.{None, Some, ap, ◌∙◌, sym, subst}
use Rattle.pl_pair.specs.Pairs.{IsInRange, IsOpen, key_of}
use Rattle.pl_pair.proofs.Steps.{is-some, open-step, stands-ended, stands-left_open, stands-none, step-put, step-take}
use Rattle.pl_pair.proofs.pairs.Pairs.completion_into.Goals as goal

pub after_part-requires-clause-open : goal.after_part-requires-clause-open
after_part-requires-clause-open g c = c.self.invariant.1 _ _ (sym c.in-Some.ensures)

-- ---- what is left in the table is open
pub invariant_of-self : goal.invariant_of-self
invariant_of-self g c = (
  c.set.ensures.room ∙ c.self.invariant.0,
  open-step _ _ c.key-key.result (Some c.in-Some-after_part.opened) (step-put _ _ _ _ c.set.ensures.set)
      (λ other e. is-some c.in-Some-after_part.opened other IsOpen c.in-Some-after_part.ensures.open e) c.self.invariant.1,
)

pub invariant_of-self-in-None : goal.invariant_of-self-in-None
invariant_of-self-in-None g c = (
  c.take.ensures.room ∙ c.self.invariant.0,
  open-step _ _ c.key-key.result None (step-take _ _ _ c.in-Some.opened (sym c.in-Some.ensures) c.take.ensures.taken) (λ other e. absurd (cc)) c.self.invariant.1,
)

-- ---- the table stands for the history with the completion
pub returns-in_default-clause-stands : goal.returns-in_default-clause-stands
returns-in_default-clause-stands g c =
    stands-none c.args.self.now c.self.inside.table c.self.inside.torn c.key-key.result c.args.dir (g.P.Packet.fields c.args.tlp.now) c.args.at c.self.view_is
    (c.key-key.ensures ∙ ap key_of c.answered.ensures.id) (subst IsInRange c.answered.ensures.id c.answered.ensures.range)
    c.in_default.ensures

pub returns-in-Some-after_part-clause-stands : goal.returns-in-Some-after_part-clause-stands
returns-in-Some-after_part-clause-stands g c =
    stands-left_open c.args.self.now c.self.inside.table c.self.inside.torn c.key-key.result c.args.dir (g.P.Packet.fields c.args.tlp.now) c.args.at c.self.view_is
    (c.key-key.ensures ∙ ap key_of c.answered.ensures.id) (subst IsInRange c.answered.ensures.id c.answered.ensures.range)
    c.set.new.self c.in-Some.opened c.in-Some.ensures c.in-Some-after_part.opened c.in-Some-after_part.ensures.after c.set.ensures.set

pub returns-in-None-clause-stands : goal.returns-in-None-clause-stands
returns-in-None-clause-stands g c =
    stands-ended c.args.self.now c.self.inside.table c.self.inside.torn c.key-key.result c.args.dir (g.P.Packet.fields c.args.tlp.now) c.args.at c.self.view_is
    (c.key-key.ensures ∙ ap key_of c.answered.ensures.id) (subst IsInRange c.answered.ensures.id c.answered.ensures.range)
    c.take.new.self c.in-Some.opened c.in-Some.ensures c.in-None.ensures.after c.take.ensures.taken
