use Rattle.std.proofs.Common.{arith, sym, ◌∙◌}
use Rattle.pl_io.proofs.FaultPlan.{not_sure, none_from-next}
use Rattle.pl_io.proofs.memory.plan.FaultPlan.begin_call.Goals as goal

pub returns-then-planned-clause-sure : goal.returns-then-planned-clause-sure
returns-then-planned-clause-sure c = λ sure.
    absurd (not_sure c.args.self.now (rw c.deref.ensures.value at (sym c.contains-planned.ensures.value ∙ c.if-planned.true)) sure)

pub returns-else-planned-clause-still_sure : goal.returns-else-planned-clause-still_sure
returns-else-planned-clause-still_sure c = grind (arith, none_from-next)
