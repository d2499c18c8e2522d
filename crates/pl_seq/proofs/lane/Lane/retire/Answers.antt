use Rattle.std.proofs.Common.{List, ap, sym, subst, arith, length-drop}
use Rattle.pl_seq.specs.Sent.{Sent}
use Rattle.pl_seq.specs.Runs.{Run}
use Rattle.pl_seq.specs.Lane.{Rise, latest_position}
use Rattle.pl_seq.proofs.Rising.{rise-drop}
use Rattle.pl_seq.proofs.lane.Lane.retire.Goals as goal

pub invariant_of-self : goal.invariant_of-self
invariant_of-self c =
    let tlps = c.self.inside.retry.tlps in
    let last = latest_position c.self.inside.latest_tlp in
    let few = length-drop c.args.count tlps in
    let left = c.retire.ensures.tlps in
    let next = ap (λ (run : Run). run.next) c.answer.ensures in
    let answered = ap (λ (run : Run). run.answered) c.answer.ensures in (
      grind (arith, few, left, next, answered, c.self.invariant.0, c.requires.within),
      grind (arith, next, c.self.invariant.1),
      grind (arith, few, left, c.self.invariant.2, c.retire.ensures.room),
      subst (λ (l : List Sent). Rise 0 l last) (sym left)
          (rise-drop c.args.count 0 last tlps c.self.invariant.3),
      grind (arith, c.retire.ensures.room, c.self.invariant.4),
    )
