use Rattle.std.proofs.Common.{◌∙◌, ap, subst, sym}
use Rattle.pl_capture.specs.Standing.{Standing}
use Rattle.pl_merge.specs.Sides.{Reached, Sight, Stops}
use Rattle.pl_merge.proofs.Finishing.{finish_over, finish_stops}
use Rattle.pl_merge.proofs.side.Side.finish.Goals as goal

pub returns-in-End-clause-refills : goal.returns-in-End-clause-refills
returns-in-End-clause-refills c = λ rest file items at_end r.
    finish_over _ c.finish.new.self _ c.in-End.used rest file items
    (ap (λ (s : Sight). s.left) c.self.view_is ∙ c.requires.none) at_end
    c.in-End.ensures.answers (ap (λ (s : Standing). s.end_time) c.in-End.ensures.left)
    (subst (λ (s : Sight). Reached s rest file items) (sym c.self.view_is) r)

pub returns-clause-refills : goal.returns-clause-refills
returns-clause-refills c = λ rest file items at_end r.
    rw c.end_by.ensures
    (finish_stops _ c.in-Bad.stop rest file items
    (ap (λ (s : Sight). s.left) c.self.view_is ∙ c.requires.none) at_end
    c.in-Bad.ensures.answers (subst (λ (s : Sight). Reached s rest file items) (sym c.self.view_is) r))
