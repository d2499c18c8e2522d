use Rattle.std.proofs.Common.{◌∙◌, ap, subst, sym}
use Rattle.pl_excerpt.specs.Sources.{Reached, Sight}
use Rattle.pl_excerpt.proofs.Finishing.{finish_stops, finish_whole}
use Rattle.pl_excerpt.proofs.source.Source.finish.Goals as goal

pub returns-in-End-clause-halts : goal.returns-in-End-clause-halts
returns-in-End-clause-halts c = λ rest file items at_end r.
    finish_whole _ c.in-End.used rest file items
    (ap (λ (s : Sight). s.left) c.self.view_is ∙ c.requires.none) at_end
    c.in-End.ensures.answers
    (subst (λ (s : Sight). Reached s rest file items) (sym c.self.view_is) r)

pub returns-clause-halts : goal.returns-clause-halts
returns-clause-halts c = λ rest file items at_end r.
    finish_stops _ c.in-Bad.stop rest file items
    (ap (λ (s : Sight). s.left) c.self.view_is ∙ c.requires.none) at_end
    c.in-Bad.ensures.answers (subst (λ (s : Sight). Reached s rest file items) (sym c.self.view_is) r)
