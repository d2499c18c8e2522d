use Rattle.std.proofs.Common.{arith, drop, length-drop, length-take, subst, sym, take}
use Rattle.pl_excerpt.specs.Sources.{Reached, Sight}
use Rattle.pl_excerpt.proofs.Taking.{drop_all, fed_bad, fed_end, fed_item, fed_more, parted}
use Rattle.pl_excerpt.proofs.source.Source.feed.Goals as goal

pub returns-in-More-clause-feeds : goal.returns-in-More-clause-feeds
returns-in-More-clause-feeds c = λ rest file items r.
    fed_more _ c.give.new.reader (drop c.self.inside.filled (take c.self.inside.filled c.self.inside.buffer)) _ rest file items
    (drop_all c.self.inside.filled c.self.inside.buffer)
    (omega (arith, length-drop c.self.inside.place (take c.self.inside.filled c.self.inside.buffer), length-take c.self.inside.filled c.self.inside.buffer))
    c.in-More.ensures.answers c.in-More.ensures.becomes
    (subst (λ (s : Sight). Reached s rest file items) (sym c.self.view_is) r)

pub returns-in-End-clause-feeds : goal.returns-in-End-clause-feeds
returns-in-End-clause-feeds c = λ rest file items r.
    fed_end _ c.give.new.reader c.in-End.used _ _ rest file items
    (parted c.self.inside.place c.in-End.used (take c.self.inside.filled c.self.inside.buffer))
    (omega (arith, c.in-End.ensures.uses, length-take c.in-End.used (drop c.self.inside.place (take c.self.inside.filled c.self.inside.buffer))))
    c.in-End.ensures.answers c.in-End.ensures.becomes
    (subst (λ (s : Sight). Reached s rest file items) (sym c.self.view_is) r)

pub returns-in-Bad-clause-feeds : goal.returns-in-Bad-clause-feeds
returns-in-Bad-clause-feeds c = λ rest file items r.
    fed_bad _ c.give.new.reader c.in-Bad.stop rest file items c.in-Bad.ensures.answers c.in-Bad.ensures.becomes
    (subst (λ (s : Sight). Reached s rest file items) (sym c.self.view_is) r)

pub returns-in-Item-clause-feeds : goal.returns-in-Item-clause-feeds
returns-in-Item-clause-feeds c = λ rest file items r.
    fed_item _ c.give.new.reader c.in-Item.used _ _ rest file items
    (parted c.self.inside.place c.in-Item.used (take c.self.inside.filled c.self.inside.buffer))
    (omega (arith, c.in-Item.ensures.uses, length-take c.in-Item.used (drop c.self.inside.place (take c.self.inside.filled c.self.inside.buffer))))
    c.in-Item.ensures.answers
    (subst (λ (s : Sight). Reached s rest file items) (sym c.self.view_is) r)
