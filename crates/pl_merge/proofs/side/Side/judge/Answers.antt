use Rattle.std.proofs.Common.{◌∙◌, ℕ, ap, nat_lt, refl, subst, sym}
use Rattle.std.proofs.lemmas.Bool.{le-ltb, lt-ltb}
use Rattle.pl_capture.specs.Entry.{Entry, view}
use Rattle.pl_merge.specs.Sides.{Lends, Sight, Unjudged}
use Rattle.pl_merge.proofs.Taking.{judged, judged_falls, judged_lawful, judged_strays, seen_is}
use Rattle.pl_merge.proofs.side.Side.judge.Goals as goal

pub returns-then-strays-clause-judged : goal.returns-then-strays-clause-judged
returns-then-strays-clause-judged c = λ rest file items x holds u.
    let seen = seen_is _ c.args.self.now (view c.in-Some.item) x c.strays.result c.self.view_is c.in-Some.ensures.item holds c.strays.ensures in
    judged_strays c.args.self.now rest file items x (seen.0 ∙ c.if-strays.true) u

pub returns-then-time-self-clause-judged : goal.returns-then-time-self-clause-judged
returns-then-time-self-clause-judged c = λ rest file items x holds u.
    let seen = seen_is _ c.args.self.now (view c.in-Some.item) x c.strays.result c.self.view_is c.in-Some.ensures.item holds c.strays.ensures in
    judged_falls c.args.self.now rest file items x (seen.0 ∙ c.if-strays.false)
    (ap (λ (y : Entry). nat_lt y.time c.args.self.now.latest) (sym seen.1)
    ∙ ap (λ (s : Sight). nat_lt c.in-Some.item.time s.latest) (sym c.self.view_is)
    ∙ lt-ltb _ _ c.if-time-self.true) u

pub returns-clause-judged : goal.returns-clause-judged
returns-clause-judged c = λ rest file items x holds u.
    let seen = seen_is _ c.args.self.now (view c.in-Some.item) x c.strays.result c.self.view_is c.in-Some.ensures.item holds c.strays.ensures in
    let late = ap (λ (y : Entry). nat_lt y.time c.args.self.now.latest) (sym seen.1)
    ∙ ap (λ (s : Sight). nat_lt c.in-Some.item.time s.latest) (sym c.self.view_is)
    ∙ le-ltb _ _ c.if-time-self.false in
    let lends : Lends (judged c.args.self.now x.time) rest file items x =
    judged_lawful c.args.self.now rest file items x (seen.0 ∙ c.if-strays.false) late holds u in (
      x,
      subst (λ (s : Sight). Lends (judged s c.in-Some.item.time) rest file items x) (sym c.self.view_is)
          (subst (λ (y : Entry). Lends (judged c.args.self.now y.time) rest file items x) (sym seen.1) lends),
    )
