use Rattle.std.proofs.Common.{◌+◌, subst, sym}
use Rattle.pl_excerpt.specs.Replaying.{AreReady}
use Rattle.pl_excerpt.proofs.witnesses.Witnesses.select.Goals as goal

pub returns-in-LinkDown-clause-ready : goal.returns-in-LinkDown-clause-ready
returns-in-LinkDown-clause-ready c = λ room ready.
    subst (λ lanes. AreReady room (c.args.at + 1) lanes) (sym c.other-in-LinkDown.ensures.lanes)
    (c.reset.ensures.ready room c.args.at ready)

pub returns-in-Gap-clause-ready : goal.returns-in-Gap-clause-ready
returns-in-Gap-clause-ready c = λ room ready.
    subst (λ lanes. AreReady room (c.args.at + 1) lanes) (sym c.other-in-Gap.ensures.lanes)
    (c.gap.ensures.ready room c.args.at ready)
