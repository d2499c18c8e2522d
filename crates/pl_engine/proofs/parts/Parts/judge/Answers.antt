use Rattle.std.proofs.Common.{List, sym, subst}
use Rattle.pl_base.specs.declared.verdict.Verdict.{Verdict}
use Rattle.pl_capture.specs.Entry.{view as entry}
use Rattle.pl_engine.specs.Judges.{IsJudged}
use Rattle.pl_engine.proofs.parts.Parts.judge.Goals as goal

pub returns-in-LinkDown-clause-judges : goal.returns-in-LinkDown-clause-judges
returns-in-LinkDown-clause-judges c = λ past stands at.
    let x = entry c.args.item.now in
    subst (λ (found : List Verdict). IsJudged c.args.profile.now past x c.link_down.new.self found)
    (sym c.requires.none)
    (c.link_down.ensures.judged c.args.profile.now past x c.in-LinkDown.is)

pub returns-in-LinkDown-clause-ready : goal.returns-in-LinkDown-clause-ready
returns-in-LinkDown-clause-ready c = c.link_down.ensures.ready _ _ c.requires.ready

pub returns-in-Gap-clause-judges : goal.returns-in-Gap-clause-judges
returns-in-Gap-clause-judges c = λ past stands at.
    let x = entry c.args.item.now in
    subst (λ (found : List Verdict). IsJudged c.args.profile.now past x c.gap.new.self found)
    (sym c.requires.none)
    (c.gap.ensures.judged c.args.profile.now past x c.in-Gap.is)

pub returns-in-Gap-clause-ready : goal.returns-in-Gap-clause-ready
returns-in-Gap-clause-ready c = c.gap.ensures.ready _ _ c.requires.ready
