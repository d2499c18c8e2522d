use Rattle.std.proofs.Common.{ap, ◌∙◌, sym, subst}
use Rattle.pl_capture.specs.Entry.{view as entry}
use Rattle.pl_form.proofs.Headers.{view_has_header}
use Rattle.pl_form.specs.Verdicts.{HasHeaderIfWhole}
use Rattle.pl_tlp.specs.Fields.{view_of}
use Rattle.pl_engine.proofs.Taken.{taken-as}
use Rattle.pl_engine.proofs.parts.Parts.take.Goals as goal

pub take_whole-requires-clause-header : goal.take_whole-requires-clause-header
take_whole-requires-clause-header c =
    subst HasHeaderIfWhole (sym c.in-Whole.ensures.outcome) (view_has_header c.tlp_of.result.now)

pub returns-in-Whole-clause-judges : goal.returns-in-Whole-clause-judges
returns-in-Whole-clause-judges c = λ past stands at.
    c.take_whole.ensures.judges past stands at
    (taken-as c.args.profile.now past (entry c.args.item.now) c.args.self.now.lanes c.args.arrived
    c.args.place c.is_full_for.result c.is_sure-sure.result _ c.args.at c.requires.kind
    c.requires.arrived c.requires.place c.requires.taken stands.lanes c.requires.ready.lanes
    c.is_full_for.ensures.past c.if-is_full_for.false c.is_sure-sure.ensures.past
    (c.in-Whole.ensures.outcome ∙ ap view_of c.tlp_of.ensures.bytes))

pub returns-in-Undefined-clause-judges : goal.returns-in-Undefined-clause-judges
returns-in-Undefined-clause-judges c = λ past stands at.
    c.take_unread.ensures.judged past _ stands at
    (taken-as c.args.profile.now past (entry c.args.item.now) c.args.self.now.lanes c.args.arrived
    c.args.place c.is_full_for.result c.is_sure-sure.result _ c.args.at c.requires.kind
    c.requires.arrived c.requires.place c.requires.taken stands.lanes c.requires.ready.lanes
    c.is_full_for.ensures.past c.if-is_full_for.false c.is_sure-sure.ensures.past
    (c.in-Undefined.ensures.outcome ∙ ap view_of c.tlp_of.ensures.bytes))

pub returns-in-WrongSize-clause-judges : goal.returns-in-WrongSize-clause-judges
returns-in-WrongSize-clause-judges c = λ past stands at.
    c.take_unread-in-WrongSize.ensures.judged past _ stands at
    (taken-as c.args.profile.now past (entry c.args.item.now) c.args.self.now.lanes c.args.arrived
    c.args.place c.is_full_for.result c.is_sure-sure.result _ c.args.at c.requires.kind
    c.requires.arrived c.requires.place c.requires.taken stands.lanes c.requires.ready.lanes
    c.is_full_for.ensures.past c.if-is_full_for.false c.is_sure-sure.ensures.past
    (c.in-WrongSize.ensures.outcome ∙ ap view_of c.tlp_of.ensures.bytes))
