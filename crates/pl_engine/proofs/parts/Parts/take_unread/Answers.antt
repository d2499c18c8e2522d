use Rattle.std.proofs.Common.{◌++◌, List, ap, ◌∙◌, sym, subst}
use Rattle.pl_capture.specs.Entry.{view as entry}
use Rattle.pl_credit.specs.Credits as credit
use Rattle.pl_credit.specs.Link.{LinkEvent}
use Rattle.pl_form.specs.Verdicts.{formation_verdicts}
use Rattle.pl_pair.specs.Pairs as pair
use Rattle.pl_pair.specs.History.{Event}
use Rattle.pl_tlp.specs.Captured.{seen_outcome}
use Rattle.pl_engine.specs.Verdicts.{sequence_verdicts}
use Rattle.pl_engine.proofs.Taken.{unread-blocked, unread-credits, unread-pairs, unread-verdicts}
use Rattle.pl_engine.proofs.parts.Parts.take_unread.Goals as goal

pub returns-clause-judged : goal.returns-clause-judged
returns-clause-judged c = λ past sure stands at how.
    let x = entry c.args.item.now in
    let profile = c.args.profile.now in
    let packet = seen_outcome c.args.seen in
    record {
      allowed = unread-blocked past x c.requires.slot.kind profile packet sure
          how.seen how.certain how.taken c.requires.unread how.slot;
      verdicts = c.judge_seen_into.ensures.verdicts
          ∙ ap (λ first. first ++ formation_verdicts profile x.dir packet c.args.at)
          (c.tlp.ensures.verdicts past stands.lanes at)
          ∙ ap (λ n. sequence_verdicts past x ++ formation_verdicts profile x.dir packet n) at
          ∙ sym (unread-verdicts past x c.requires.slot.kind profile packet sure
          how.seen how.certain how.taken c.requires.unread);
      stands = record {
        lanes = c.tlp.ensures.stands past stands.lanes at;
        credits = subst (λ (events : List LinkEvent).
            credit.StandsFor c.args.self.now.credits events)
            (sym (unread-credits past x c.requires.slot.kind profile packet sure
            how.seen how.certain how.taken c.requires.unread)) stands.credits;
        pairs = subst (λ (events : List Event). pair.StandsFor c.args.self.now.pairs events)
            (sym (unread-pairs past x c.requires.slot.kind profile packet sure
            how.seen how.certain how.taken c.requires.unread)) stands.pairs;
      };
    }
