use Rattle.std.proofs.Common.{◌≡◌, ◌++◌, List, Some, ap, ◌∙◌, sym, subst}
use Rattle.pl_capture.specs.Entry.{view as entry}
use Rattle.pl_credit.specs.Credits as credit
use Rattle.pl_credit.specs.Link.{LinkEvent, credit_verdicts}
use Rattle.pl_form.specs.Verdicts.{formation_verdicts}
use Rattle.pl_pair.specs.Pairs as pair
use Rattle.pl_pair.specs.History.{Event}
use Rattle.pl_pair.specs.Rules.{pair_verdicts}
use Rattle.pl_tlp.specs.Fields.{Whole}
use Rattle.pl_engine.specs.Events.{number_after, with_event, spending_of}
use Rattle.pl_engine.specs.Events.{credit_events, transaction_of, pair_events}
use Rattle.pl_engine.specs.Verdicts.{broken_by, sequence_verdicts, verdicts_at}
use Rattle.pl_engine.proofs.Taken.{joined, taken-credits, taken-pairs, taken-verdicts}
use Rattle.pl_engine.proofs.Taken.{taken-blocked}
use Rattle.pl_engine.proofs.parts.Parts.take_whole.Goals as goal

pub returns-in-Some-clause-judges : goal.returns-in-Some-clause-judges
returns-in-Some-clause-judges g c = λ past stands at how.
    let x = entry c.args.item.now in
    let packet = Whole (g.P.Packet.fields c.args.tlp.now) in
    taken-blocked past x c.requires.slot.kind c.args.profile.now packet c.args.sure
    how.seen how.certain how.taken how.slot
    ∙ sym (c.refusal.ensures.past _ stands.pairs) ∙ c.in-Some.is

pub returns-clause-judges : goal.returns-clause-judges
returns-clause-judges g c = λ past stands at how.
    let x = entry c.args.item.now in
    let profile = c.args.profile.now in
    let fields = g.P.Packet.fields c.args.tlp.now in
    let packet = Whole fields in
    record {
      allowed = taken-blocked past x c.requires.slot.kind profile packet c.args.sure
          how.seen how.certain how.taken how.slot
          ∙ sym (c.refusal.ensures.past _ stands.pairs) ∙ c.in_default.is;
      verdicts = joined c.tlp.new.found.items c.spend.new.found.items
          c.judge_whole_into.new.found.items
          c.transact.new.found.items (verdicts_at profile past x)
          (sequence_verdicts past x)
          (broken_by (credit_verdicts profile (credit_events profile past))
          (spending_of profile x.dir (Some fields) (number_after past)))
          (formation_verdicts profile x.dir packet (number_after past))
          (broken_by (pair_verdicts profile (pair_events past))
          (transaction_of x.dir c.args.sure (Some fields) (number_after past)))
          (c.tlp.ensures.verdicts past stands.lanes at)
          (subst (λ n. c.spend.new.found.items ≡ c.tlp.new.found.items
          ++ broken_by (credit_verdicts profile (credit_events profile past))
          (spending_of profile x.dir (Some fields) n))
          at (c.spend.ensures.verdicts _ stands.credits))
          (subst (λ n. c.judge_whole_into.new.found.items ≡ c.spend.new.found.items
          ++ formation_verdicts profile x.dir packet n) at c.judge_whole_into.ensures.verdicts)
          (subst (λ n. c.transact.new.found.items ≡ c.judge_whole_into.new.found.items
          ++ broken_by (pair_verdicts profile (pair_events past))
          (transaction_of x.dir c.args.sure (Some fields) n))
          at (c.transact.ensures.verdicts _ stands.pairs))
          (taken-verdicts past x c.requires.slot.kind profile packet c.args.sure
          how.seen how.certain how.taken);
      stands = record {
        lanes = c.tlp.ensures.stands past stands.lanes at;
        credits = subst (λ (events : List LinkEvent). credit.StandsFor c.spend.new.credits events)
            (ap (λ n. with_event (spending_of profile x.dir (Some fields) n)
            (credit_events profile past)) at
            ∙ sym (taken-credits past x c.requires.slot.kind profile packet c.args.sure
            how.seen how.certain how.taken))
            (c.spend.ensures.stands _ stands.credits);
        pairs = subst (λ (events : List Event). pair.StandsFor c.transact.new.pairs events)
            (ap (λ n. with_event (transaction_of x.dir c.args.sure (Some fields) n)
            (pair_events past)) at
            ∙ sym (taken-pairs past x c.requires.slot.kind profile packet c.args.sure
            how.seen how.certain how.taken))
            (c.transact.ensures.stands _ stands.pairs);
      };
    }

pub returns-clause-ready : goal.returns-clause-ready
returns-clause-ready g c = record {
  lanes = c.tlp.ensures.ready _ c.requires.ready.lanes;
  credits = c.spend.ensures.profile ∙ c.requires.ready.credits;
  pairs = c.transact.ensures.room ∙ c.requires.ready.pairs;
}
