use Rattle.std.proofs.Common.{◌≡◌, List, ap, ◌∙◌, sym, subst}
use Rattle.pl_base.specs.declared.link.Body.{Body}
use Rattle.pl_capture.specs.Entry.{view as entry}
use Rattle.pl_credit.specs.Credits as credit
use Rattle.pl_credit.specs.Link.{LinkEvent}
use Rattle.pl_pair.specs.Pairs as pair
use Rattle.pl_pair.specs.History.{Event}
use Rattle.pl_seq.specs.History.{place_after}
use Rattle.pl_engine.specs.Events.{lane_events}
use Rattle.pl_engine.specs.Packets.{sequence_number}
use Rattle.pl_engine.proofs.Taken.{stands-lane, not-taken, not-taken-blocked, not-taken-credits}
use Rattle.pl_engine.proofs.Taken.{not-taken-pairs, not-taken-verdicts}
use Rattle.pl_engine.proofs.parts.Parts.tlp.Goals as goal

pub returns-clause-judges : goal.returns-clause-judges
returns-clause-judges c = λ past stands at.
    let x = entry c.args.item.now in
    let profile = c.args.profile.now in
    let place = c.place-place.ensures.past _ (stands-lane c.args.item.now.dir _ past stands.lanes)
    in
    let how = ap (λ (how : Body). place_after (lane_events x.dir past) (sequence_number x.body) how)
    c.body-arrived.ensures in
    let dropped = not-taken past x c.requires.kind c.place-place.result (sym (place ∙ how))
    (sym c.is_taken.ensures ∙ c.if-is_taken.false) in
    record {
      allowed = not-taken-blocked past x c.requires.kind profile dropped;
      verdicts = c.tlp.ensures.verdicts past stands.lanes at
          ∙ sym (not-taken-verdicts past x c.requires.kind profile dropped);
      stands = record {
        lanes = c.tlp.ensures.stands past stands.lanes at;
        credits = subst (λ (events : List LinkEvent).
            credit.StandsFor c.args.self.now.credits events)
            (sym (not-taken-credits past x c.requires.kind profile dropped)) stands.credits;
        pairs = subst (λ (events : List Event). pair.StandsFor c.args.self.now.pairs events)
            (sym (not-taken-pairs past x c.requires.kind profile dropped)) stands.pairs;
      };
    }

pub returns-clause-arrived : goal.returns-clause-arrived
returns-clause-arrived c = λ past stands.
    let x = entry c.args.item.now in (
      c.requires.kind,
      sym c.body-arrived.ensures,
      ap (λ (how : Body). place_after (lane_events x.dir past) (sequence_number x.body) how)
          (sym c.body-arrived.ensures)
          ∙ sym (c.place-place.ensures.past _
          (stands-lane c.args.item.now.dir _ past stands.lanes)),
    )
