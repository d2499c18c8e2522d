use Rattle.std.proofs.Common.{refl, Some, ap, ◌∙◌, sym, subst}
use Rattle.pl_index.specs.Table.{entries}
use Rattle.pl_pair.specs.History.{request_id}
use Rattle.pl_pair.specs.Pairs.{IsInRange, IsOpen, Kept, StandsFor, key_of}
use Rattle.pl_pair.proofs.Steps.{is-some, open-step, opened-is, opened_by, put-request, stands-request, step-put}
use Rattle.pl_pair.proofs.pairs.Pairs.request_into.Goals as goal

pub invariant_of-self : goal.invariant_of-self
invariant_of-self g c =
    let id = request_id c.args.dir (g.P.Packet.fields c.args.tlp.now) in
    let opened = opened_by (g.P.Packet.fields c.args.tlp.now) c.args.at in
    let put = put-request c.self.inside.table c.put.new.self c.self.inside.torn c.args.self.now c.put.result c.key.result id c.request_of.result (g.P.Packet.fields c.args.tlp.now) c.args.at c.self.view_is
    (c.key.ensures ∙ ap key_of c.of_request-id.ensures.id) c.request_of.ensures c.requires.room c.put.ensures.refused.0 c.put.ensures.put in (
      c.put.ensures.room ∙ c.self.invariant.0,
      open-step (entries c.self.inside.table) (entries c.put.new.self) (key_of id) (Some opened) (step-put _ _ _ _ put)
          (λ other e. is-some opened other IsOpen (opened-is _ _ c.requires.needs c.requires.fits) e) c.self.invariant.1,
    )

pub returns-clause-stands : goal.returns-clause-stands
returns-clause-stands g c = λ past stands.
    let id = request_id c.args.dir (g.P.Packet.fields c.args.tlp.now) in
    let opened = opened_by (g.P.Packet.fields c.args.tlp.now) c.args.at in
    let put = put-request c.self.inside.table c.put.new.self c.self.inside.torn c.args.self.now c.put.result c.key.result id c.request_of.result (g.P.Packet.fields c.args.tlp.now) c.args.at c.self.view_is
    (c.key.ensures ∙ ap key_of c.of_request-id.ensures.id) c.request_of.ensures c.requires.room c.put.ensures.refused.0 c.put.ensures.put in
    stands-request (record { table = c.self.inside.table; torn = c.self.inside.torn })
    (record { table = c.put.new.self; torn = c.self.inside.torn }) c.args.dir (g.P.Packet.fields c.args.tlp.now) c.args.at past
    (subst IsInRange c.of_request-id.ensures.id c.of_request-id.ensures.range) put refl
    (subst (λ (pairs : Kept). StandsFor pairs past) (sym c.self.view_is) stands)
