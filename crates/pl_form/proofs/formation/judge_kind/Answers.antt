use Rattle.std.proofs.Common.{append_assoc}
use Rattle.pl_form.proofs.ByKind.{atomics-alone}
use Rattle.pl_form.proofs.formation.judge_kind.Goals as goal

pub returns-in-FetchAdd-clause-items : goal.returns-in-FetchAdd-clause-items
returns-in-FetchAdd-clause-items g c =
    let is = rw c.kind.ensures at c.in-FetchAdd.is in
    let alone = atomics-alone c.args.profile.now c.args.dir (g.P.Packet.fields c.args.tlp.now) c.args.at is in
    rw (c.judge_atomic.ensures.items, c.judge_operands.ensures.items, alone) (append_assoc c.args.found.now.items _ _)
