use Rattle.std.proofs.Common.{Some, ap}
use Rattle.pl_keeper.specs.Settled.{owner_and_body}
use Rattle.pl_keeper.proofs.Firsts.{none_passing, one_passing}
use Rattle.pl_keeper.proofs.database.found.put_over_capture.Goals as goal

pub returns-in_default : goal.returns-in_default
returns-in_default c xs same = rw (none_passing owner_and_body xs c.args.rows.now same (rw c.in_default.is at c.in_ok-row.ensures.none))

pub returns : goal.returns
returns c xs same =
    let it = one_passing owner_and_body xs c.args.rows.now c.in-Some.row.now same (rw c.in-Some.is at c.in_ok-row.ensures.one) in
    rw it.1 (ap Some (c.in_ok-compared_capture.ensures it.0 it.2))
