use Rattle.std.proofs.Common.{Some, ap, ◌∙◌}
use Rattle.sqlite.specs.Order.{column}
use Rattle.pl_keeper.specs.Settled.{body_of}
use Rattle.pl_keeper.specs.Puts.{compared}
use Rattle.pl_keeper.proofs.Firsts.{none_passing, one_passing, same_blob}
use Rattle.pl_keeper.proofs.database.found.put_over_profile.Goals as goal

pub returns-in_default : goal.returns-in_default
returns-in_default c xs same = rw (none_passing body_of xs c.args.rows.now same (rw c.in_default.is at c.in_ok-row.ensures.none))

pub returns : goal.returns
returns c xs same =
    let it = one_passing body_of xs c.args.rows.now c.in-Some.row.now same (rw c.in-Some.is at c.in_ok-row.ensures.one) in
    rw it.1 (ap Some (c.compared.ensures ∙ ap (λ b. compared b c.args.bytes.now) (same_blob (column c.in-Some.row.now 0) it.0.bytes c.in_ok-body_at.field-0.now (ap (λ r. column r 0) it.2) c.in_ok-body_at.ensures.value)))
