use Rattle.std.proofs.Common.{◌≡◌, Some, ap, ◌∙◌, rules}
use Rattle.sqlite.specs.Order.{column}
use Rattle.pl_keeper.specs.Settled.{body_of}
use Rattle.pl_keeper.proofs.Firsts.{none_passing, one_passing, same_blob}
use Rattle.pl_keeper.proofs.database.found.found_profile.Goals as goal

pub returns-in_default-clause-found : goal.returns-in_default-clause-found
returns-in_default-clause-found c xs same = rw (none_passing body_of xs c.args.rows.now same (rw c.in_default.is at c.in_ok-row.ensures.none))

pub returns-clause-found : goal.returns-clause-found
returns-clause-found c xs same =
    let it = one_passing body_of xs c.args.rows.now c.in-Some.row.now same (rw c.in-Some.is at c.in_ok-row.ensures.one) in
    let copied : c.in_ok-to_vec.field-0.items ≡ c.in_ok-body_at.field-0.now = search rules in
    rw it.1 (ap Some (copied ∙ same_blob (column c.in-Some.row.now 0) it.0.bytes c.in_ok-body_at.field-0.now (ap (λ r. column r 0) it.2) c.in_ok-body_at.ensures.value))
