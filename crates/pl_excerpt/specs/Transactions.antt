-- The transaction IDs that the second reading compares.
use Rattle.std.specs.Prelude.{Option, Some, None, if◌then◌else◌}
use Rattle.pl_base.specs.declared.link.Dir.{Dir}
use Rattle.pl_tlp.specs.Fields.{Fields}
use Rattle.pl_tlp.specs.Groups.{is_completion}
use Rattle.pl_pair.specs.History.{answered_id}
use Rattle.pl_pair.specs.declared.transaction.TransactionId.{TransactionId}
use Rattle.pl_excerpt.specs.declared.transaction.Transaction.{Transaction}

-- the transaction ID that the code keeps
abbrev pub id_of : Transaction → TransactionId
id_of t = record { dir = t.dir; requester = t.requester; tag = t.tag }

-- that of the request which a well-formed TLP answers
abbrev pub answered_if : Dir → Option Fields → Option TransactionId
answered_if dir None = None
answered_if dir (Some x) = if is_completion x.kind then Some (answered_id dir x) else None
