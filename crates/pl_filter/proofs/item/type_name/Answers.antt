use Rattle.std.proofs.Common.{◌∙◌, ap, sym}
use Rattle.pl_filter.specs.Items.{type_name}
use Rattle.pl_filter.proofs.TypeNames.{ack_name, nak_name, flow_name}
use Rattle.pl_filter.proofs.item.type_name.Goals as goal

pub returns-in-Ack : goal.returns-in-Ack
returns-in-Ack c = ack_name c.in-Ack.field-0 ∙ ap type_name (sym c.in-Ack.is)

pub returns-in-Nak : goal.returns-in-Nak
returns-in-Nak c = nak_name c.in-Nak.field-0 ∙ ap type_name (sym c.in-Nak.is)

pub returns-in-Flow : goal.returns-in-Flow
returns-in-Flow c = flow_name c.in-Flow.fc ∙ ap type_name (sym c.in-Flow.is)
