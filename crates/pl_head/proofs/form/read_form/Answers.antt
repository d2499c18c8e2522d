use Rattle.std.specs.Prelude.{map}
use Rattle.httparse.specs.Spans.{header_bytes}
use Rattle.pl_head.proofs.Forms.{with_all_fields}
use Rattle.pl_head.proofs.form.read_form.Goals as goal

pub loop-field-init : goal.loop-field-init
loop-field-init c = with_all_fields (map (header_bytes c.args.buf.now) c.args.fields.now)
