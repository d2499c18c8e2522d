use Rattle.std.proofs.Common.{◌≡◌, drop}
use Rattle.std.specs.Prelude.{map}
use Rattle.httparse.specs.Spans.{header_bytes}
use Rattle.pl_head.specs.Fields.{with_fields}
use Rattle.pl_head.specs.Form.{form_of}
use Rattle.pl_head.proofs.form.read_form.Given as goal

abbrev pub invariant-loop-field : goal.invariant-loop-field
invariant-loop-field l =
    with_fields l.form (map (header_bytes l.buf) (drop l.field-index l.fields))
    ≡ form_of (map (header_bytes l.buf) l.fields)
