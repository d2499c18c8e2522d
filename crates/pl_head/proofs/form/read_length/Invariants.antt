use Rattle.std.proofs.Common.{◌≡◌, ◌^◌, ◌<◌, drop}
use Rattle.pl_head.specs.Form.{digits_after}
use Rattle.pl_head.proofs.form.read_length.Given as goal

abbrev pub invariant-loop-digit : goal.invariant-loop-digit
invariant-loop-digit l = record {
  same : digits_after l.number (drop l.digit-index l.value) ≡ digits_after 0 l.value;
  small : l.number < 10 ^ l.digit-index;
}
