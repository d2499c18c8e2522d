-- The fields of a TLP that stay in its bytes.
use Rattle.pl_tlp.specs.declared.captured.Captured.{Captured}
use Rattle.pl_tlp.specs.declared.captured.Seen.{Seen}
use Rattle.pl_tlp.specs.declared.captured.Seen.TheVariants as seen
use Rattle.pl_tlp.specs.Fields.{Fields, Outcome, Whole, Undefined, WrongSize, fields_of}

abbrev pub captured_fields : Captured → Fields
captured_fields x = fields_of x.kind x.prefixes.now x.bytes.now

-- what is told of the bytes
abbrev pub seen_outcome : Seen → Outcome
seen_outcome (seen.Whole x) = Whole (captured_fields x)
seen_outcome seen.Undefined = Undefined
seen_outcome seen.WrongSize = WrongSize
