use Rattle.std.proofs.Common.{◌≡◌, take}
use Rattle.std.specs.Prelude.{map}
use Rattle.pl_make.proofs.name.OpenName.of.Given as goal

abbrev pub invariant-loop-byte : goal.invariant-loop-byte
invariant-loop-byte l = map (λ pair. pair.0) l.bytes.items ≡ take l.byte-index l.byte-items
