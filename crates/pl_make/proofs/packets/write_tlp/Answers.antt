use Rattle.std.proofs.Common.{arith}
use Rattle.pl_tlp.specs.Fields.{fields}
use Rattle.pl_make.proofs.Placing.{take_bytes}
use Rattle.pl_make.proofs.Tlps.{tlp_placed}
use Rattle.pl_make.proofs.packets.write_tlp.Goals as goal

pub returns-clause-bytes : goal.returns-clause-bytes
returns-clause-bytes c =
    let written = rw c.in-Some.is at c.encode_into.ensures in
    tlp_placed (fields c.args.tlp.now) _ c.requires.plain
    (take_bytes _ c.encode_into.new.out (λ k. omega (arith, c.type_inv.out k))) written.2
