use Rattle.std.proofs.Common.{arith}
use Rattle.pl_make.proofs.Dllps.{ack_placed, reserved_front}
use Rattle.pl_make.proofs.packets.is_ack.Goals as goal

pub returns : goal.returns
returns c =
    ack_placed c.args.number c.args.bytes.now c.requires.size
    (λ k. omega (arith, c.type_inv.bytes k)) c.requires.frame
    (reserved_front c.args.bytes.now c.requires.reserved)
