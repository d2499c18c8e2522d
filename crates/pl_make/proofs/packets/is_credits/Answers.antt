use Rattle.std.proofs.Common.{arith}
use Rattle.pl_make.proofs.Dllps.{credit_placed}
use Rattle.pl_make.proofs.packets.is_credits.Goals as goal

pub returns : goal.returns
returns c = credit_placed c.args.fc.now c.args.bytes.now c.requires.size
    (λ k. omega (arith, c.type_inv.bytes k)) c.requires.frame
