use Rattle.std.proofs.Common.{◌≡◌, ℕ, ◌<◌, get_or, arith}
use Rattle.pl_engine.proofs.Crcs.{same_number}
use Rattle.pl_engine.proofs.state.is_crc.Goals as goal

pub returns : goal.returns
returns c =
    let small : (i : ℕ) → get_or c.args.bytes.now i 0 < 256 =
    λ i. omega (arith, c.type_inv.bytes i) in
    let smaller : (i : ℕ) → get_or c.args.crc.now i 0 < 256 =
    λ i. omega (arith, c.type_inv.crc i) in
    same_number c.args.bytes.now c.args.crc.now _ _ c.requires.bytes c.requires.crc small smaller
    c.from_le_bytes-sent.ensures c.from_le_bytes-right.ensures
