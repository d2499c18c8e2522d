use Rattle.std.proofs.Common.{◌≡◌, List, ℕ, ◌++◌, length, ap, ◌∙◌, arith}
use Rattle.byteorder.specs.Endian.{big_bytes}
use Rattle.pl_crc.specs.Remainder.{crc32_of}
use Rattle.pl_tlp.specs.Fields.{fields}
use Rattle.pl_make.specs.Packets.{framed, tlp_bytes}
use Rattle.pl_make.proofs.Framing.{behind_number}
use Rattle.pl_make.proofs.packets.frame.Goals as goal

pub returns-clause-bytes : goal.returns-clause-bytes
unfolding framed
returns-clause-bytes c =
    let number = c.copy_from_slice.new.self in
    let first : number ≡ big_bytes 2 c.args.number =
    c.copy_from_slice.ensures.after ∙ c.to_be_bytes.ensures in
    let tlp = tlp_bytes (fields c.args.tlp.now) in
    let two : length number ≡ 2 = ap length first in
    let inner = behind_number number tlp c.args.out.now c.write_tlp-size.new.out
    c.write_tlp-size.result two (omega arith) c.write_tlp-size.ensures.bytes in
    c.append_lcrc.ensures ∙ ap (λ (t : List ℕ). t ++ crc32_of t) inner
    ∙ ap (λ (t : List ℕ). t ++ tlp ++ crc32_of (t ++ tlp)) first
