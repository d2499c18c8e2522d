use Rattle.std.proofs.Common.{◌≡◌, ◌+◌, ◌-◌, List, ℕ, ◌++◌, length, take, ap, ◌∙◌, arith}
use Rattle.std.proofs.lemmas.List.{take_all}
use Rattle.pl_crc.proofs.Lengths.{length-crc32_of}
use Rattle.pl_make.proofs.Framing.{front_put}
use Rattle.pl_make.proofs.packets.append_lcrc.Goals as goal

pub returns : goal.returns
returns c =
    let lcrc = c.copy_from_slice.ensures.after ∙ c.crc32-lcrc.ensures in
    let four : length c.copy_from_slice.new.self ≡ 4 = ap length lcrc ∙ length-crc32_of _ in
    let room = c.told-out in
    front_put c.args.size 4 (c.args.size + 4 - c.args.size) c.args.out.now
    c.copy_from_slice.new.self (omega arith) (omega arith)
    ∙ ap (λ (t : List ℕ). take c.args.size c.args.out.now ++ t)
    (take_all 4 c.copy_from_slice.new.self (omega arith) ∙ lcrc)
