use Rattle.std.proofs.Common.{◌≡◌, length, take, arith}
use Rattle.std.proofs.lemmas.List.{length-take-le}
use Rattle.pl_make.proofs.items.put_tlp.Goals as goal

pub put_item-requires-clause-lawful : goal.put_item-requires-clause-lawful
put_item-requires-clause-lawful c =
    let size : length (take c.frame-size.result c.frame-size.new.out) ≡ c.frame-size.result =
    length-take-le c.frame-size.result c.frame-size.new.out (omega arith) in
    record {
      tlp = λ e. (omega arith, omega arith);
      dllp = λ e. absurd (let f = e in cc);
      link_down = λ e. absurd (let f = e in cc);
      gap = λ e. absurd (let f = e in cc);
      time = omega arith;
    }
