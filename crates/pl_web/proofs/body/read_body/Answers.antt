use Rattle.std.proofs.Common.{◌≡◌, take, drop, rules, arith, length-take-le}
use Rattle.std.proofs.lemmas.List.{take-append-drop}
use Rattle.pl_web.proofs.body.read_body.Goals as goal

pub returns-in-Ok-clause-reads : goal.returns-in-Ok-clause-reads
returns-in-Ok-clause-reads g c =
    let n = c.args.size in
    let have = c.args.have.now in
    let front : c.in-Ok.body.items ≡ take n have = search rules in (
      rw front (length-take-le n have (omega arith)),
      drop n have,
      rw (front, take-append-drop),
    )
