use Rattle.std.proofs.Common.{◌≡◌, ◌-◌, ◌<◌, suc, length, arith, rules}
use Rattle.pl_io.proofs.MemFiles.{file_in-newest, name_at-named}
use Rattle.pl_io.proofs.memory.file.newest.Goals as goal

pub returns-then-eq-clause-found : goal.returns-then-eq-clause-found
returns-then-eq-clause-found c =
    let k = c.loop-k.k - 1 in
    let inside : k < length c.args.files.now = omega arith in
    let next : c.loop-k.k ≡ suc k = omega arith in
    file_in-newest c.args.files.now k c.args.name.now c.index-files-k.result inside
    (rw next at c.loop-k.invariant) (search rules)

pub returns-then-eq-clause-named : goal.returns-then-eq-clause-named
returns-then-eq-clause-named c =
    name_at-named c.args.files.now (c.loop-k.k - 1) c.args.name.now c.index-files-k.result (omega arith) (search rules)
