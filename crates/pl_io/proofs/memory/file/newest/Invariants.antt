use Rattle.std.proofs.Common.{◌≡◌, drop, None}
use Rattle.pl_io.specs.MemFiles.{file_in}
use Rattle.pl_io.proofs.memory.file.newest.Given as goal

abbrev pub invariant-loop-k : goal.invariant-loop-k
invariant-loop-k l = file_in (drop l.k l.files) l.name ≡ None
