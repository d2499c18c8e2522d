use Rattle.std.proofs.Common.{◌≡◌, map, take}
use Rattle.std.specs.Prelude.{filter, bytes_eq}
use Rattle.pl_keeper.specs.Listing.{line_of}
use Rattle.pl_keeper.proofs.memory.rows.lines.Given as goal

abbrev pub invariant-loop-held : goal.invariant-loop-held
invariant-loop-held l = l.rows.items ≡ map line_of (filter (λ c. bytes_eq c.bench l.bench) (take l.held-index l.captures))
