use Rattle.std.proofs.Common.{◌≡◌, ◌++◌, map, take}
use Rattle.pl_search.specs.Hits.{hit_of}
use Rattle.pl_search.proofs.found.Search.add.Given as goal

abbrev pub invariant-loop-verdict : goal.invariant-loop-verdict
invariant-loop-verdict l = record {
  total : l.self.total ≡ l.initial.self.total;
  found : l.self.found
      ≡ l.initial.self.found ++ map (hit_of l.key) (take l.verdict-index l.judged.verdicts.items);
}
