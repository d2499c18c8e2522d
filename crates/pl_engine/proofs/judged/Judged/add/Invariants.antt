use Rattle.std.proofs.Common.{◌≡◌, ◌+◌, ◌-◌, ◌++◌, length, take}
use Rattle.pl_engine.specs.Wanted.{wanted_of}
use Rattle.pl_engine.proofs.judged.Judged.add.Given as goal

abbrev pub invariant-loop-verdict : goal.invariant-loop-verdict
invariant-loop-verdict l = record {
  items : l.self.items ≡ l.initial.self.items;
  total : l.self.total
      ≡ l.initial.self.total + length (wanted_of l.wanted (take l.verdict-index l.found));
  verdicts : l.self.verdicts.items ≡ l.initial.self.verdicts.items
      ++ take (l.initial.self.most - length l.initial.self.verdicts.items)
      (wanted_of l.wanted (take l.verdict-index l.found));
  most : l.self.most ≡ l.initial.self.most;
}
