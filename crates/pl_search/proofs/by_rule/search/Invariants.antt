use Rattle.std.proofs.Common.{◌≡◌, true, take}
use Rattle.pl_keeper.specs.Archive.{Archive}
use Rattle.pl_search.specs.Hits.{hits_over}
use Rattle.pl_search.specs.Steps.{Holds}
use Rattle.pl_search.proofs.Gathered.{keys}
use Rattle.pl_search.proofs.by_rule.search.Given as goal

abbrev pub invariant-loop-row : goal.invariant-loop-row
invariant-loop-row g l = record {
  holds : g.K.Keeper.lives l.keeper → (a : Archive) → g.K.Keeper.tells l.initial.keeper a
      → Holds (hits_over a l.bench l.rule (keys (take l.row-index l.row-items))) l.search;
  same : g.K.Keeper.lives l.keeper → (a : Archive) → g.K.Keeper.tells l.initial.keeper a
      → g.K.Keeper.tells l.keeper a;
  lived : g.K.Keeper.lives l.keeper → g.K.Keeper.lives l.initial.keeper;
  cause : g.K.Keeper.faults l.keeper ≡ g.K.Keeper.faults l.initial.keeper;
  sure : g.K.Keeper.sure l.initial.keeper ≡ true → g.K.Keeper.sure l.keeper ≡ true;
}
