use Rattle.std.proofs.Common.{rules}
use Rattle.std.specs.Ordering.{nat_cmp, is_lt}
use Rattle.std.specs.Cmp.Lexicographic.{slice_cmp}
use Rattle.std.proofs.lemmas.List.Sorted.{IsPermutation-trans, ranks_by, answers_always}
use Rattle.std.proofs.lemmas.Cmp.{nat_list_cmp_total}
use Rattle.pl_keeper.specs.Listing.{Line}
use Rattle.pl_keeper.proofs.memory.rows.sorted_lines.Goals as goal

pub returns-clause-listed : goal.returns-clause-listed
returns-clause-listed c = IsPermutation-trans _ _ _ c.in_ok-rows.ensures c.sort_unstable_by.ensures.permutation

pub returns-clause-ascending : goal.returns-clause-ascending
returns-clause-ascending c =
    c.sort_unstable_by.ensures.sorted (λ (a b : Line). is_lt (slice_cmp nat_cmp a.key b.key)) (ranks_by nat_list_cmp_total (λ (line : Line). line.key))
    (answers_always _ _ _ (λ f a r f' called. search rules))
