use Rattle.std.proofs.Common.{◌+◌, ◌*◌}
use Rattle.pl_filter.proofs.parser.+parser.Given as goal

abbrev pub decreases-filter_at : goal.decreases-filter_at
decreases-filter_at l = 3 * l.left

abbrev pub decreases-negation_at : goal.decreases-negation_at
decreases-negation_at l = 3 * l.left + 1

abbrev pub decreases-pair_at : goal.decreases-pair_at
decreases-pair_at l = 3 * l.left + 1

abbrev pub decreases-operation_at : goal.decreases-operation_at
decreases-operation_at l = 3 * l.left + 2
