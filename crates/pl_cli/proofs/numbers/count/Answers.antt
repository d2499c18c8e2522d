use Rattle.std.proofs.Common.{arith}
use Rattle.pl_cli.proofs.Trials.{out_of_range}
use Rattle.pl_cli.proofs.numbers.count.Goals.{else-count-ge1-via-then-count-ge1+else-count-le-MOST_ROUNDS, else-count-ge1-via-else-count-ge1}
use Rattle.pl_cli.proofs.numbers.count.Goals as goal

pub returns-else-count-ge1 : goal.returns-else-count-ge1
returns-else-count-ge1 c =
    out_of_range c.args.word.now c.in-Some.count c.in-Some.ensures (omega arith)
    (λ some most. elim c.else-count-ge1.branch [ else-count-ge1-via-then-count-ge1+else-count-le-MOST_ROUNDS w ↦ omega (arith, most, w.if-count-le-MOST_ROUNDS.false) | else-count-ge1-via-else-count-ge1 w ↦ omega (arith, some, w.if-count-ge1.false) ])
