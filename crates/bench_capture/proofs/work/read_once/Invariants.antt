use Rattle.std.proofs.Common.{length}
use Rattle.bench_capture.proofs.work.read_once.Given as goal

abbrev pub decreases-records : goal.decreases-records
decreases-records l = length l.rest
