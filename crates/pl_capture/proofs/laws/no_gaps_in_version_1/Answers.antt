use Rattle.pl_capture.proofs.Gaps.{no_gaps_in_version_1}
use Rattle.pl_capture.proofs.laws.no_gaps_in_version_1.Goals as goal

pub returns : goal.returns
returns c = no_gaps_in_version_1
