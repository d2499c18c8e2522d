use Rattle.pl_capture.proofs.Answered.{start_stands}
use Rattle.pl_capture.proofs.reader.Reader.new.Goals as goal

pub returns-clause-stands : goal.returns-clause-stands
returns-clause-stands c = start_stands
