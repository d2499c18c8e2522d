use Rattle.pl_web.proofs.Growing.{grows, grows_then}
use Rattle.pl_web.proofs.laws.rows_stay.Goals as goal

pub returns-clause-one : goal.returns-clause-one
returns-clause-one c = grows

pub returns-clause-more : goal.returns-clause-more
returns-clause-more c = grows_then
