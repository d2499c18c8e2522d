use Rattle.sqlite.specs.Held.{state}
use Rattle.sqlite.specs.Steps.{over_memory}
use Rattle.pl_keeper.specs.Archive.{empty_archive}
use Rattle.pl_keeper.proofs.Creates.{empty_settled}
use Rattle.pl_keeper.proofs.database.open_in_memory.Goals as goal

pub returns-clause-tells : goal.returns-clause-tells
returns-clause-tells c = c.new.ensures.tells empty_archive (empty_settled (state over_memory c.in_ok-db.db) c.in_ok-db.ensures.empty)
