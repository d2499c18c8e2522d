use Rattle.sqlite.specs.Held.{state}
use Rattle.std.proofs.Common.{ap, ◌∙◌}
use Rattle.std.specs.Prelude.{not}
use Rattle.pl_keeper.proofs.Found.{both_found, profiles_found, none_found}
use Rattle.pl_keeper.proofs.database.SqliteKeeper.new.Goals as goal

pub returns-clause-both : goal.returns-clause-both
returns-clause-both g c idle = both_found (state g.S.Store c.args.db) c.schema.ensures.live idle (c.is_autocommit.ensures.settled (c.is_autocommit.ensures.value ∙ ap not idle.autocommit) idle.is_open)

pub returns-clause-profiles : goal.returns-clause-profiles
returns-clause-profiles g c idle = profiles_found (state g.S.Store c.args.db) c.schema.ensures.live idle (c.is_autocommit.ensures.settled (c.is_autocommit.ensures.value ∙ ap not idle.autocommit) idle.is_open)

pub returns-clause-none : goal.returns-clause-none
returns-clause-none g c idle = none_found (state g.S.Store c.args.db) c.schema.ensures.live idle (c.is_autocommit.ensures.settled (c.is_autocommit.ensures.value ∙ ap not idle.autocommit) idle.is_open)
