use Rattle.std.proofs.Common.{sym, subst}
use Rattle.sqlite.specs.Held.{state}
use Rattle.pl_keeper.specs.Rows.{HoldsOnce}
use Rattle.pl_keeper.specs.Settled.{Settled}
use Rattle.pl_keeper.proofs.Creates.{any_once}
use Rattle.pl_keeper.proofs.database.SqliteKeeper.prepare.Goals as goal

pub returns-in_err-make_tables-clause-made : goal.returns-in_err-make_tables-clause-made
returns-in_err-make_tables-clause-made g c lives a s =
    subst (λ b. Settled (HoldsOnce b) (state g.S.Store c.make_tables.new.db) a) (sym c.if-not-self.true)
    (c.in_err-make_tables.ensures.err lives a (any_once c.args.self.now.made (state g.S.Store c.args.self.now.db) a s))

pub returns-in_ok-make_tables-clause-made : goal.returns-in_ok-make_tables-clause-made
returns-in_ok-make_tables-clause-made g c lives a s = c.in_ok-make_tables.ensures.made lives a (any_once c.args.self.now.made (state g.S.Store c.args.self.now.db) a s)
