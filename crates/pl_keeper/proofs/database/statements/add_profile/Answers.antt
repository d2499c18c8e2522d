use Rattle.std.proofs.Common.{inl, inr, subst}
use Rattle.std.specs.Prelude.{IsTrue}
use Rattle.std.proofs.lemmas.Bool.{cases_Bool}
use Rattle.sqlite.specs.Held.{Held, state}
use Rattle.pl_keeper.proofs.States.{inside_open}
use Rattle.pl_keeper.proofs.Stores.{profile_stored}
use Rattle.pl_keeper.proofs.database.statements.add_profile.Goals as goal

pub returns-clause-seen : goal.returns-clause-seen
returns-clause-seen g c clean a w =
    profile_stored (state g.S.Store c.args.tx.now.conn.now) (state g.S.Store c.execute.new.self.conn.now) a c.args.bench.now c.args.name.now c.args.bytes.now c.execute.result w
    (rw (c.params-to_sql.ensures, c.params-to_sql-2.ensures, c.params-to_sql-3.ensures) at (c.execute.ensures.runs clean w.inside))

pub returns-clause-continues : goal.returns-clause-continues
returns-clause-continues g c = record {
  clean = c.execute.ensures.survives.clean;
  was_open = λ clean on. elim (cases_Bool (state g.S.Store c.args.tx.now.conn.now).in_transaction) [
    | inl inside ↦ inside_open _ _ (state g.S.Store c.args.tx.now.conn.now) (state g.S.Store c.execute.new.self.conn.now) c.execute.result (c.execute.ensures.runs clean inside) on
    | inr outside ↦ subst (λ (h : Held _). IsTrue (state g.S.Store h).is_open) (c.execute.ensures.ended outside).1 on
  ];
}
