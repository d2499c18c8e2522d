use Rattle.std.proofs.Common.{[], ◌∷◌}
use Rattle.sqlite.specs.declared.types.Value.TheVariants.{Text}
use Rattle.sqlite.specs.Held.{state}
use Rattle.pl_keeper.specs.Schema.{both_tables}
use Rattle.pl_keeper.specs.Rows.{Holds}
use Rattle.pl_keeper.proofs.Texts.{profile_text, profile_asks}
use Rattle.pl_keeper.proofs.Lookups.{finds_profile}
use Rattle.pl_keeper.proofs.States.{if_ok, settled_stays, outside_same, query_open}
use Rattle.pl_keeper.proofs.database.statements.profile_rows.Goals as goal

pub returns-clause-rows : goal.returns-clause-rows
returns-clause-rows g c lives a s =
    if_ok c.query_all.result _ _ (λ rows. finds_profile (state g.S.Store c.args.db.now) (state g.S.Store c.query_all.new.self) a s.has c.args.bench.now rows.items c.args.name.now)
    (rw (c.params-to_sql.ensures, c.params-to_sql-2.ensures) at (c.query_all.ensures.ok lives.clean))

pub returns-clause-kept : goal.returns-clause-kept
returns-clause-kept g c lives a s =
    let old = state g.S.Store c.args.db.now in
    let new = state g.S.Store c.query_all.new.self in
    let params = Text c.args.bench.now ∷ Text c.args.name.now ∷ [] in
    settled_stays Holds old new a (outside_same profile_text params old new both_tables s.has.schema profile_asks.2 c.query_all.result
    (rw (c.params-to_sql.ensures, c.params-to_sql-2.ensures) at (c.query_all.ensures.ok lives.clean)) (rw (c.params-to_sql.ensures, c.params-to_sql-2.ensures) at (c.query_all.ensures.err lives.clean))) lives.is_open s

pub returns-clause-continues : goal.returns-clause-continues
returns-clause-continues g c = record {
  clean = c.query_all.ensures.survives.clean;
  was_open = λ clean. query_open _ _ (state g.S.Store c.args.db.now) (state g.S.Store c.query_all.new.self) c.query_all.result (c.query_all.ensures.ok clean) (c.query_all.ensures.err clean);
}
