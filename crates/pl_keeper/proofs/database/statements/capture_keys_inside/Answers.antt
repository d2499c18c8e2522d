use Rattle.std.proofs.Common.{[], ◌∷◌}
use Rattle.sqlite.specs.declared.types.Value.TheVariants.{Text}
use Rattle.sqlite.specs.Held.{state}
use Rattle.pl_keeper.specs.Schema.{both_tables}
use Rattle.pl_keeper.proofs.Texts.{keys_text, keys_asks}
use Rattle.pl_keeper.proofs.Lookups.{finds_keys}
use Rattle.pl_keeper.proofs.States.{if_ok, within_after, commit_stays, inside_same, query_inside_open}
use Rattle.pl_keeper.proofs.database.statements.capture_keys_inside.Goals as goal

pub returns-clause-rows : goal.returns-clause-rows
returns-clause-rows g c clean a w =
    if_ok c.query_all.result _ _ (λ rows. finds_keys (state g.S.Store c.args.tx.now.conn.now) (state g.S.Store c.query_all.new.self.conn.now) a w.has c.args.bench.now rows.items)
    (rw c.params-to_sql.ensures at (c.query_all.ensures.ok clean))

pub returns-clause-seen : goal.returns-clause-seen
returns-clause-seen g c clean a w =
    let old = state g.S.Store c.args.tx.now.conn.now in
    let new = state g.S.Store c.query_all.new.self.conn.now in
    let params = Text c.args.bench.now ∷ [] in
    within_after keys_text params old new both_tables w.has.schema keys_asks.2 a c.query_all.result w (rw c.params-to_sql.ensures at (c.query_all.ensures.ok clean))

pub returns-clause-kept : goal.returns-clause-kept
returns-clause-kept g c clean a w =
    let old = state g.S.Store c.args.tx.now.conn.now in
    let new = state g.S.Store c.query_all.new.self.conn.now in
    let params = Text c.args.bench.now ∷ [] in
    commit_stays old new (inside_same keys_text params old new both_tables w.has.schema keys_asks.2 c.query_all.result
    (rw c.params-to_sql.ensures at (c.query_all.ensures.ok clean)) (rw c.params-to_sql.ensures at (c.query_all.ensures.err clean)))

pub returns-clause-continues : goal.returns-clause-continues
returns-clause-continues g c = record {
  clean = c.query_all.ensures.survives.clean;
  was_open = λ clean. query_inside_open _ _ (state g.S.Store c.args.tx.now.conn.now) (state g.S.Store c.query_all.new.self.conn.now) c.query_all.result (c.query_all.ensures.ok clean) (c.query_all.ensures.err clean);
}
