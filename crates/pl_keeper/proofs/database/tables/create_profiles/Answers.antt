use Rattle.std.proofs.Common.{inl}
use Rattle.sqlite.specs.Held.{state}
use Rattle.pl_keeper.specs.Rows.{HoldsNothing}
use Rattle.pl_keeper.proofs.Texts.{create_profiles_text}
use Rattle.pl_keeper.proofs.States.{executes_open}
use Rattle.pl_keeper.proofs.Creates.{profiles_made, none_made}
use Rattle.pl_keeper.proofs.database.tables.create_profiles.Goals as goal

pub returns-clause-continues : goal.returns-clause-continues
returns-clause-continues g c = record {
  clean = c.execute.ensures.survives.clean;
  was_open = λ clean. executes_open _ _ _ (state g.S.Store c.args.db.now) (state g.S.Store c.execute.new.self) c.execute.result (c.execute.ensures.runs clean);
}

pub returns-clause-made : goal.returns-clause-made
returns-clause-made g c lives a s = profiles_made (state g.S.Store c.args.db.now) (state g.S.Store c.execute.new.self) a c.execute.result s (c.execute.ensures.runs lives.clean)

pub returns-clause-err : goal.returns-clause-err
returns-clause-err g c lives a s =
    none_made create_profiles_text (state g.S.Store c.args.db.now) (state g.S.Store c.execute.new.self) a HoldsNothing c.execute.result (λ db a it. inl it) s lives.is_open (c.execute.ensures.runs lives.clean)
