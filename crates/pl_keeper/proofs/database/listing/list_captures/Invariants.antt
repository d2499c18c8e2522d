use Rattle.std.proofs.Common.{◌≡◌, List, [], ◌∷◌, map}
use Rattle.sqlite.specs.declared.types.Value.TheVariants.{Text}
use Rattle.sqlite.specs.Order.{Row}
use Rattle.sqlite.specs.State.{HasCleanDisk, IsUnchanged}
use Rattle.sqlite.specs.Held.{state}
use Rattle.sqlite.specs.Given.{HasGiven}
use Rattle.pl_keeper.specs.Schema.{both_tables}
use Rattle.pl_keeper.specs.Settled.{Continues, line_in}
use Rattle.pl_keeper.proofs.Texts.{listing_text}
use Rattle.pl_keeper.proofs.database.listing.list_captures.Given as goal

-- over both tables, the rows so far begin the answer, and the lines are theirs
abbrev pub invariant-rows : goal.invariant-rows
invariant-rows g l =
    let old = state g.S.Store l.fn.db in
    let now = state g.S.Store l.rows.conn.now in
    record {
      same_reference : l.rows.conn.ghost_name ≡ l.initial.rows.conn.ghost_name;
      continues : Continues old now;
      so_far : old.now.schema ≡ both_tables → HasCleanDisk now
          → (given : List Row) × HasGiven g.S.Store listing_text (Text l.fn.bench ∷ []) l.rows.conn.now given × (l.lines.items ≡ map line_in given) × IsUnchanged old now;
    }
