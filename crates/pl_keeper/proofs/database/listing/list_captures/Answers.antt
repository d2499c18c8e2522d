use Rattle.std.proofs.Common.{[], ◌∷◌, ◌++◌, refl, sym, subst, ◌∙◌, arith, rules}
use Rattle.sqlite.specs.declared.types.Value.TheVariants.{Text}
use Rattle.sqlite.specs.Held.{state}
use Rattle.sqlite.specs.State.{HasCleanDisk}
use Rattle.sqlite.proofs.Callers.{begun_plain, unchanged_then}
use Rattle.pl_keeper.specs.Archive.{captures_of}
use Rattle.pl_keeper.specs.Listing.{Lists, Ascends}
use Rattle.pl_keeper.specs.Rows.{Holds}
use Rattle.pl_keeper.specs.Schema.{both_tables}
use Rattle.pl_keeper.proofs.Lookups.{finds_listed, listed_ascends}
use Rattle.pl_keeper.proofs.Sorting.{lists}
use Rattle.pl_keeper.proofs.States.{fails_open, fails_same, settled_stays}
use Rattle.pl_keeper.proofs.Streaming.{begun_open, listing_plain, still_holds, one_line_more}
use Rattle.pl_keeper.proofs.Texts.{listing_text, listing_asks}
use Rattle.pl_keeper.proofs.database.listing.list_captures.Goals as goal

pub returns-in_err-rows-clause-continues : goal.returns-in_err-rows-clause-continues
returns-in_err-rows-clause-continues g c =
    let refused = rw c.in_err-rows.was at c.query.follows.holds-at-none in
    record {
      clean = refused.survives.clean;
      was_open = λ clean on. fails_open _ _ (state g.S.Store c.args.db.now) (state g.S.Store c.query.follows.lender-at-none) _ (refused.err clean) on;
    }

pub returns-in_err-rows-clause-kept : goal.returns-in_err-rows-clause-kept
returns-in_err-rows-clause-kept g c lives a s =
    let refused = rw c.in_err-rows.was at c.query.follows.holds-at-none in
    let old = state g.S.Store c.args.db.now in
    let new = state g.S.Store c.query.follows.lender-at-none in
    settled_stays Holds old new a
    (fails_same listing_text (Text c.args.bench.now ∷ []) old new both_tables s.has.schema listing_asks.2 _ (rw c.params-to_sql.ensures at (refused.err lives.clean))) lives.is_open s

pub rows-init : goal.rows-init
rows-init g c =
    let made = c.in_ok-rows.ensures in
    record {
      same_reference = refl;
      continues = record {
        clean = made.survives.clean;
        was_open = λ clean on. begun_open g.S.Store _ _ c.args.db.now c.in_ok-rows.rows.conn.now (made.begun clean) on;
      };
      so_far = λ has clean.
          let begun = begun_plain g.S.Store listing_text (Text c.args.bench.now ∷ []) c.args.db.now c.in_ok-rows.rows.conn.now (listing_plain c.args.db.now.schema has) (rw c.params-to_sql.ensures at (made.begun clean)) in
          ([], begun.0, c.new-lines.ensures.items, begun.1);
    }

pub rows-preserved : goal.rows-preserved
rows-preserved g c =
    let moved = c.next.follows.holds-at-none in
    let was = c.rows.invariant in
    record {
      same_reference = moved.same_reference ∙ was.same_reference;
      continues = record {
        clean = omega (arith, was.continues.clean, moved.survives.clean);
        was_open = λ clean on. was.continues.was_open (omega (arith, clean, moved.survives.clean)) (rw c.in_ok-row.was at (moved.same clean)).0.was_open;
      };
      so_far = λ has clean.
          let before = was.so_far has (omega (arith, clean, moved.survives.clean)) in
          let given = (rw (c.in_ok-row.was, c.in-Some.is) at (moved.ok clean)) listing_text (Text c.args.bench.now ∷ []) before.0 before.1 in (
            before.0 ++ c.in-Some.row.now ∷ [],
            given,
            c.in_ok-push.ensures.items ∙ one_line_more before.0 c.in-Some.row.now c.rows.lines.items c.in_ok-line.field-0 before.2 c.in_ok-line.ensures,
            unchanged_then _ _ _ before.3 (rw c.in_ok-row.was at (moved.same clean)),
          );
    }

pub returns-in_default-clause-listed : goal.returns-in_default-clause-listed
returns-in_default-clause-listed g c lives a s =
    let clean = lives.clean in
    let moved = c.next.follows.holds-at-none in
    let now = c.next.follows.lender-at-none.conn.now in
    let late : HasCleanDisk (state g.S.Store now) = search rules in
    let was = c.rows.invariant.so_far s.has.schema (omega (arith, moved.survives.clean, late)) in
    let shown = (rw (c.in_ok-row.was, c.in_default.is) at (moved.ok late)) listing_text (Text c.args.bench.now ∷ []) was.0 was.1 in
    let holds = still_holds (state g.S.Store c.args.db.now) (state g.S.Store c.rows.rows.conn.now) a was.3 s.has in
    subst (Lists (captures_of a c.args.bench.now)) (sym was.2)
    (lists (captures_of a c.args.bench.now) was.0 (finds_listed (state g.S.Store c.rows.rows.conn.now) (state g.S.Store now) a holds c.args.bench.now was.0 shown))

pub returns-in_default-clause-ascending : goal.returns-in_default-clause-ascending
returns-in_default-clause-ascending g c lives a s =
    let clean = lives.clean in
    let moved = c.next.follows.holds-at-none in
    let now = c.next.follows.lender-at-none.conn.now in
    let late : HasCleanDisk (state g.S.Store now) = search rules in
    let was = c.rows.invariant.so_far s.has.schema (omega (arith, moved.survives.clean, late)) in
    let shown = (rw (c.in_ok-row.was, c.in_default.is) at (moved.ok late)) listing_text (Text c.args.bench.now ∷ []) was.0 was.1 in
    let holds = still_holds (state g.S.Store c.args.db.now) (state g.S.Store c.rows.rows.conn.now) a was.3 s.has in
    subst Ascends (sym was.2) (listed_ascends (state g.S.Store c.rows.rows.conn.now) (state g.S.Store now) a holds c.args.bench.now was.0 shown)
