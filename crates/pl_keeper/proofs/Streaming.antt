-- Rows of a query that are taken one at a time.
use Rattle.std.proofs.Common.{◌≡◌, inl, inr, ℕ, List, [], ◌∷◌, ◌++◌, map, sym, subst}
use Rattle.std.specs.Prelude.{IsTrue}
use Rattle.std.proofs.lemmas.List.{map-append}
use Rattle.sqlite_trees.specs.declared.store.Store.{Ghosts}
use Rattle.sqlite.specs.Order.{Row}
use Rattle.sqlite.specs.Schema.{Schema}
use Rattle.sqlite.specs.Effect.{Database}
use Rattle.sqlite.specs.Given.{HasBegun}
use Rattle.sqlite.specs.Held.{Held, state}
use Rattle.sqlite.specs.Listing.{understood}
use Rattle.sqlite.specs.State.{State, IsUnchanged}
use Rattle.sqlite.proofs.Callers.{IsPlain}
use Rattle.pl_keeper.specs.Archive.{Archive}
use Rattle.pl_keeper.specs.Listing.{Line}
use Rattle.pl_keeper.specs.Rows.{Holds}
use Rattle.pl_keeper.specs.Schema.{both_tables}
use Rattle.pl_keeper.specs.Settled.{line_in}
use Rattle.pl_keeper.proofs.Texts.{listing_text, listing_asks}
use Rattle.pl_keeper.proofs.States.{shown_open}

-- a query that begins on an open database began on one
pub begun_open : {S : Type 0} (g : Ghosts S) (sql : List ℕ) (params : Row) (old new : Held S) → HasBegun g sql params old new → IsTrue (state g new).is_open → IsTrue (state g old).is_open
begun_open g sql params old new (inl given) on = given.1.0.was_open
begun_open g sql params old new (inr made) on = shown_open sql params (state g old) (state g new) _ made.1 on

pub listing_plain : (schema : Schema) → schema ≡ both_tables → IsPlain (understood schema listing_text)
listing_plain schema has = subst (λ s. IsPlain (understood s listing_text)) (sym has) listing_asks.2

-- what holds the archive holds it after a step that changed nothing
pub still_holds : (old new : State) (a : Archive) → IsUnchanged old new → Holds old.now a → Holds new.now a
still_holds old new a same h = subst (λ (d : Database). Holds d a) (sym same.0.now_is) h

pub one_line_more : (given : List Row) (row : Row) (lines : List Line) (line : Line) → lines ≡ map line_in given → line ≡ line_in row → lines ++ line ∷ [] ≡ map line_in (given ++ row ∷ [])
one_line_more given row lines line are is = rw (are, is) (sym (map-append line_in given (row ∷ [])))
