-- What the statements make that make a table.
use Rattle.std.proofs.Common.{◌≡◌, inl, inr, ℕ, List, [], Bool, true, false, None, Ok, Err, Result, codes, true≢false, refl, sym, ap, subst, ◌∙◌}
use Rattle.std.specs.Prelude.{IsTrue, OnOk, OnErr, bytes_eq, if◌then◌else◌}
use Rattle.std.specs.List.{list_any}
use Rattle.std.proofs.lemmas.List.Sorted.{IsPermutation-refl}
use Rattle.sqlite.specs.declared.types.Value.{Value}
use Rattle.sqlite.specs.declared.error.Error.{Error}
use Rattle.sqlite.specs.Order.{Row}
use Rattle.sqlite.specs.Table.{Table}
use Rattle.sqlite.specs.Schema.{Schema}
use Rattle.sqlite.specs.Command.TheVariants.{CreateTable}
use Rattle.sqlite.specs.Change.{created, next_tree, KeepsRows}
use Rattle.sqlite.specs.Does.{Tally, lacks_sequence}
use Rattle.sqlite.specs.Effect.{Database}
use Rattle.sqlite.specs.State.{State, Writes, Executes, Shows}
use Rattle.sqlite.specs.Steps.{IsEmpty}
use Rattle.sqlite.proofs.Callers.{runs_as}
use Rattle.pl_keeper.specs.Schema.{no_tables, profiles_alone, both_tables}
use Rattle.pl_keeper.specs.Archive.{Archive, empty_archive}
use Rattle.pl_keeper.specs.Rows.{Holds, HoldsProfiles, HoldsNothing, HoldsSome, HoldsAny, HoldsOnce, Stand, profile_row, capture_row}
use Rattle.pl_keeper.specs.Settled.{Settled}
use Rattle.pl_keeper.proofs.Texts.{Makes, create_profiles_text, create_profiles_makes, create_captures_text, create_captures_makes}
use Rattle.pl_keeper.proofs.Inserts.{went, same_value}
use Rattle.pl_keeper.proofs.States.{executes_err, settled_stays}

pub weaker : (P Q : Database → Archive → Type 0) → ((db : Database) (a : Archive) → P db a → Q db a) → (s : State) (a : Archive) → Settled P s a → Settled Q s a
weaker P Q f s a h = record { is_open = h.is_open; autocommit = h.autocommit; committed = h.committed; has = f s.now a h.has }

-- outside a transaction what was written is committed
settled_write : (Has : Database → Archive → Type 0) (old new : State) (a : Archive) → old.in_transaction ≡ false → Shows old new new.now (if old.in_transaction then old.committed else new.now) old.in_transaction → Has new.now a → Settled Has new a
settled_write Has old new a auto shown has = record {
  is_open = shown.is_open;
  autocommit = shown.mode ∙ auto;
  committed = shown.committed_is ∙ ap (λ b. if b then old.committed else new.now) auto;
  has = has;
}

-- the schema has the new table, whose tree is empty, and the other tables keep their rows
record MadeFrom (before after : Schema) (old new : State) : Type 0 where
  schema : new.now.schema ≡ after
  empty : new.now.trees (next_tree before) ≡ []
  others : KeepsRows before.tables old.now.trees new.now.trees
  shown : Shows old new new.now (if old.in_transaction then old.committed else new.now) old.in_transaction

module _ (text : List ℕ) (before after : Schema) (table : Table) (makes : Makes text before after table) (plain : lacks_sequence after ≡ false) where
  made_from : (old new : State) (count : ℕ) → old.now.schema ≡ before → Executes text [] old new (Ok count) → MadeFrom before after old new
  made_from old new count has h =
      let w = subst (λ t. Writes old new None CreateTable t [] count) makes.statement (runs_as text [] old new before has CreateTable makes.command makes.plain count h) in
      let all = went w.changed in
      let first = went all.1 in
      let made = first.1 in
      let same : made.table ≡ table = same_value (sym made.defined ∙ makes.defines) in
      let schema : first.0.schema ≡ after = made.is ∙ ap (λ s. created s made.table) has ∙ ap (created before) same ∙ makes.schema in
      let lacks : lacks_sequence first.0.schema ≡ false = ap lacks_sequence schema ∙ plain in
      let now : new.now ≡ first.0 = ap (λ (p : Tally × Database). p.1) (same_value all.2) ∙ same_value (rw lacks at first.2) in
      record {
        schema = ap (λ (d : Database). d.schema) now ∙ schema;
        empty = ap (λ (d : Database). d.trees (next_tree before)) now ∙ subst (λ s. first.0.trees (next_tree s) ≡ []) has made.empty;
        others = subst (λ (d : Database). KeepsRows before.tables old.now.trees d.trees) (sym now) (subst (λ s. KeepsRows s.tables old.now.trees first.0.trees) has made.others);
        shown = w.shown;
      }

none_stands : {X : Type 0} (row : Value → X → Row) (xs : List X) → xs ≡ [] → Stand row [] xs
unfolding Stand
none_stands row xs none = subst (Stand row []) (sym none) ([], IsPermutation-refl [], tt)

pub profiles_made : (old new : State) (a : Archive) (r : Result ℕ Error) → Settled HoldsNothing old a → Executes create_profiles_text [] old new r → OnOk r (Settled HoldsSome new a)
profiles_made old new a (Err e) s h = tt
profiles_made old new a (Ok count) s h =
    let made = made_from create_profiles_text no_tables profiles_alone _ create_profiles_makes refl old new count s.has.schema h in
    settled_write HoldsSome old new a s.autocommit made.shown (inl (record {
      schema = made.schema;
      profiles = subst (λ rows. Stand profile_row rows a.profiles) (sym made.empty) (none_stands profile_row a.profiles s.has.none.0);
      none = s.has.none.1;
    }))

pub captures_made : (old new : State) (a : Archive) (r : Result ℕ Error) → Settled HoldsProfiles old a → Executes create_captures_text [] old new r → OnOk r (Settled Holds new a)
captures_made old new a (Err e) s h = tt
captures_made old new a (Ok count) s h =
    let made = made_from create_captures_text profiles_alone both_tables _ create_captures_makes refl old new count s.has.schema h in
    settled_write Holds old new a s.autocommit made.shown (record {
      schema = made.schema;
      profiles = subst (λ rows. Stand profile_row rows a.profiles) (sym made.others.0) s.has.profiles;
      captures = subst (λ rows. Stand capture_row rows a.captures) (sym made.empty) (none_stands capture_row a.captures s.has.none);
    })

-- a statement that is refused leaves the tables as they were
pub none_made : (sql : List ℕ) (old new : State) (a : Archive) (Has : Database → Archive → Type 0) (r : Result ℕ Error) → ((db : Database) (a : Archive) → Has db a → HoldsAny db a) → Settled Has old a → IsTrue new.is_open → Executes sql [] old new r → OnErr r (Settled HoldsAny new a)
none_made sql old new a Has (Ok count) f s on h = tt
none_made sql old new a Has (Err e) f s on h = weaker Has HoldsAny f new a (settled_stays Has old new a (executes_err sql [] old new e h) on s)

-- a table that isn't among those of the schema isn't there
pub lacks_profiles : (db : Database) (a : Archive) → HoldsAny db a → list_any (λ t. bytes_eq t.name (codes "profiles")) db.schema.tables ≡ false → HoldsNothing db a
lacks_profiles db a (inl none) lacks = none
lacks_profiles db a (inr (inl half)) lacks = absurd (true≢false (subst (λ (s : Schema). list_any (λ t. bytes_eq t.name (codes "profiles")) s.tables ≡ false) half.schema lacks))
lacks_profiles db a (inr (inr all)) lacks = absurd (true≢false (subst (λ (s : Schema). list_any (λ t. bytes_eq t.name (codes "profiles")) s.tables ≡ false) all.schema lacks))

pub lacks_captures : (db : Database) (a : Archive) → HoldsSome db a → list_any (λ t. bytes_eq t.name (codes "captures")) db.schema.tables ≡ false → HoldsProfiles db a
lacks_captures db a (inl half) lacks = half
lacks_captures db a (inr all) lacks = absurd (true≢false (subst (λ (s : Schema). list_any (λ t. bytes_eq t.name (codes "captures")) s.tables ≡ false) all.schema lacks))

pub any_once : (made : Bool) (s : State) (a : Archive) → Settled (HoldsOnce made) s a → Settled HoldsAny s a
any_once true s a h = weaker Holds HoldsAny (λ db a all. inr (inr all)) s a h
any_once false s a h = h

-- once the tables are made
pub ready_all : (made : Bool) (s : State) (a : Archive) → made ≡ true → Settled (HoldsOnce made) s a → Settled Holds s a
ready_all true s a is h = h
ready_all false s a is h = absurd (true≢false (sym is))

pub from_ready : (made : Bool) (s : State) (a : Archive) → made ≡ true → Settled Holds s a → Settled (HoldsOnce made) s a
from_ready true s a is h = h
from_ready false s a is h = absurd (true≢false (sym is))

pub empty_settled : (s : State) → IsEmpty s → Settled HoldsAny s empty_archive
empty_settled s e = record { is_open = e.0.is_open; autocommit = e.0.autocommit; committed = sym e.0.clean; has = inl (record { schema = e.2; none = (refl, refl) }) }
