-- The rows of a database whose schema is ours say an archive, since the database obeys the schema.
use Rattle.std.proofs.Common.{◌≡◌, inl, inr, List, [], ◌∷◌, map, Bool, true, false, codes, refl, sym, ap, subst, ◌∙◌}
use Rattle.std.specs.Prelude.{◌&&◌, not, ℕ}
use Rattle.std.proofs.lemmas.Bool.{false≢true}
use Rattle.std.specs.List.{AllByRecursion}
use Rattle.std.proofs.lemmas.List.Sorted.{IsPermutation-refl}
use Rattle.sqlite.specs.declared.types.Value.{Value}
use Rattle.sqlite.specs.declared.types.Value.TheVariants.{Null, Int, Real, Text, Blob}
use Rattle.sqlite.specs.Order.{Row, column}
use Rattle.sqlite.specs.Kind.TheVariants as kind
use Rattle.sqlite_value.specs.Order.{bytes}
use Rattle.sqlite_sql.specs.Ops.{is_null}
use Rattle.sqlite_schema.specs.declared.schema.Constraint.TheVariants.{Datatype, NotNull}
use Rattle.sqlite_schema.specs.Rules.{passes, Keeps, suits}
use Rattle.sqlite_schema.specs.declared.schema.Column.{Column}
use Rattle.sqlite.specs.Schema.{Schema}
use Rattle.sqlite.specs.Table.{Table}
use Rattle.sqlite.specs.Effect.{Database, IsDatabase}
use Rattle.sqlite.specs.State.{State, IsLive}
use Rattle.pl_keeper.specs.Archive.{empty_archive}
use Rattle.pl_keeper.specs.Schema.{cell, profiles_at, captures_at, no_tables, profiles_alone, both_tables}
use Rattle.pl_keeper.specs.Rows.{AreRows, Stand, Holds, HoldsProfiles, HoldsAny, profile_row, capture_row, profile_in, capture_in, archive_in, profiles_in}
use Rattle.pl_keeper.specs.Settled.{IsIdle, Settled}

both : (a b : Bool) → (a && b) ≡ true → (a ≡ true) × (b ≡ true)
both true true e = (refl, refl)
both true false e = absurd cc
both false b e = absurd cc

-- a value of a column that is NOT NULL
text_cell : (name : List ℕ) (v : Value) → suits (cell name kind.Text) v ≡ true → not (is_null v) ≡ true → v ≡ Text (bytes v)
text_cell name Null typed there = absurd cc
text_cell name (Int n) typed there = absurd cc
text_cell name (Real x) typed there = absurd cc
text_cell name (Text t) typed there = refl
text_cell name (Blob b) typed there = absurd cc

blob_cell : (name : List ℕ) (v : Value) → suits (cell name kind.Blob) v ≡ true → not (is_null v) ≡ true → v ≡ Blob (bytes v)
blob_cell name Null typed there = absurd cc
blob_cell name (Int n) typed there = absurd cc
blob_cell name (Real x) typed there = absurd cc
blob_cell name (Text t) typed there = absurd cc
blob_cell name (Blob b) typed there = refl

abbrev bench : Column
bench = cell (codes "bench") kind.Text

abbrev name : Column
name = cell (codes "name") kind.Text

abbrev label : Column
label = cell (codes "label") kind.Text

abbrev profile : Column
profile = cell (codes "profile") kind.Text

abbrev body : Column
body = cell (codes "body") kind.Blob

-- the row has its type and lacks nothing
abbrev Fits : Schema → (ℕ → List Row) → Table → Row → Type 0
Fits schema db table r = (passes Datatype schema db table r ≡ true) × (passes NotNull schema db table r ≡ true)

module _ (schema : Schema) (db : ℕ → List Row) where
  is_profile_row : (r : Row) → Fits schema db (profiles_at 0) r → r ≡ profile_row (column r 0) (profile_in r)
  is_profile_row [] fits = absurd (false≢true fits.1)
  is_profile_row (id ∷ []) fits = absurd (false≢true fits.1)
  is_profile_row (id ∷ b ∷ []) fits =
      let there : (not (is_null b) && false) ≡ true = fits.1 in
      absurd (false≢true (both (not (is_null b)) false there).1)
  is_profile_row (id ∷ b ∷ n ∷ []) fits =
      let there : (not (is_null b) && (not (is_null n) && false)) ≡ true = fits.1 in
      absurd (false≢true (both (not (is_null n)) false (both (not (is_null b)) _ there).1).1)
  is_profile_row (id ∷ b ∷ n ∷ y ∷ []) fits =
      let all : ((suits bench b && (suits name n && (suits body y && true))) && true) ≡ true = fits.0 in
      let typed = both (suits bench b) (suits name n && (suits body y && true)) (both _ true all).0 in
      let more = both (suits name n) (suits body y && true) typed.1 in
      let last = both (suits body y) true more.1 in
      let each : (not (is_null b) && (not (is_null n) && (not (is_null y) && true))) ≡ true = fits.1 in
      let there = both (not (is_null b)) (not (is_null n) && (not (is_null y) && true)) each in
      let rest = both (not (is_null n)) (not (is_null y) && true) there.1 in
      let end = both (not (is_null y)) true rest.1 in
      ap (λ v. id ∷ v ∷ n ∷ y ∷ []) (text_cell (codes "bench") b typed.0 there.0)
      ∙ ap (λ v. id ∷ Text (bytes b) ∷ v ∷ y ∷ []) (text_cell (codes "name") n more.0 rest.0)
      ∙ ap (λ v. id ∷ Text (bytes b) ∷ Text (bytes n) ∷ v ∷ []) (blob_cell (codes "body") y last.0 end.0)
  is_profile_row (id ∷ b ∷ n ∷ y ∷ z ∷ rest) fits =
      let all : ((suits bench b && (suits name n && (suits body y && false))) && true) ≡ true = fits.0 in
      absurd (false≢true (both (suits body y) false (both (suits name n) _ (both (suits bench b) _ (both _ true all).0).1).1).1)

  is_capture_row : (r : Row) → Fits schema db (captures_at 2) r → r ≡ capture_row (column r 0) (capture_in r)
  is_capture_row [] fits = absurd (false≢true fits.1)
  is_capture_row (id ∷ []) fits = absurd (false≢true fits.1)
  is_capture_row (id ∷ b ∷ []) fits =
      let there : (not (is_null b) && false) ≡ true = fits.1 in
      absurd (false≢true (both (not (is_null b)) false there).1)
  is_capture_row (id ∷ b ∷ k ∷ []) fits =
      let there : (not (is_null b) && (not (is_null k) && false)) ≡ true = fits.1 in
      absurd (false≢true (both (not (is_null k)) false (both (not (is_null b)) _ there).1).1)
  is_capture_row (id ∷ b ∷ k ∷ p ∷ []) fits =
      let there : (not (is_null b) && (not (is_null k) && (not (is_null p) && false))) ≡ true = fits.1 in
      absurd (false≢true (both (not (is_null p)) false (both (not (is_null k)) _ (both (not (is_null b)) _ there).1).1).1)
  is_capture_row (id ∷ b ∷ k ∷ p ∷ y ∷ []) fits =
      let all : ((suits bench b && (suits label k && (suits profile p && (suits body y && true)))) && true) ≡ true = fits.0 in
      let typed = both (suits bench b) (suits label k && (suits profile p && (suits body y && true))) (both _ true all).0 in
      let more = both (suits label k) (suits profile p && (suits body y && true)) typed.1 in
      let owner = both (suits profile p) (suits body y && true) more.1 in
      let last = both (suits body y) true owner.1 in
      let each : (not (is_null b) && (not (is_null k) && (not (is_null p) && (not (is_null y) && true)))) ≡ true = fits.1 in
      let there = both (not (is_null b)) (not (is_null k) && (not (is_null p) && (not (is_null y) && true))) each in
      let rest = both (not (is_null k)) (not (is_null p) && (not (is_null y) && true)) there.1 in
      let named = both (not (is_null p)) (not (is_null y) && true) rest.1 in
      let end = both (not (is_null y)) true named.1 in
      ap (λ v. id ∷ v ∷ k ∷ p ∷ y ∷ []) (text_cell (codes "bench") b typed.0 there.0)
      ∙ ap (λ v. id ∷ Text (bytes b) ∷ v ∷ p ∷ y ∷ []) (text_cell (codes "label") k more.0 rest.0)
      ∙ ap (λ v. id ∷ Text (bytes b) ∷ Text (bytes k) ∷ v ∷ y ∷ []) (text_cell (codes "profile") p owner.0 named.0)
      ∙ ap (λ v. id ∷ Text (bytes b) ∷ Text (bytes k) ∷ Text (bytes p) ∷ v ∷ []) (blob_cell (codes "body") y last.0 end.0)
  is_capture_row (id ∷ b ∷ k ∷ p ∷ y ∷ z ∷ rest) fits =
      let all : ((suits bench b && (suits label k && (suits profile p && (suits body y && false)))) && true) ≡ true = fits.0 in
      absurd (false≢true (both (suits body y) false (both (suits profile p) _ (both (suits label k) _ (both (suits bench b) _ (both _ true all).0).1).1).1).1)

-- rows that pass two tests are those of what they say
module _ {X : Type 0} (row : Value → X → Row) (says : Row → X) (P Q : Row → Type 0) (is : (r : Row) → P r × Q r → r ≡ row (column r 0) (says r)) where
  each_says : (rows : List Row) → AllByRecursion P rows → AllByRecursion Q rows → AreRows row rows (map says rows)
  each_says [] p q = tt
  each_says (r ∷ rows) p q = (column r 0, is r (p.0, q.0), each_says rows p.1 q.1)

  all_stand : (rows : List Row) → AllByRecursion P rows → AllByRecursion Q rows → Stand row rows (map says rows)
  unfolding Stand
  all_stand rows p q = (map says rows, IsPermutation-refl _, each_says rows p q)

module _ (db : Database) (sound : IsDatabase db) where
  both_hold : db.schema ≡ both_tables → Holds db (archive_in db)
  both_hold has =
      let typed : Keeps Datatype both_tables db.trees = subst (λ s. Keeps Datatype s db.trees) has (sound.obeys.rules Datatype) in
      let there : Keeps NotNull both_tables db.trees = subst (λ s. Keeps NotNull s db.trees) has (sound.obeys.rules NotNull) in
      record {
        schema = has;
        profiles = all_stand profile_row profile_in _ _ (is_profile_row both_tables db.trees) (db.trees 0) typed.0 there.0;
        captures = all_stand capture_row capture_in _ _ (is_capture_row both_tables db.trees) (db.trees 2) typed.1.0 there.1.0;
      }

  profiles_hold : db.schema ≡ profiles_alone → HoldsProfiles db (profiles_in db)
  profiles_hold has =
      let typed : Keeps Datatype profiles_alone db.trees = subst (λ s. Keeps Datatype s db.trees) has (sound.obeys.rules Datatype) in
      let there : Keeps NotNull profiles_alone db.trees = subst (λ s. Keeps NotNull s db.trees) has (sound.obeys.rules NotNull) in
      record {
        schema = has;
        profiles = all_stand profile_row profile_in _ _ (is_profile_row profiles_alone db.trees) (db.trees 0) typed.0 there.0;
        none = refl;
      }

module _ (s : State) (live : IsLive s) (idle : IsIdle s) (committed : s.now ≡ s.committed) where
  pub both_found : s.now.schema ≡ both_tables → Settled HoldsAny s (archive_in s.now)
  both_found has = record {
    is_open = idle.is_open;
    autocommit = idle.autocommit;
    committed = sym committed;
    has = inr (inr (both_hold s.now (live idle.is_open).0 has));
  }

  pub profiles_found : s.now.schema ≡ profiles_alone → Settled HoldsAny s (profiles_in s.now)
  profiles_found has = record {
    is_open = idle.is_open;
    autocommit = idle.autocommit;
    committed = sym committed;
    has = inr (inl (profiles_hold s.now (live idle.is_open).0 has));
  }

  pub none_found : s.now.schema ≡ no_tables → Settled HoldsAny s empty_archive
  none_found has = record {
    is_open = idle.is_open;
    autocommit = idle.autocommit;
    committed = sym committed;
    has = inl (record { schema = has; none = (refl, refl) });
  }
