-- What the look-ups answer of the archive.
use Rattle.std.proofs.Common.{◌≡◌, ℕ, List, [], ◌∷◌, map, ◌&&◌, true, false, Bool, refl, ap, ◌∙◌}
use Rattle.std.specs.Prelude.{bytes_eq, filter}
use Rattle.std.specs.List.Sorted.{IsPermutation}
use Rattle.sqlite.specs.declared.types.Value.{Value}
use Rattle.sqlite.specs.declared.types.Value.TheVariants.{Text}
use Rattle.sqlite.specs.Order.{Row}
use Rattle.sqlite.specs.Program.{overlay}
use Rattle.sqlite.specs.Term.{Term}
use Rattle.sqlite.specs.Ops.{binary}
use Rattle.sqlite_value.specs.declared.keys.Key.{Key}
use Rattle.sqlite_sql.specs.Ops.{is_true}
use Rattle.sqlite_sql.specs.declared.ops.BinaryOp.TheVariants.{Compare}
use Rattle.sqlite_sql.specs.declared.ops.CompareOp.TheVariants.{Eq}
use Rattle.sqlite.specs.Collation.TheVariants.{Binary}
use Rattle.sqlite.specs.State.{State, Shown}
use Rattle.sqlite.proofs.Callers.{reads_as}
use Rattle.pl_keeper.specs.Archive.{Archive, is_profile, is_capture, profiles_of, captures_of}
use Rattle.pl_keeper.specs.Schema.{both_tables}
use Rattle.pl_keeper.specs.Rows.{Holds, Stand, profile_row, capture_row}
use Rattle.pl_keeper.specs.Settled.{body_of, name_of, owner_and_body, key_of, listed_as, line_in}
use Rattle.pl_keeper.specs.Listing.{Ascends}
use Rattle.pl_keeper.proofs.Texts.{Asks, rows_where, of_bench, of_both, by_label, profile_text, profile_asks, names_text, names_asks, capture_text, capture_asks, keys_text, keys_asks, listing_text, listing_asks}
use Rattle.pl_keeper.proofs.Sorting.{ascends}
use Rattle.pl_keeper.proofs.Answers.{Ordered, answers, shows_each, passing_standing, texts_equal, passes, shows}

and_true : (b : Bool) → (b && true) ≡ b
and_true true = refl
and_true false = refl

-- a test of one column, and of two
one_is : (x b : List ℕ) → (is_true (binary (Compare Eq Binary) (Text x) (Text b)) && true) ≡ bytes_eq x b
one_is x b = and_true _ ∙ texts_equal x b

both_are : (x b y n : List ℕ) → (is_true (binary (Compare Eq Binary) (Text x) (Text b)) && (is_true (binary (Compare Eq Binary) (Text y) (Text n)) && true)) ≡ (bytes_eq x b && bytes_eq y n)
both_are x b y n = ap (λ t. t && (is_true (binary (Compare Eq Binary) (Text y) (Text n)) && true)) (texts_equal x b) ∙ ap (λ t. bytes_eq x b && t) (one_is y n)

module _ (text : List ℕ) (tree : ℕ) (tests project : List Term) (order : List (Term × Key)) (names : List (List ℕ)) (asks : Asks text (rows_where tree tests project order) names) where
  -- what was shown is an answer over the table
  pub ordered : (old new : State) (params : Row) (rows : List Row) → old.now.schema ≡ both_tables → Shown text params old new rows
      → Ordered tree tests project order params (overlay old.now.trees [] tree) rows
  ordered old new params rows has h =
      answers tree tests project order params (overlay old.now.trees []) rows (reads_as text params old new both_tables has _ asks.0 asks.2 asks.1 rows h).answer

  module _ {X : Type 0} (row : Value → X → Row) (is : X → Bool) (shown : X → Row) (params : Row)
      (tested : (id : Value) (x : X) → passes params tests (row id x) ≡ is x)
      (showing : (id : Value) (x : X) → shows params project (row id x) ≡ shown x) where
    -- it shows each thing that passes once
    pub finds : (old new : State) (xs : List X) (rows : List Row) → old.now.schema ≡ both_tables → Stand row (overlay old.now.trees [] tree) xs → Shown text params old new rows
        → IsPermutation (map shown (filter is xs)) rows
    finds old new xs rows has stand h =
        passing_standing row (passes params tests) is (shows params project) shown tested showing _ rows xs stand
        (shows_each tree tests project order params _ rows (ordered old new params rows has h))

module _ (old new : State) (a : Archive) (holds : Holds old.now a) (bench : List ℕ) (rows : List Row) where
  pub finds_profile : (name : List ℕ) → Shown profile_text (Text bench ∷ Text name ∷ []) old new rows → IsPermutation (map body_of (filter (is_profile bench name) a.profiles)) rows
  finds_profile name = finds profile_text 0 of_both _ [] _ profile_asks profile_row (is_profile bench name) body_of _ (λ id p. both_are p.bench bench p.name name) (λ id p. refl) old new a.profiles rows holds.schema holds.profiles

  pub finds_names : Shown names_text (Text bench ∷ []) old new rows → IsPermutation (map name_of (profiles_of a bench)) rows
  finds_names = finds names_text 0 of_bench _ [] _ names_asks profile_row (λ p. bytes_eq p.bench bench) name_of _ (λ id p. one_is p.bench bench) (λ id p. refl) old new a.profiles rows holds.schema holds.profiles

  pub finds_capture : (key : List ℕ) → Shown capture_text (Text bench ∷ Text key ∷ []) old new rows → IsPermutation (map owner_and_body (filter (is_capture bench key) a.captures)) rows
  finds_capture key = finds capture_text 2 of_both _ [] _ capture_asks capture_row (is_capture bench key) owner_and_body _ (λ id c. both_are c.bench bench c.key key) (λ id c. refl) old new a.captures rows holds.schema holds.captures

  pub finds_keys : Shown keys_text (Text bench ∷ []) old new rows → IsPermutation (map key_of (captures_of a bench)) rows
  finds_keys = finds keys_text 2 of_bench _ [] _ keys_asks capture_row (λ c. bytes_eq c.bench bench) key_of _ (λ id c. one_is c.bench bench) (λ id c. refl) old new a.captures rows holds.schema holds.captures

  pub finds_listed : Shown listing_text (Text bench ∷ []) old new rows → IsPermutation (map listed_as (captures_of a bench)) rows
  finds_listed = finds listing_text 2 of_bench _ by_label _ listing_asks capture_row (λ c. bytes_eq c.bench bench) listed_as _ (λ id c. one_is c.bench bench) (λ id c. refl) old new a.captures rows holds.schema holds.captures

  -- in ascending order of key
  pub listed_ascends : Shown listing_text (Text bench ∷ []) old new rows → Ascends (map line_in rows)
  listed_ascends h = ascends (Text bench ∷ []) (old.now.trees 2) rows a.captures holds.captures (ordered listing_text 2 of_bench _ by_label _ listing_asks old new (Text bench ∷ []) rows holds.schema h)
