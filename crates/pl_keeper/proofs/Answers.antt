-- What a query of the rows of one table answers.
use Rattle.std.proofs.Common.{◌≡◌, ℕ, List, [], ◌∷◌, ◌++◌, map, true, false, Bool, cond, Some, refl, sym, ap, subst, ◌∙◌}
use Rattle.std.specs.Prelude.{if◌then◌else◌, bytes_eq, filter, flat_map}
use Rattle.std.specs.List.{list_all}
use Rattle.std.specs.List.Sorted.{IsPermutation, IsSorted}
use Rattle.std.proofs.lemmas.List.Sorted.{IsPermutation-map, IsPermutation-trans}
use Rattle.sqlite_trees.proofs.ListLemmas.{IsPermutation-filter}
use Rattle.std.proofs.lemmas.Map.Text.{is_eq-slice_cmp}
use Rattle.std.specs.Ordering.{is_eq}
use Rattle.sqlite.specs.declared.types.Value.{Value}
use Rattle.sqlite.specs.declared.types.Value.TheVariants.{Null, Text}
use Rattle.sqlite.specs.Order.{Row}
use Rattle.sqlite.specs.Tree.{Trees}
use Rattle.sqlite.specs.Term.{Term, eval_all, holds}
use Rattle.sqlite.specs.Query.{IsSureAnswer, IsAnswer, output, output_cmp, Output}
use Rattle.sqlite_value.specs.declared.keys.Key.{Key}
use Rattle.sqlite_sql.specs.Ops.{is_true, binary, from_truth}
use Rattle.sqlite_sql.specs.declared.ops.BinaryOp.TheVariants.{Compare}
use Rattle.sqlite_sql.specs.declared.ops.CompareOp.TheVariants.{Eq}
use Rattle.sqlite.specs.Collation.TheVariants.{Binary}
use Rattle.sqlite_value.specs.Order.{value_cmp}
use Rattle.sqlite_value.proofs.OrderLemmas.{value_cmp-Text}
use Rattle.pl_keeper.specs.Rows.{AreRows, Stand}
use Rattle.pl_keeper.proofs.Texts.{rows_where}

-- the row passes WHERE, and what the answer shows of it
abbrev pub passes : Row → List Term → Row → Bool
passes params tests r = list_all (holds (params ∷ r ∷ [])) tests

abbrev pub shows : Row → List Term → Row → Row
shows params project r = eval_all project (params ∷ r ∷ [])

one_more : {X Y : Type 0} (b : Bool) (f : X → Y) (x : X) (xs : List X) → (if b then f x ∷ [] else []) ++ map f xs ≡ map f (cond b (x ∷ xs) xs)
one_more true f x xs = refl
one_more false f x xs = refl

picked : (params : Row) (tests : List Term) (rows : List Row)
    → flat_map (λ r. if list_all (holds (params ∷ r ∷ [])) tests then (params ∷ r ∷ []) ∷ [] else []) rows ≡ map (λ r. params ∷ r ∷ []) (filter (passes params tests) rows)
picked params tests [] = refl
picked params tests (r ∷ rows) =
    ap (λ more. (if passes params tests r then (params ∷ r ∷ []) ∷ [] else []) ++ more) (picked params tests rows)
    ∙ one_more (passes params tests r) (λ r. params ∷ r ∷ []) r (filter (passes params tests) rows)

module _ (tree : ℕ) (tests project : List Term) (order : List (Term × Key)) (params : Row) where
  -- what a row is sorted by, and what is shown of it
  abbrev pub sorted_and_shown : Row → Output
  sorted_and_shown r = output (rows_where tree tests project order) (params ∷ r ∷ [])

  outputs : (rows : List Row) → map (output (rows_where tree tests project order)) (map (λ r. params ∷ r ∷ []) rows) ≡ map sorted_and_shown rows
  outputs [] = refl
  outputs (r ∷ rows) = ap (λ more. sorted_and_shown r ∷ more) (outputs rows)

  shown_of : (rows : List Row) → map (λ (o : Output). o.1) (map sorted_and_shown rows) ≡ map (shows params project) rows
  shown_of [] = refl
  shown_of (r ∷ rows) = ap (λ more. shows params project r ∷ more) (shown_of rows)

  -- the rows that pass, in an order that ORDER BY allows
  pub record Ordered (all rows : List Row) : Type 0 where
    pub ordered : List Output
    pub same : IsPermutation (map sorted_and_shown (filter (passes params tests) all)) ordered
    pub sorted : IsSorted (output_cmp (rows_where tree tests project order)) ordered
    pub shown : rows ≡ map (λ (o : Output). o.1) ordered

  pub answers : (db : Trees) (rows : List Row) → IsSureAnswer (rows_where tree tests project order) db params rows → Ordered (db tree) rows
  answers db rows h =
      let a : IsAnswer (rows_where tree tests project order) db params rows = h Null in
      let staged : a.staged ≡ map (λ r. params ∷ r ∷ []) (filter (passes params tests) (db tree)) = a.grouped ∙ picked params tests (db tree) in
      let kept : a.kept ≡ map sorted_and_shown (filter (passes params tests) (db tree)) =
      a.distinct ∙ ap (map (output (rows_where tree tests project order))) staged ∙ outputs (filter (passes params tests) (db tree)) in
      record { ordered = a.ordered; same = subst (λ kept. IsPermutation kept a.ordered) kept a.same; sorted = a.sorted; shown = a.shown }

  -- each row that passes is shown once
  pub shows_each : (all rows : List Row) → Ordered all rows → IsPermutation (map (shows params project) (filter (passes params tests) all)) rows
  shows_each all rows o =
      subst (λ xs. IsPermutation xs rows) (shown_of (filter (passes params tests) all))
      (subst (IsPermutation (map (λ (o : Output). o.1) (map sorted_and_shown (filter (passes params tests) all)))) (sym o.shown)
      (IsPermutation-map (λ (o : Output). o.1) _ o.ordered o.same))

truth_back : (b : Bool) → is_true (from_truth (Some b)) ≡ b
truth_back true = refl
truth_back false = refl

-- two texts are equal where their bytes are
pub texts_equal : (x y : List ℕ) → is_true (binary (Compare Eq Binary) (Text x) (Text y)) ≡ bytes_eq x y
unfolding binary
texts_equal x y = truth_back (is_eq (value_cmp (Text x) (Text y))) ∙ ap is_eq (value_cmp-Text x y) ∙ is_eq-slice_cmp x y

kept_or_not : {X : Type 0} (b c : Bool) (r : Row) (x : X) (shown : X → Row) (show : Row → Row) (rows : List Row) (xs : List X) → b ≡ c → show r ≡ shown x → map show rows ≡ map shown xs
    → map show (cond b (r ∷ rows) rows) ≡ map shown (cond c (x ∷ xs) xs)
kept_or_not true true r x shown show rows xs same one rest = cc
kept_or_not false false r x shown show rows xs same one rest = rest
kept_or_not true false r x shown show rows xs same one rest = absurd cc
kept_or_not false true r x shown show rows xs same one rest = absurd cc

-- of rows that are those of things, those that pass are the things that pass
pub passing : {X : Type 0} (row : Value → X → Row) (test : Row → Bool) (is : X → Bool) (show : Row → Row) (shown : X → Row)
    → ((id : Value) (x : X) → test (row id x) ≡ is x) → ((id : Value) (x : X) → show (row id x) ≡ shown x)
    → (rows : List Row) (xs : List X) → AreRows row rows xs → map show (filter test rows) ≡ map shown (filter is xs)
passing row test is show shown tests showing [] [] h = refl
passing row test is show shown tests showing [] (x ∷ xs) h = absurd h
passing row test is show shown tests showing (r ∷ rows) [] h = absurd h
passing row test is show shown tests showing (r ∷ rows) (x ∷ xs) h =
    kept_or_not (test r) (is x) r x shown show (filter test rows) (filter is xs)
    (ap test h.1 ∙ tests h.0 x) (ap show h.1 ∙ showing h.0 x) (passing row test is show shown tests showing rows xs h.2)

-- and those of things that stand are shown in some order
pub passing_standing : {X : Type 0} (row : Value → X → Row) (test : Row → Bool) (is : X → Bool) (show : Row → Row) (shown : X → Row)
    → ((id : Value) (x : X) → test (row id x) ≡ is x) → ((id : Value) (x : X) → show (row id x) ≡ shown x)
    → (all rows : List Row) (xs : List X) → Stand row all xs → IsPermutation (map show (filter test all)) rows
    → IsPermutation (map shown (filter is xs)) rows
unfolding Stand
passing_standing row test is show shown tests showing all rows xs s h =
    IsPermutation-trans _ (map shown (filter is s.0)) rows
    (IsPermutation-map shown _ _ (IsPermutation-filter is xs s.0 s.1))
    (subst (λ all. IsPermutation all rows) (passing row test is show shown tests showing all s.0 s.2) h)
