-- A listing stands in ascending order of key.
use Rattle.std.proofs.Common.{◌≡◌, ◌+◌, ◌<◌, ℕ, List, [], ◌∷◌, map, length, get_or, true, false, Bool, cond, refl, sym, ap, subst, ◌∙◌, arith}
use Rattle.std.specs.Prelude.{All, filter}
use Rattle.std.specs.Ordering.{nat_cmp, is_lt}
use Rattle.std.specs.Cmp.Lexicographic.{slice_cmp}
use Rattle.std.specs.List.Sorted.{IsPermutation, IsSortedBy}
use Rattle.std.proofs.lemmas.List.{get_or-map, length-map}
use Rattle.std.proofs.lemmas.List.Elements.{All-nil, All-cons}
use Rattle.std.proofs.lemmas.List.Sorted.{All-permutation, IsPermutation-map}
use Rattle.sqlite.specs.declared.types.Value.TheVariants.{Text}
use Rattle.sqlite.specs.Order.{Row, column}
use Rattle.sqlite.specs.Term.{Term, col}
use Rattle.sqlite.specs.Query.{Output, output_cmp}
use Rattle.sqlite_value.specs.Order.{bytes}
use Rattle.sqlite_value.proofs.OrderLemmas.{value_cmp-Text, then-Equal}
use Rattle.pl_keeper.specs.Archive.{Capture}
use Rattle.pl_keeper.specs.Listing.{Line, Lists, line_of, Ascends}
use Rattle.pl_keeper.specs.Rows.{AreRows, Stand, capture_row}
use Rattle.pl_keeper.specs.Settled.{listed_as, line_in}
use Rattle.pl_keeper.proofs.Texts.{rows_where, of_bench, by_label}
use Rattle.pl_keeper.proofs.Answers.{Ordered, sorted_and_shown, passes}

-- what is sorted stays so where each element becomes one of the same rank
sorted-map : {X Y : Type 0} (lt : X → X → Bool) (lt' : Y → Y → Bool) (f : X → Y) (P : X → Type 0) → ((x y : X) → P x → P y → lt' (f x) (f y) ≡ lt x y)
    → (xs : List X) → All P xs → IsSortedBy lt xs → IsSortedBy lt' (map f xs)
sorted-map lt lt' f P same [] all sorted = λ k d low high. absurd (omega arith)
sorted-map {X} {Y} lt lt' f P same (x ∷ xs) all sorted = λ k d low high.
    let within : k + 1 < length (x ∷ xs) = subst (λ n. k + 1 < n) (length-map (x ∷ xs) f) high in
    let before : k < length (x ∷ xs) = omega arith in
    rw (get_or-map f (x ∷ xs) (k + 1) x d within, get_or-map f (x ∷ xs) k x d before)
    (same (get_or (x ∷ xs) (k + 1) x) (get_or (x ∷ xs) k x) (all (k + 1) x within) (all k x before) ∙ sorted k x low within)

abbrev pub projected : List Term
projected = col 1 2 ∷ col 1 3 ∷ col 1 4 ∷ []

-- what a capture's row is sorted by is the key that it shows
record SortsByKey (o : Output) : Type 0 where
  key : List ℕ
  sorted_by : o.0 ≡ Text key ∷ []
  shows : column o.1 0 ≡ Text key

each_sorts : (params : Row) (rows : List Row) (cs : List Capture) → AreRows capture_row rows cs
    → All SortsByKey (map (sorted_and_shown 2 of_bench projected by_label params) (filter (passes params of_bench) rows))
each_sorts params [] [] h = All-nil SortsByKey
each_sorts params [] (c ∷ cs) h = absurd h
each_sorts params (r ∷ rows) [] h = absurd h
each_sorts params (r ∷ rows) (c ∷ cs) h =
    kept_or_not (passes params of_bench r) r (filter (passes params of_bench) rows)
    (subst (λ row. SortsByKey (sorted_and_shown 2 of_bench projected by_label params row)) (sym h.1) (record { key = c.key; sorted_by = refl; shows = refl }))
    (each_sorts params rows cs h.2)
  where
    kept_or_not : (b : Bool) (row : Row) (more : List Row) → SortsByKey (sorted_and_shown 2 of_bench projected by_label params row)
        → All SortsByKey (map (sorted_and_shown 2 of_bench projected by_label params) more) → All SortsByKey (map (sorted_and_shown 2 of_bench projected by_label params) (cond b (row ∷ more) more))
    kept_or_not true row more this rest = All-cons SortsByKey (sorted_and_shown 2 of_bench projected by_label params row) _ this rest
    kept_or_not false row more this rest = rest

-- so two rows compare as their keys do
same_rank : (tree : ℕ) (x y : Output) → SortsByKey x → SortsByKey y
    → is_lt (slice_cmp nat_cmp (line_in x.1).key (line_in y.1).key) ≡ is_lt (output_cmp (rows_where tree of_bench projected by_label) x y)
same_rank tree x y p q =
    let left : (line_in x.1).key ≡ p.key = ap bytes p.shows in
    let right : (line_in y.1).key ≡ q.key = ap bytes q.shows in
    rw (left, right, p.sorted_by, q.sorted_by) (ap is_lt (sym (then-Equal _ ∙ value_cmp-Text p.key q.key)))

line_of_output : (os : List Output) → map (λ (x : Output). line_in x.1) os ≡ map line_in (map (λ (x : Output). x.1) os)
line_of_output [] = refl
line_of_output (o ∷ os) = ap (λ more. line_in o.1 ∷ more) (line_of_output os)

pub ascends : (params : Row) (all rows : List Row) (cs : List Capture) → Stand capture_row all cs → Ordered 2 of_bench projected by_label params all rows
    → Ascends (map line_in rows)
unfolding Stand
ascends params all rows cs stand o =
    let sorted : Ascends (map (λ (x : Output). line_in x.1) o.ordered) =
    sorted-map (λ (x y : Output). is_lt (output_cmp (rows_where 2 of_bench projected by_label) x y)) (λ (a b : Line). is_lt (slice_cmp nat_cmp a.key b.key)) (λ (x : Output). line_in x.1) SortsByKey (same_rank 2)
    o.ordered (All-permutation SortsByKey _ o.ordered o.same (each_sorts params all stand.0 stand.2)) o.sorted in
    subst Ascends (line_of_output o.ordered ∙ sym (ap (map line_in) o.shown)) sorted

-- the lines of the rows of captures are the lines of the captures
lines_of_listed : (cs : List Capture) → map line_in (map listed_as cs) ≡ map line_of cs
lines_of_listed [] = refl
lines_of_listed (c ∷ cs) = ap (λ more. line_of c ∷ more) (lines_of_listed cs)

pub lists : (cs : List Capture) (rows : List Row) → IsPermutation (map listed_as cs) rows → Lists cs (map line_in rows)
lists cs rows same = subst (λ lines. IsPermutation lines (map line_in rows)) (lines_of_listed cs) (IsPermutation-map line_in (map listed_as cs) rows same)
