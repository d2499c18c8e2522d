-- Keys in ascending order: whatever order they came in, there is one such list of them.
use Rattle.std.proofs.Common.{◌≡◌, ◌+◌, ◌<◌, ℕ, Bool, true, false, cond, List, [], ◌∷◌, length, map}
use Rattle.std.proofs.Common.{◌-◌, get_or, refl, sym, ap, ◌∙◌, subst, arith}
use Rattle.std.specs.Prelude.{All, sum_by}
use Rattle.std.specs.Cmp.{IsStrictWeakOrder}
use Rattle.std.specs.Cmp.Lexicographic.{slice_cmp, nat_list_cmp_total}
use Rattle.std.specs.Ordering.{is_lt, nat_cmp, ordering_reverse}
use Rattle.std.specs.declared.cmp.Ordering.{Ordering}
use Rattle.std.specs.declared.cmp.Ordering.TheVariants.{Less, Equal, Greater}
use Rattle.std.specs.List.Sorted.{IsSortedBy}
use Rattle.std.proofs.lemmas.Bool.{false≢true}
use Rattle.std.proofs.lemmas.Cmp.{tied_itself}
use Rattle.std.proofs.lemmas.Grind.{get_or_tail}
use Rattle.std.proofs.lemmas.List.{get_or-map, length-map}
use Rattle.std.proofs.lemmas.List.Elements.{All-nil, All-cons, All-tail}
use Rattle.std.proofs.lemmas.List.Sorted.{IsPermutation-map, ranks_by, sorted_far}
use Rattle.std.proofs.lemmas.List.Sorted.{sum_by-IsPermutation}
use Rattle.std.proofs.lemmas.List.Sums.{sum_by-cons}
use Rattle.std.proofs.lemmas.Map.Lookups.{exact_bytes}
use Rattle.pl_keeper.specs.Archive.{Archive, Capture, captures_of}
use Rattle.pl_keeper.specs.Listing.{Line, Lists, Ascends, line_of}
use Rattle.pl_search.specs.Hits.{placed, ascending, keys_of}

abbrev before : List ℕ → List ℕ → Bool
before x y = is_lt (slice_cmp nat_cmp x y)

order : IsStrictWeakOrder before
order = ranks_by nat_list_cmp_total (λ (x : List ℕ). x)

-- none is before an earlier one
abbrev Rises : List (List ℕ) → Type 0
Rises [] = Unit {0}
Rises (x ∷ xs) = All (λ y. before y x ≡ false) xs × Rises xs

-- ---- a list that is sorted rises

sorted_tail : (x : List ℕ) (xs : List (List ℕ)) → IsSortedBy before (x ∷ xs)
    → IsSortedBy before xs
sorted_tail x xs sorted = λ k d low high.
    let this : length (x ∷ xs) ≡ length xs + 1 = omega arith in
    let one = get_or_tail x xs (k + 1 + 1) d (omega arith) in
    let two = get_or_tail x xs (k + 1) d (omega arith) in
    let first : k + 1 + 1 - 1 ≡ k + 1 = omega arith in
    let second : k + 1 - 1 ≡ k = omega arith in
    rw (
      sym (one ∙ ap (λ n. get_or xs n d) first),
      sym (two ∙ ap (λ n. get_or xs n d) second),
    ) (sorted (k + 1) d (omega arith) (omega arith))

rises : (xs : List (List ℕ)) → IsSortedBy before xs → Rises xs
rises [] sorted = tt
rises (x ∷ xs) sorted = (
  All-tail (λ y. before y x ≡ false) x xs
      (λ j d below. sorted_far before order (x ∷ xs) sorted 0 j d (omega arith) below),
  rises xs (sorted_tail x xs sorted),
)

-- ---- and so do keys that are placed one after another

-- one of those that are placed has what the new one and the others have
all-placed : (P : List ℕ → Type 0) (x : List ℕ) (ys : List (List ℕ)) → P x → All P ys
    → All P (placed x ys)
all-placed P x [] this others = All-cons P x [] this others
all-placed P x (y ∷ ys) this others =
    elim (before y x) as (λ b. All P (cond b (y ∷ placed x ys) (x ∷ y ∷ ys))) [
      | true ↦ All-cons P y (placed x ys) (others 0 y (omega arith))
          (all-placed P x ys this (All-tail P y ys others))
      | false ↦ All-cons P x (y ∷ ys) this others
    ]

rises-placed : (x : List ℕ) (ys : List (List ℕ)) → Rises ys → Rises (placed x ys)
rises-placed x [] up = (All-nil _, tt)
rises-placed x (y ∷ ys) up = by_order (rises-placed x ys up.1) (before y x) refl
  where
    by_order : Rises (placed x ys) → (b : Bool) → before y x ≡ b
        → Rises (cond b (y ∷ placed x ys) (x ∷ y ∷ ys))
    by_order rest true is = (
      all-placed (λ z. before z y ≡ false) x ys (order.one_way y x is) up.0,
      rest,
    )
    by_order rest false is = (
      All-cons (λ z. before z x ≡ false) y ys is
          (λ k d below. order.chain _ y x (up.0 k d below) is),
      up,
    )

rises-ascending : (xs : List (List ℕ)) → Rises (ascending xs)
rises-ascending [] = tt
rises-ascending (x ∷ xs) = rises-placed x (ascending xs) (rises-ascending xs)

-- ---- the same keys are there

sums-placed : (f : List ℕ → ℕ) (x : List ℕ) (ys : List (List ℕ)) → sum_by f (placed x ys)
    ≡ f x + sum_by f ys
sums-placed f x [] = sum_by-cons f x []
sums-placed f x (y ∷ ys) =
    elim (before y x) as (λ b. sum_by f (cond b (y ∷ placed x ys) (x ∷ y ∷ ys))
    ≡ f x + sum_by f (y ∷ ys)) [
      | true ↦ omega (
        arith,
        sum_by-cons f y (placed x ys),
        sum_by-cons f y ys,
        sums-placed f x ys,
      )
      | false ↦ sum_by-cons f x (y ∷ ys)
    ]

sums-ascending : (f : List ℕ → ℕ) (xs : List (List ℕ)) → sum_by f (ascending xs) ≡ sum_by f xs
sums-ascending f [] = refl
sums-ascending f (x ∷ xs) =
    omega (
      arith,
      sums-placed f x (ascending xs),
      sums-ascending f xs,
      sum_by-cons f x xs,
    )

-- ---- one list of these keys rises

abbrev SameSums : List (List ℕ) → List (List ℕ) → Type 0
SameSums xs ys = (f : List ℕ → ℕ) → sum_by f xs ≡ sum_by f ys

-- how many aren't behind x
abbrev up_to : List ℕ → List ℕ → ℕ
up_to x y = cond (before x y) 0 1

none-up_to : (x : List ℕ) (ys : List (List ℕ)) → All (λ y. before x y ≡ true) ys
    → sum_by (up_to x) ys ≡ 0
none-up_to x [] all = refl
none-up_to x (y ∷ ys) all =
    let this : up_to x y ≡ 0 = ap (λ (b : Bool). cond b 0 1) (all 0 y (omega arith)) in
    omega (
      arith,
      sum_by-cons (up_to x) y ys,
      none-up_to x ys (All-tail (λ z. before x z ≡ true) y ys all),
      this,
    )

-- what isn't before y is behind what is
behind : (x y z : List ℕ) → before x y ≡ true → before z y ≡ false → before x z ≡ true
behind x y z less isnt = by_order (before x z) refl
  where
    by_order : (b : Bool) → before x z ≡ b → before x z ≡ true
    by_order true is = is
    by_order false is = absurd (false≢true (sym (order.chain x z y is isnt) ∙ less))

not_before_itself : (x : List ℕ) → before x x ≡ false
not_before_itself x = ap is_lt (tied_itself nat_list_cmp_total x)

-- so no key of one list is before all of the other
first-there : (x y : List ℕ) (xs ys : List (List ℕ)) → Rises (y ∷ ys) → SameSums (x ∷ xs) (y ∷ ys)
    → before x y ≡ true → ⊥
first-there x y xs ys up same less =
    let all : All (λ z. before x z ≡ true) (y ∷ ys) =
    All-cons (λ z. before x z ≡ true) y ys less
    (λ k d below. behind x y _ less (up.0 k d below)) in
    let none = none-up_to x (y ∷ ys) all in
    let this : up_to x x ≡ 1 = ap (λ (b : Bool). cond b 0 1) (not_before_itself x) in
    absurd (omega (arith, same (up_to x), sum_by-cons (up_to x) x xs, none, this))

flipped : (x y : List ℕ) → slice_cmp nat_cmp x y ≡ Greater → before y x ≡ true
flipped x y is = ap is_lt (nat_list_cmp_total.antisymm y x ∙ ap ordering_reverse is)

one-list : (xs ys : List (List ℕ)) → Rises xs → Rises ys → SameSums xs ys → xs ≡ ys
one-list [] [] up up' same = refl
one-list [] (y ∷ ys) up up' same =
    absurd (omega (arith, same (λ z. 1), sum_by-cons (λ (z : List ℕ). 1) y ys))
one-list (x ∷ xs) [] up up' same =
    absurd (omega (arith, same (λ z. 1), sum_by-cons (λ (z : List ℕ). 1) x xs))
one-list (x ∷ xs) (y ∷ ys) up up' same =
    by_order (one-list xs ys up.1 up'.1) (slice_cmp nat_cmp x y) refl
  where
    by_order : (SameSums xs ys → xs ≡ ys) → (o : Ordering) → slice_cmp nat_cmp x y ≡ o
        → x ∷ xs ≡ y ∷ ys
    by_order rest Less is = absurd (first-there x y xs ys up' same (ap is_lt is))
    by_order rest Greater is =
        absurd (first-there y x ys xs up (λ f. sym (same f)) (flipped x y is))
    by_order rest Equal is =
        let head : x ≡ y = exact_bytes x y is in
        let tail : xs ≡ ys = rest (λ f.
        omega (
          arith,
          same f,
          sum_by-cons f x xs,
          sum_by-cons f y ys,
          ap f head,
        )) in
        ap (λ (z : List ℕ). z ∷ xs) head ∙ ap (λ (zs : List (List ℕ)). y ∷ zs) tail

-- ---- the keys of a listing

abbrev key : Line → List ℕ
key line = line.key

keys-of-lines : (captures : List Capture) → map key (map line_of captures)
    ≡ map (λ (c : Capture). c.key) captures
keys-of-lines [] = refl
keys-of-lines (c ∷ captures) = ap (λ keys. c.key ∷ keys) (keys-of-lines captures)

sorted-keys : (lines : List Line) → Ascends lines → IsSortedBy before (map key lines)
sorted-keys [] sorted = λ k d low high. absurd (omega arith)
sorted-keys (x ∷ lines) sorted = λ k d low high.
    let within : k + 1 < length (x ∷ lines) =
    subst (λ n. k + 1 < n) (length-map (x ∷ lines) key) high in
    let earlier : k < length (x ∷ lines) = omega arith in
    rw (
      get_or-map key (x ∷ lines) (k + 1) x d within,
      get_or-map key (x ∷ lines) k x d earlier,
    ) (sorted k x low within)

pub keys-listed : (a : Archive) (bench : List ℕ) (lines : List Line)
    → Lists (captures_of a bench) lines → Ascends lines
    → map (λ (line : Line). line.key) lines ≡ keys_of a bench
keys-listed a bench lines one_each by_key =
    let captures : List Capture = captures_of a bench in
    let keys : List (List ℕ) = map (λ (c : Capture). c.key) captures in
    one-list (map key lines) (ascending keys) (rises (map key lines) (sorted-keys lines by_key))
    (rises-ascending keys)
    (λ f.
    sum_by-IsPermutation f (map key (map line_of captures)) (map key lines)
    (IsPermutation-map key (map line_of captures) lines one_each)
    ∙ ap (sum_by f) (keys-of-lines captures) ∙ sym (sums-ascending f keys))
