-- Items that are merged: one after another, and up to the last one of a file.
use Rattle.std.proofs.Common.{◌≡◌, ℕ, suc, ◌+◌, ◌<◌, ◌≤◌, ◌⊎◌, inl, inr, Bool, true, false, ◌||◌, List}
use Rattle.std.proofs.Common.{[], ◌∷◌, ◌++◌, length, map, refl, ap, sym, subst, ◌∙◌, arith}
use Rattle.std.proofs.Common.{append_assoc, append-nil, length-append, nat_lt, nat_le, Option, Some, None}
use Rattle.pl_base.specs.declared.link.Dir.{Dir}
use Rattle.pl_base.specs.declared.link.Dir.TheVariants.{Down, Up}
use Rattle.pl_base.specs.Link.{is_same_direction}
use Rattle.pl_capture.specs.Entry.{Entry}
use Rattle.pl_merge.specs.Merged.{Placed, of, insert, merged, has_of, to_last}
use Rattle.pl_merge.specs.Mixing.{Begins, IsSplit}

-- ---- what comes first

first_down : (x : Entry) (xs ys : List Entry)
    → (ys ≡ []) ⊎ ((y : Entry) × (more : List Entry) × (ys ≡ y ∷ more) × (nat_lt y.time x.time ≡ false))
    → merged (x ∷ xs) ys ≡ of Down x ∷ merged xs ys
unfolding merged insert
first_down x xs ys (inl none) = rw none refl
first_down x xs ys (inr (y, more, same, late)) = rw same (rw late refl)

first_up : (y : Entry) (xs ys : List Entry)
    → (xs ≡ []) ⊎ ((x : Entry) × (more : List Entry) × (xs ≡ x ∷ more) × (nat_lt y.time x.time ≡ true))
    → merged xs (y ∷ ys) ≡ of Up y ∷ merged xs ys
unfolding merged insert
first_up y xs ys (inl none) = rw none refl
first_up y xs ys (inr (x, more, same, early)) = rw same (rw early refl)

begun_late : (x : Entry) (v : Option Entry) (ys : List Entry) → Begins v ys
    → ((y : Entry) → v ≡ Some y → nat_lt y.time x.time ≡ false)
    → (ys ≡ []) ⊎ ((y : Entry) × (more : List Entry) × (ys ≡ y ∷ more) × (nat_lt y.time x.time ≡ false))
begun_late x None ys begins late = inl begins
begun_late x (Some y) ys begins late = inr (y, begins.0, begins.1, late y refl)

begun_early : (y : Entry) (w : Option Entry) (xs : List Entry) → Begins w xs
    → ((x : Entry) → w ≡ Some x → nat_lt y.time x.time ≡ true)
    → (xs ≡ []) ⊎ ((x : Entry) × (more : List Entry) × (xs ≡ x ∷ more) × (nat_lt y.time x.time ≡ true))
begun_early y None xs begins early = inl begins
begun_early y (Some x) xs begins early = inr (x, begins.0, begins.1, early x refl)

-- the first file's item goes next
pub split_down : (before other : List Entry) (x : Entry) (v : Option Entry) (all : List Placed)
    → IsSplit before other (Some x) v all
    → ((y : Entry) → v ≡ Some y → nat_lt y.time x.time ≡ false)
    → (xs ys : List Entry) → Begins v ys
    → merged ((before ++ x ∷ []) ++ xs) (other ++ ys) ≡ (all ++ of Down x ∷ []) ++ merged xs ys
split_down before other x v all split late xs ys begins =
    ap (λ (l : List Entry). merged l (other ++ ys)) (append_assoc before (x ∷ []) xs)
    ∙ split.on (x ∷ xs) ys (xs, refl) begins
    ∙ ap (λ (l : List Placed). all ++ l) (first_down x xs ys (begun_late x v ys begins late))
    ∙ sym (append_assoc all (of Down x ∷ []) (merged xs ys))

-- or the second file's
pub split_up : (before other : List Entry) (w : Option Entry) (y : Entry) (all : List Placed)
    → IsSplit before other w (Some y) all
    → ((x : Entry) → w ≡ Some x → nat_lt y.time x.time ≡ true)
    → (xs ys : List Entry) → Begins w xs
    → merged (before ++ xs) ((other ++ y ∷ []) ++ ys) ≡ (all ++ of Up y ∷ []) ++ merged xs ys
split_up before other w y all split early xs ys begins =
    ap (λ (l : List Entry). merged (before ++ xs) l) (append_assoc other (y ∷ []) ys)
    ∙ split.on xs (y ∷ ys) begins (ys, refl)
    ∙ ap (λ (l : List Placed). all ++ l) (first_up y xs ys (begun_early y w xs begins early))
    ∙ sym (append_assoc all (of Up y ∷ []) (merged xs ys))

-- ---- one file alone

pub ups : (ys : List Entry) → merged [] ys ≡ map (of Up) ys
unfolding merged
ups ys = refl

pub downs : (xs : List Entry) → merged xs [] ≡ map (of Down) xs
unfolding merged insert
downs [] = refl
downs (x ∷ xs) = ap (λ (l : List Placed). of Down x ∷ l) (downs xs)

pub no_down : (ys : List Entry) → has_of Down (map (of Up) ys) ≡ false
no_down [] = refl
no_down (y ∷ ys) = no_down ys

pub no_up : (xs : List Entry) → has_of Up (map (of Down) xs) ≡ false
no_up [] = refl
no_up (x ∷ xs) = no_up xs

-- ---- an item is among those that are merged

up_by : (b : Bool) (x y : Entry) (xs ys : List Entry) → nat_lt y.time x.time ≡ b
    → has_of Up (merged xs (y ∷ ys)) ≡ true → has_of Up (merged (x ∷ xs) (y ∷ ys)) ≡ true
unfolding merged insert
up_by true x y xs ys early h = rw early refl
up_by false x y xs ys late h = rw late h

pub has_up : (xs : List Entry) (y : Entry) (ys : List Entry) → has_of Up (merged xs (y ∷ ys)) ≡ true
unfolding merged insert
has_up [] y ys = refl
has_up (x ∷ xs) y ys = up_by (nat_lt y.time x.time) x y xs ys refl (has_up xs y ys)

down_by : (b : Bool) (x y : Entry) (xs ys : List Entry) → nat_lt y.time x.time ≡ b
    → has_of Down (merged (x ∷ xs) ys) ≡ true → has_of Down (merged (x ∷ xs) (y ∷ ys)) ≡ true
unfolding merged insert
down_by true x y xs ys early h = rw early h
down_by false x y xs ys late h = rw late refl

pub has_down : (x : Entry) (xs ys : List Entry) → has_of Down (merged (x ∷ xs) ys) ≡ true
unfolding merged insert
has_down x xs [] = refl
has_down x xs (y ∷ ys) = down_by (nat_lt y.time x.time) x y xs ys refl (has_down x xs ys)

-- ---- up to the last one of a file

or_true : (b : Bool) → (b || true) ≡ true
or_true true = refl
or_true false = refl

has_behind : (file : Dir) (all rest : List Placed) → has_of file rest ≡ true
    → has_of file (all ++ rest) ≡ true
has_behind file [] rest h = h
has_behind file (m ∷ all) rest h =
    ap (λ (b : Bool). is_same_direction m.file file || b) (has_behind file all rest h)
    ∙ or_true (is_same_direction m.file file)

last_none : (file : Dir) (ms : List Placed) → has_of file ms ≡ false → to_last file ms ≡ []
unfolding to_last
last_none file [] h = refl
last_none file (m ∷ ms) h = rw h refl

last_kept : (file : Dir) (m : Placed) (ms : List Placed) → has_of file (m ∷ ms) ≡ true
    → to_last file (m ∷ ms) ≡ m ∷ to_last file ms
unfolding to_last
last_kept file m ms h = rw h refl

pub last_more : (file : Dir) (all rest : List Placed) → has_of file rest ≡ true
    → to_last file (all ++ rest) ≡ all ++ to_last file rest
last_more file [] rest h = refl
last_more file (m ∷ all) rest h =
    last_kept file m (all ++ rest) (has_behind file (m ∷ all) rest h)
    ∙ ap (λ (l : List Placed). m ∷ l) (last_more file all rest h)

-- The last of these is of the file, or there are none.
pub record Closes (file : Dir) (all : List Placed) : Type 0 where
  pub last : (rest : List Placed) → has_of file rest ≡ false → to_last file (all ++ rest) ≡ all

pub closes_none : (file : Dir) → Closes file []
closes_none file = record { last = λ rest h. last_none file rest h }

same_file : (file : Dir) → is_same_direction file file ≡ true
same_file Down = refl
same_file Up = refl

pub closes_one : (file : Dir) (all : List Placed) (x : Entry) → Closes file (all ++ of file x ∷ [])
closes_one file all x = record {
  last = λ rest h.
      let here : has_of file (of file x ∷ rest) ≡ true =
      ap (λ (b : Bool). b || has_of file rest) (same_file file) in
      ap (to_last file) (append_assoc all (of file x ∷ []) rest)
      ∙ last_more file all (of file x ∷ rest) here
      ∙ ap (λ (l : List Placed). all ++ l) (last_kept file (of file x) rest here
      ∙ ap (λ (l : List Placed). of file x ∷ l) (last_none file rest h));
}

pub last_front : (file : Dir) (all rest : List Placed) → Closes file all
    → (more : List Placed) × (to_last file (all ++ rest) ≡ all ++ more)
last_front file all rest closes = by_has (has_of file rest) refl
  where
    by_has : (b : Bool) → has_of file rest ≡ b
        → (more : List Placed) × (to_last file (all ++ rest) ≡ all ++ more)
    by_has true h = (to_last file rest, last_more file all rest h)
    by_has false h = ([], closes.last rest h ∙ sym (append-nil all))
