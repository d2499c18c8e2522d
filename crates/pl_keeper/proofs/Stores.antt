-- A row that is added takes its place in the table, and the archive has it last.
use Rattle.std.proofs.Common.{◌≡◌, ℕ, List, [], ◌∷◌, ◌++◌, Less, false, Ok, Err, Result, refl, sym, subst}
use Rattle.std.specs.Prelude.{IsTrue, OnOk, ◌||◌, IsPermutation}
use Rattle.std.specs.declared.cmp.Ordering.{Ordering}
use Rattle.std.specs.declared.cmp.Ordering.TheVariants.{Equal, Greater}
use Rattle.std.specs.Ordering.{match_ordering, is_eq}
use Rattle.std.proofs.lemmas.List.Sorted.{IsPermutation-refl, IsPermutation-trans, IsPermutation-append_comm, IsPermutation-append_left, IsPermutation-append_right}
use Rattle.sqlite.specs.declared.types.Value.{Value}
use Rattle.sqlite.specs.declared.types.Value.TheVariants.{Int, Text, Blob}
use Rattle.sqlite.specs.Order.{Row}
use Rattle.sqlite.specs.Edit.{next_rowid}
use Rattle.sqlite_rules.specs.Edit.{is_taken}
use Rattle.sqlite.specs.Tree.{put_row, rowid}
use Rattle.sqlite_value.specs.Order.{value_cmp}
use Rattle.sqlite.specs.declared.error.Error.{Error}
use Rattle.sqlite.specs.State.{State, ExecutesInside}
use Rattle.pl_keeper.specs.Archive.{Archive, Profile, Capture, with_profile, with_capture}
use Rattle.pl_keeper.specs.Rows.{AreRows, Stand, profile_row, capture_row}
use Rattle.pl_keeper.specs.Settled.{Within}
use Rattle.pl_keeper.proofs.Texts.{add_profile_text, add_capture_text}
use Rattle.pl_keeper.proofs.Inserts.{adds_profile, adds_capture}

exchange : {X : Type 0} (x y : X) (ys zs : List X) → IsPermutation (x ∷ ys) zs → IsPermutation (x ∷ y ∷ ys) (y ∷ zs)
exchange x y ys zs h =
    IsPermutation-trans (x ∷ y ∷ ys) (y ∷ x ∷ ys) (y ∷ zs)
    (IsPermutation-append_left ys (x ∷ y ∷ []) (y ∷ x ∷ []) (IsPermutation-append_comm (x ∷ []) (y ∷ [])))
    (IsPermutation-append_right (y ∷ []) (x ∷ ys) zs h)

module _ {X : Type 0} (row : Value → X → Row) (x : X) (new : Row) (id : Value) (is : new ≡ row id x) where
  -- the rows are those of the things and the new one, in some order
  abbrev More : List Row → List X → Type 0
  More rows xs = (ys : List X) × IsPermutation (x ∷ xs) ys × AreRows row rows ys

  placed : (o : Ordering) (r : Row) (rows : List Row) (y : X) (ys : List X) (n : Value) → r ≡ row n y → AreRows row rows ys
      → (is_eq o || is_taken rows new) ≡ false → (is_taken rows new ≡ false → More (put_row new rows) ys)
      → More (match_ordering o (r ∷ put_row new rows) (new ∷ rows) (new ∷ r ∷ rows)) (y ∷ ys)
  placed Less r rows y ys n one rest free later = let z = later free in (y ∷ z.0, exchange x y ys z.0 z.1, (n, one, z.2))
  placed Equal r rows y ys n one rest free later = absurd cc
  placed Greater r rows y ys n one rest free later = (x ∷ y ∷ ys, IsPermutation-refl _, (id, is, (n, one, rest)))

  put_among : (rows : List Row) (xs : List X) → AreRows row rows xs → is_taken rows new ≡ false → More (put_row new rows) xs
  put_among [] [] h free = (x ∷ [], IsPermutation-refl _, (id, is, tt))
  put_among [] (y ∷ ys) h free = absurd h
  put_among (r ∷ rows) [] h free = absurd h
  put_among (r ∷ rows) (y ∷ ys) h free = placed (value_cmp (rowid r) (rowid new)) r rows y ys h.0 h.1 h.2 free (put_among rows ys h.2)

  pub stands_more : (rows after : List Row) (xs : List X) → Stand row rows xs → is_taken rows new ≡ false → after ≡ put_row new rows → Stand row after (xs ++ x ∷ [])
  unfolding Stand
  stands_more rows after xs s free written =
      let put = put_among rows s.0 s.2 free in
      let more = IsPermutation-trans (x ∷ xs) (x ∷ s.0) put.0 (IsPermutation-append_right (x ∷ []) xs s.0 s.1) put.1 in (
        put.0,
        IsPermutation-trans (xs ++ x ∷ []) (x ∷ xs) put.0 (IsPermutation-append_comm xs (x ∷ [])) more,
        subst (λ all. AreRows row all put.0) (sym written) put.2,
      )

pub profile_stored : (old new : State) (a : Archive) (bench name bytes : List ℕ) (r : Result ℕ Error) → Within old a → ExecutesInside 0 add_profile_text (Text bench ∷ Text name ∷ Blob bytes ∷ []) old new r
    → OnOk r (Within new (with_profile a (record { bench = bench; name = name; bytes = bytes })))
profile_stored old new a bench name bytes (Err e) w h = tt
profile_stored old new a bench name bytes (Ok count) w h =
    let added = adds_profile old new bench name bytes count w.has.schema h.0 in
    let p : Profile = record { bench = bench; name = name; bytes = bytes } in
    record {
      is_open = h.1.is_open;
      inside = subst (λ b. IsTrue b) (sym h.1.mode) refl;
      has = record {
        schema = added.schema;
        profiles = stands_more profile_row p (Int (next_rowid (old.now.trees 0)) ∷ Text bench ∷ Text name ∷ Blob bytes ∷ []) (Int (next_rowid (old.now.trees 0))) refl
            (old.now.trees 0) (new.now.trees 0) a.profiles w.has.profiles added.free added.written;
        captures = subst (λ rows. Stand capture_row rows a.captures) (sym added.other_table) w.has.captures;
      };
    }

pub capture_stored : (old new : State) (a : Archive) (bench key profile bytes : List ℕ) (r : Result ℕ Error) → Within old a → ExecutesInside 0 add_capture_text (Text bench ∷ Text key ∷ Text profile ∷ Blob bytes ∷ []) old new r
    → OnOk r (Within new (with_capture a (record { bench = bench; key = key; profile = profile; bytes = bytes })))
capture_stored old new a bench key profile bytes (Err e) w h = tt
capture_stored old new a bench key profile bytes (Ok count) w h =
    let added = adds_capture old new bench key profile bytes count w.has.schema h.0 in
    let c : Capture = record { bench = bench; key = key; profile = profile; bytes = bytes } in
    record {
      is_open = h.1.is_open;
      inside = subst (λ b. IsTrue b) (sym h.1.mode) refl;
      has = record {
        schema = added.schema;
        profiles = subst (λ rows. Stand profile_row rows a.profiles) (sym added.other_table) w.has.profiles;
        captures = stands_more capture_row c (Int (next_rowid (old.now.trees 2)) ∷ Text bench ∷ Text key ∷ Text profile ∷ Blob bytes ∷ []) (Int (next_rowid (old.now.trees 2))) refl
            (old.now.trees 2) (new.now.trees 2) a.captures w.has.captures added.free added.written;
      };
    }
