-- How far a file is lawful, by a front of it whose items are.
use Rattle.std.proofs.Common.{◌≡◌, ℕ, ◌+◌, ◌-◌, ◌<◌, ◌≤◌, Bool, true, false, List, [], ◌∷◌, ◌++◌}
use Rattle.std.proofs.Common.{length, take, refl, ap, sym, subst, ◌∙◌, arith, append_assoc}
use Rattle.std.proofs.Common.{append-nil, length-append, nat_lt}
use Rattle.std.proofs.Math.Seq.{take-append-add}
use Rattle.std.proofs.lemmas.Bool.{le-ltb, lt-ltb}
use Rattle.std.proofs.lemmas.List.{take_all}
use Rattle.pl_base.specs.declared.link.Dir.{Dir}
use Rattle.pl_base.specs.declared.stop.Stop.{Stop}
use Rattle.pl_capture.specs.Entry.{Entry}
use Rattle.pl_capture.specs.Reading.{Reading, reading, Bad}
use Rattle.pl_capture.proofs.Wholes.{whole_stays}
use Rattle.pl_merge.specs.declared.end.End.{End}
use Rattle.pl_merge.specs.declared.end.End.TheVariants as end
use Rattle.pl_merge.specs.Lawful.{Lawful, behind, end_by, end_of_file, lawful_after, lawful_of}
use Rattle.pl_merge.specs.Lawful.{limit, stops, strays}
use Rattle.pl_merge.specs.Sides.{IsLawfulTo}
use Rattle.pl_merge.proofs.Longer.{longer}

abbrev with_end : List Entry → End → Lawful
with_end items e = record { items = items; end = e }

-- a front that is shorter than what is read
pub front_read : (bytes rest : List ℕ) (n : ℕ) → length bytes ≤ n
    → take n (bytes ++ rest) ≡ bytes ++ take (n - length bytes) rest
front_read bytes rest n le =
    let same : n ≡ length bytes + (n - length bytes) = omega arith in
    ap (λ (k : ℕ). take k (bytes ++ rest)) same ∙ take-append-add bytes rest (n - length bytes)

pub lawful_is : (dir : Dir) (file : List ℕ) → lawful_of dir file
    ≡ lawful_after dir 0 (reading (take limit file)).items
    (end_of_file (reading (take limit file)).ending (nat_lt limit (length file)))
unfolding lawful_of
lawful_is dir file = refl

-- no item behind them
pub all_lawful : (dir : Dir) (latest : ℕ) (items : List Entry) (e : End)
    → IsLawfulTo dir latest items → lawful_after dir 0 items e ≡ record { items = items; end = e }
unfolding lawful_after
all_lawful dir latest items e lawful =
    ap (λ (xs : List Entry). lawful_after dir 0 xs e) (sym (append-nil items)) ∙ lawful [] e
    ∙ ap (λ (xs : List Entry). with_end xs e) (append-nil items)

-- the lawful items of a file begin with those of a front of it
pub lawful_front : (dir : Dir) (latest : ℕ) (bytes rest : List ℕ) (items : List Entry)
    → IsLawfulTo dir latest items → (reading bytes).items ≡ items → length bytes ≤ limit
    → (more : List Entry) × ((lawful_of dir (bytes ++ rest)).items ≡ items ++ more)
lawful_front dir latest bytes rest items lawful here le =
    let read = take (limit - length bytes) rest in
    let e = end_of_file (reading (take limit (bytes ++ rest))).ending
    (nat_lt limit (length (bytes ++ rest))) in
    let tail = longer bytes read in
    let all : (reading (take limit (bytes ++ rest))).items ≡ items ++ tail.0 =
    ap (λ (b : List ℕ). (reading b).items) (front_read bytes rest limit le) ∙ tail.1
    ∙ ap (λ (xs : List Entry). xs ++ tail.0) here in (
      (lawful_after dir latest tail.0 e).items,
      ap (λ (l : Lawful). l.items) (lawful_is dir (bytes ++ rest)
          ∙ ap (λ (xs : List Entry). lawful_after dir 0 xs e) all ∙ lawful tail.0 e),
    )

-- the bytes are refused, whatever comes behind them
pub bad_stops : (dir : Dir) (latest : ℕ) (bytes rest : List ℕ) (items : List Entry) (s : Stop)
    → IsLawfulTo dir latest items → (reading bytes).items ≡ items → length bytes ≤ limit
    → (reading bytes).ending ≡ Bad s
    → lawful_of dir (bytes ++ rest) ≡ record { items = items; end = end_by s }
bad_stops dir latest bytes rest items s lawful here le bad =
    let longer = nat_lt limit (length (bytes ++ rest)) in
    let all : reading (take limit (bytes ++ rest)) ≡ reading bytes =
    ap reading (front_read bytes rest limit le)
    ∙ whole_stays bytes (take (limit - length bytes) rest) s bad in
    lawful_is dir (bytes ++ rest)
    ∙ ap (λ (r : Reading). lawful_after dir 0 r.items (end_of_file r.ending longer)) all
    ∙ ap (λ (xs : List Entry). lawful_after dir 0 xs
    (end_of_file (reading bytes).ending longer)) here
    ∙ rw bad (all_lawful dir latest items (end_by s) lawful)

-- the file has no more bytes
pub whole_ends : (dir : Dir) (latest : ℕ) (bytes : List ℕ) (items : List Entry)
    → IsLawfulTo dir latest items → (reading bytes).items ≡ items → length bytes ≤ limit
    → lawful_of dir bytes
    ≡ record { items = items; end = end_of_file (reading bytes).ending false }
whole_ends dir latest bytes items lawful here le =
    lawful_is dir bytes
    ∙ ap (λ (b : List ℕ). lawful_after dir 0 (reading b).items
    (end_of_file (reading b).ending (nat_lt limit (length bytes)))) (take_all limit bytes le)
    ∙ ap (λ (l : Bool). lawful_after dir 0 (reading bytes).items
    (end_of_file (reading bytes).ending l)) (le-ltb _ _ le)
    ∙ ap (λ (xs : List Entry). lawful_after dir 0 xs
    (end_of_file (reading bytes).ending false)) here
    ∙ all_lawful dir latest items (end_of_file (reading bytes).ending false) lawful

-- the file has more bytes than are read
pub more_ends : (dir : Dir) (latest : ℕ) (bytes rest : List ℕ) (items : List Entry)
    → IsLawfulTo dir latest items → (reading bytes).items ≡ items → length bytes ≡ limit
    → 0 < length rest → lawful_of dir (bytes ++ rest)
    ≡ record { items = items; end = end_of_file (reading bytes).ending true }
more_ends dir latest bytes rest items lawful here full some =
    let none : limit - length bytes ≡ 0 = omega arith in
    let front : take limit (bytes ++ rest) ≡ bytes =
    front_read bytes rest limit (omega arith)
    ∙ ap (λ (n : ℕ). bytes ++ take n rest) none ∙ append-nil bytes in
    let long : nat_lt limit (length (bytes ++ rest)) ≡ true =
    lt-ltb _ _ (omega (arith, length-append bytes rest)) in
    lawful_is dir (bytes ++ rest)
    ∙ ap (λ (b : List ℕ). lawful_after dir 0 (reading b).items
    (end_of_file (reading b).ending (nat_lt limit (length (bytes ++ rest))))) front
    ∙ ap (λ (l : Bool). lawful_after dir 0 (reading bytes).items
    (end_of_file (reading bytes).ending l)) long
    ∙ ap (λ (xs : List Entry). lawful_after dir 0 xs
    (end_of_file (reading bytes).ending true)) here
    ∙ all_lawful dir latest items (end_of_file (reading bytes).ending true) lawful

-- no item, and one more
pub none_lawful : (dir : Dir) → IsLawfulTo dir 0 []
unfolding lawful_after
none_lawful dir more e = refl

pub one_more : (dir : Dir) (latest : ℕ) (items : List Entry) (x : Entry)
    → IsLawfulTo dir latest items → strays dir x ≡ false → nat_lt x.time latest ≡ false
    → IsLawfulTo dir x.time (items ++ x ∷ [])
unfolding lawful_after
one_more dir latest items x lawful straight later more e =
    ap (λ (xs : List Entry). lawful_after dir 0 xs e) (append_assoc items (x ∷ []) more)
    ∙ lawful (x ∷ more) e
    ∙ ap (λ (l : Lawful). behind items l) (rw (straight, later) refl)
    ∙ ap (λ (xs : List Entry). with_end xs (lawful_after dir x.time more e).end)
    (sym (append_assoc items (x ∷ []) (lawful_after dir x.time more e).items))

-- an item that isn't lawful
pub item_stops : (dir : Dir) (latest : ℕ) (bytes rest : List ℕ) (items : List Entry) (x : Entry)
    (e : End) → IsLawfulTo dir latest items → (reading bytes).items ≡ items ++ x ∷ []
    → length bytes ≤ limit
    → ((more : List Entry) (last : End) → lawful_after dir latest (x ∷ more) last ≡ stops e)
    → lawful_of dir (bytes ++ rest) ≡ record { items = items; end = e }
item_stops dir latest bytes rest items x e lawful here le unlawful =
    let last = end_of_file (reading (take limit (bytes ++ rest))).ending
    (nat_lt limit (length (bytes ++ rest))) in
    let tail = longer bytes (take (limit - length bytes) rest) in
    let all : (reading (take limit (bytes ++ rest))).items ≡ items ++ (x ∷ tail.0) =
    ap (λ (b : List ℕ). (reading b).items) (front_read bytes rest limit le) ∙ tail.1
    ∙ ap (λ (xs : List Entry). xs ++ tail.0) here ∙ append_assoc items (x ∷ []) tail.0 in
    lawful_is dir (bytes ++ rest) ∙ ap (λ (xs : List Entry). lawful_after dir 0 xs last) all
    ∙ lawful (x ∷ tail.0) last
    ∙ ap (λ (l : Lawful). behind items l) (unlawful tail.0 last)
    ∙ ap (λ (xs : List Entry). with_end xs e) (append-nil items)

pub strays_stops : (dir : Dir) (latest : ℕ) (x : Entry) → strays dir x ≡ true
    → (more : List Entry) (last : End)
    → lawful_after dir latest (x ∷ more) last ≡ stops end.WrongDirection
unfolding lawful_after
strays_stops dir latest x wrong more last = rw wrong refl

pub falls_stops : (dir : Dir) (latest : ℕ) (x : Entry) → strays dir x ≡ false
    → nat_lt x.time latest ≡ true → (more : List Entry) (last : End)
    → lawful_after dir latest (x ∷ more) last ≡ stops end.FallenTime
unfolding lawful_after
falls_stops dir latest x right early more last = rw (right, early) refl
