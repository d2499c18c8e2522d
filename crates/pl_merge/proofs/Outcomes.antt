-- What is written of two files, by what was merged when one of them halted.
use Rattle.std.proofs.Common.{◌≡◌, ℕ, ◌+◌, ◌<◌, ◌≤◌, ◌⊎◌, inl, inr, Bool, true, false, List, [], ◌∷◌}
use Rattle.std.proofs.Common.{◌++◌, length, map, refl, ap, sym, subst, ◌∙◌, arith, append_assoc}
use Rattle.std.proofs.Common.{append-nil, length-append, nat_le, Option, Some, None}
use Rattle.std.specs.List.{concat}
use Rattle.std.proofs.lemmas.Bool.{le-leb, lt-leb}
use Rattle.std.proofs.lemmas.List.{map-append}
use Rattle.std.proofs.lemmas.List.Folds.{concat-append}
use Rattle.pl_base.specs.declared.link.Dir.{Dir}
use Rattle.pl_base.specs.declared.link.Dir.TheVariants.{Down, Up}
use Rattle.pl_io.specs.Told.{ahead}
use Rattle.pl_capture.specs.Entry.{Entry}
use Rattle.pl_capture.specs.Record.{header_of, record_of, end_of}
use Rattle.pl_capture.specs.Standing.{Holding}
use Rattle.pl_merge.specs.declared.end.End.{End}
use Rattle.pl_merge.specs.declared.end.End.TheVariants as end
use Rattle.pl_merge.specs.Lawful.{Lawful, lawful_of, limit}
use Rattle.pl_merge.specs.Merged.{Placed, of, merged, has_of, to_last, decider, earlier, is_ended}
use Rattle.pl_merge.specs.Output.{Outcome, cut_after, decided, of_file, outcome_in, records_of, status_of}
use Rattle.pl_merge.specs.Sides.{Lends, Lost, Over, Reached, Sight, Stops, Waits}
use Rattle.pl_merge.specs.Mixing.{Begins, Decides, IsFrontOf, IsRead, IsSplit, ReadShort}
use Rattle.pl_merge.proofs.Finishing.{ahead_none}
use Rattle.pl_merge.proofs.Lawfuls.{lawful_front, whole_ends}
use Rattle.pl_merge.proofs.Merges.{Closes, downs, has_down, has_up, last_front, last_more, no_down, no_up, ups}
use Rattle.pl_merge.proofs.Taking.{told}

-- ---- what is known of a file

-- a file's lawful items are these, and others for which this holds
pub record Faces (dir : Dir) (file : List ℕ) (items : List Entry) (V : List Entry → Type 0) : Type 0 where
  pub more : List Entry
  pub items_are : (lawful_of dir file).items ≡ items ++ more
  pub holds : V more

pub reached_faces : (s : Sight) (rest file : Option (List ℕ)) (items : List Entry) (whole : List ℕ)
    → Reached s rest file items → file ≡ Some whole
    → (more : List Entry) × ((lawful_of s.dir whole).items ≡ items ++ more)
reached_faces s rest file items whole r is =
    let behind = told whole r.took is in
    let front = lawful_front s.dir s.latest r.bytes (s.left ++ behind.0) items r.lawful r.items_are
    (omega (arith, r.took.within, r.took.used)) in
    (front.0, ap (λ (b : List ℕ). (lawful_of s.dir b).items) behind.2 ∙ front.1)

pub waits_faces : (s : Sight) (rest file : Option (List ℕ)) (items : List Entry) (w : Option Entry)
    (whole : List ℕ) → Waits s rest file items w → file ≡ Some whole
    → Faces s.dir whole items (Begins w)
waits_faces s rest file items None whole o is = record {
  more = [];
  items_are = ap (λ (l : Lawful). l.items) (o.lawful whole is) ∙ sym (append-nil items);
  holds = refl;
}
waits_faces s rest file items (Some x) whole l is =
    let front = reached_faces s rest file (items ++ x ∷ []) whole l.reached is in
    record {
      more = x ∷ front.0;
      items_are = front.1 ∙ append_assoc items (x ∷ []) front.0;
      holds = (front.0, refl);
    }

-- a file that isn't lawful to its end has an item that waits
pub waits_some : (s : Sight) (rest file : Option (List ℕ)) (items : List Entry) (w : Option Entry)
    (whole : List ℕ) → Waits s rest file items w → file ≡ Some whole
    → is_ended (lawful_of s.dir whole).end ≡ false → (x : Entry) × (w ≡ Some x)
waits_some s rest file items None whole o is bad =
    let ended = ap (λ (l : Lawful). is_ended l.end) (o.lawful whole is) in
    absurd cc
waits_some s rest file items (Some x) whole l is bad = (x, refl)

-- ---- what was read of it

read_reached : (s : Sight) (rest file : Option (List ℕ)) (items : List Entry) (whole : List ℕ)
    (r : Reached s rest file items) → file ≡ Some whole → IsRead (r.bytes ++ s.left) whole rest
read_reached s rest file items whole r is =
    let behind = told whole r.took is in
    (behind.0, behind.2 ∙ sym (append_assoc r.bytes s.left behind.0), behind.1)

pub waits_read : (s : Sight) (rest file : Option (List ℕ)) (items : List Entry) (w : Option Entry)
    (whole : List ℕ) → Waits s rest file items w → file ≡ Some whole
    → (read : List ℕ) × IsRead read whole rest × Faces s.dir read items (Begins w)
waits_read s rest file items None whole o is = (
  whole,
  ([], sym (append-nil whole), o.none_left whole is),
  record {
    more = [];
    items_are = ap (λ (l : Lawful). l.items) (o.lawful whole is) ∙ sym (append-nil items);
    holds = refl;
  },
)
waits_read s rest file items (Some x) whole l is =
    let r = l.reached in
    let front = lawful_front s.dir s.latest r.bytes s.left (items ++ x ∷ []) r.lawful r.items_are
    (omega (arith, r.took.within, r.took.used)) in (
      r.bytes ++ s.left,
      read_reached s rest file (items ++ x ∷ []) whole r is,
      record {
        more = x ∷ front.0;
        items_are = front.1 ∙ append_assoc items (x ∷ []) front.0;
        holds = (front.0, refl);
      },
    )

pub reached_read : (s : Sight) (rest file : Option (List ℕ)) (items : List Entry) (whole : List ℕ)
    → Reached s rest file items → file ≡ Some whole
    → (read : List ℕ) × IsRead read whole rest × Faces s.dir read items (λ ys. Unit {0})
reached_read s rest file items whole r is =
    let front = lawful_front s.dir s.latest r.bytes s.left items r.lawful r.items_are
    (omega (arith, r.took.within, r.took.used)) in (
      r.bytes ++ s.left,
      read_reached s rest file items whole r is,
      record {
        more = front.0;
        items_are = front.1;
        holds = tt;
      },
    )

pub lost_read : (s : Sight) (rest file : Option (List ℕ)) (items : List Entry) (whole : List ℕ)
    → Lost s rest file items → file ≡ Some whole
    → (read : List ℕ) × IsRead read whole rest × ((lawful_of s.dir read).items ≡ items)
lost_read s rest file items whole l is =
    let r = l.reached in
    let all = whole_ends s.dir s.latest r.bytes items r.lawful r.items_are
    (omega (arith, r.took.within, r.took.used)) in
    let same : r.bytes ++ s.left ≡ r.bytes = ap (λ (k : List ℕ). r.bytes ++ k) l.none_left ∙ append-nil r.bytes in (
      r.bytes,
      subst (λ (b : List ℕ). IsRead b whole rest) same (read_reached s rest file items whole r is),
      ap (λ (l : Lawful). l.items) all,
    )

-- ---- the file that decides

decider_down : (ms : List Placed) (first second : End) → is_ended first ≡ false
    → (is_ended second ≡ false → nat_le (length (to_last Down ms)) (length (to_last Up ms)) ≡ true)
    → decider ms first second ≡ Some Down
decider_down ms first second bad sooner = by_second (is_ended second) refl
  where
    by_second : (b : Bool) → is_ended second ≡ b → decider ms first second ≡ Some Down
    by_second true h = rw (bad, h) refl
    by_second false h = rw (bad, h, sooner h) refl

decider_up : (ms : List Placed) (first second : End) → is_ended second ≡ false
    → (is_ended first ≡ false → nat_le (length (to_last Down ms)) (length (to_last Up ms)) ≡ false)
    → decider ms first second ≡ Some Up
decider_up ms first second bad later = by_first (is_ended first) refl
  where
    by_first : (b : Bool) → is_ended first ≡ b → decider ms first second ≡ Some Up
    by_first true h = rw (h, bad) refl
    by_first false h = rw (h, bad, later h) refl

last_first : (x : Entry) (more : List Entry) → 0 < length (to_last Down (map (of Down) (x ∷ more)))
unfolding to_last
last_first x more = omega arith

-- These were merged when a file halted, whatever comes behind: its last item is the last of them.
pub record Halted (file : Dir) (before other : List Entry) (W V : List Entry → Type 0)
    (all : List Placed) : Type 0 where
  pub on : (xs ys : List Entry) → W xs → V ys → merged (before ++ xs) (other ++ ys) ≡ all ++ merged xs ys
  pub closes : Closes file all

-- of the other file there are more, where it isn't lawful to its end, or nothing was merged
abbrev pub Later : Lawful → List Placed → (List Entry → Type 0) → Type 0
Later l all V =
    is_ended l.end ≡ false
    → (all ≡ []) ⊎ ((xs : List Entry) → V xs → (x : Entry) × (more : List Entry) × (xs ≡ x ∷ more))

abbrev pub Any : List Entry → Type 0
Any xs = Unit {0}

none_more : (before : List Entry) → before ≡ before ++ []
none_more before = sym (append-nil before)

last_length : (all : List Placed) (rest : List Placed) (file other : Dir) → has_of other rest ≡ true
    → length all ≤ length (to_last other (all ++ rest))
last_length all rest file other has =
    omega (
      arith,
      ap (λ (l : List Placed). length l) (last_more other all rest has),
      length-append all (to_last other rest),
    )

sooner_by : (before other ys : List Entry) (W V : List Entry → Type 0) (all : List Placed)
    → Halted Down before other W V all → W [] → V ys
    → (all ≡ []) ⊎ ((y : Entry) × (more : List Entry) × (ys ≡ y ∷ more))
    → nat_le (length (to_last Down (merged before (other ++ ys))))
    (length (to_last Up (merged before (other ++ ys)))) ≡ true
sooner_by before other ys W V all h w v later =
    let same : merged before (other ++ ys) ≡ all ++ map (of Up) ys =
    ap (λ (l : List Entry). merged l (other ++ ys)) (none_more before) ∙ h.on [] ys w v
    ∙ ap (λ (l : List Placed). all ++ l) (ups ys) in
    let size = ap (λ (l : List Placed). length l) (h.closes.last (map (of Up) ys) (no_down ys)) in
    rw same (le-leb _ _ (elim later [
      | inl none ↦ omega (arith, size, ap (λ (l : List Placed). length l) none)
      | inr (y, more, begins) ↦
          omega (
            arith,
            size,
            last_length all (map (of Up) ys) Down Up
                (ap (λ (l : List Entry). has_of Up (map (of Up) l)) begins),
          )
    ]))

pub stop_down : (first second : Option (List ℕ)) (before other : List Entry) (all : List Placed)
    (e : End) (W V : List Entry → Type 0) → Halted Down before other W V all → W []
    → ((b : List ℕ) → second ≡ Some b → Faces Up b other V × Later (lawful_of Up b) all V)
    → Stops Down first before e → Decides first second all e
stop_down first second before other all e W V h w facing stops = record {
  outcome = λ a b is is2 version time.
      let faces = facing b is2 in
      let lb = lawful_of Up b in
      let ys = faces.0.more in
      let same : merged before lb.items ≡ all ++ map (of Up) ys =
      ap (merged before) faces.0.items_are
      ∙ ap (λ (l : List Entry). merged l (other ++ ys)) (none_more before)
      ∙ h.on [] ys w faces.0.holds ∙ ap (λ (l : List Placed). all ++ l) (ups ys) in
      let sooner : is_ended lb.end ≡ false → nat_le (length (to_last Down (merged before lb.items)))
      (length (to_last Up (merged before lb.items))) ≡ true =
      λ bad. rw faces.0.items_are (sooner_by before other ys W V all h w faces.0.holds
      (elim (faces.1 bad) [ inl none ↦ inl none | inr some ↦ inr (some ys faces.0.holds) ])) in
      ap (λ (l : Lawful). outcome_in version time l lb) (stops.lawful a is)
      ∙ ap (λ (d : Option Dir). decided version time (merged before lb.items) e lb.end d)
      (decider_down (merged before lb.items) e lb.end stops.unlawful sooner)
      ∙ ap (λ (l : List Placed). record {
        bytes = header_of version 0 ++ records_of l;
        status = status_of e;
      }) (ap (to_last Down) same ∙ h.closes.last (map (of Up) ys) (no_down ys));
}

later_by : (before other xs : List Entry) (W V : List Entry → Type 0) (all : List Placed)
    → Halted Up before other W V all → W xs → V []
    → ((x : Entry) × (more : List Entry) × (xs ≡ x ∷ more))
    → nat_le (length (to_last Down (merged (before ++ xs) other)))
    (length (to_last Up (merged (before ++ xs) other))) ≡ false
later_by before other xs W V all h w v (x, more, begins) =
    let same : merged (before ++ xs) other ≡ all ++ map (of Down) xs =
    ap (merged (before ++ xs)) (none_more other) ∙ h.on xs [] w v
    ∙ ap (λ (l : List Placed). all ++ l) (downs xs) in
    let size = ap (λ (l : List Placed). length l) (h.closes.last (map (of Down) xs) (no_up xs)) in
    let has : has_of Down (map (of Down) xs) ≡ true = ap (λ (l : List Entry). has_of Down (map (of Down) l)) begins in
    let longer = ap (λ (l : List Placed). length l) (last_more Down all (map (of Down) xs) has
    ∙ ap (λ (l : List Entry). all ++ to_last Down (map (of Down) l)) begins) in
    let one = last_first x more in
    rw same (lt-leb _ _ (omega (
      arith,
      size,
      longer,
      one,
      length-append all (to_last Down (map (of Down) (x ∷ more))),
    )))

pub stop_up : (first second : Option (List ℕ)) (before other : List Entry) (all : List Placed)
    (e : End) (W V : List Entry → Type 0) → Halted Up before other W V all → V []
    → ((a : List ℕ) → first ≡ Some a → Faces Down a before W
    × (is_ended (lawful_of Down a).end ≡ false → (xs : List Entry) → W xs
    → (x : Entry) × (more : List Entry) × (xs ≡ x ∷ more)))
    → Stops Up second other e → Decides first second all e
stop_up first second before other all e W V h v facing stops = record {
  outcome = λ a b is is2 version time.
      let faces = facing a is in
      let la = lawful_of Down a in
      let xs = faces.0.more in
      let same : merged la.items other ≡ all ++ map (of Down) xs =
      ap (λ (l : List Entry). merged l other) faces.0.items_are
      ∙ ap (merged (before ++ xs)) (none_more other)
      ∙ h.on xs [] faces.0.holds v ∙ ap (λ (l : List Placed). all ++ l) (downs xs) in
      let later : is_ended la.end ≡ false → nat_le (length (to_last Down (merged la.items other)))
      (length (to_last Up (merged la.items other))) ≡ false =
      λ bad. rw faces.0.items_are (later_by before other xs W V all h faces.0.holds v
      (faces.1 bad xs faces.0.holds)) in
      ap (λ (l : Lawful). outcome_in version time la l) (stops.lawful b is2)
      ∙ ap (λ (d : Option Dir). decided version time (merged la.items other) la.end e d)
      (decider_up (merged la.items other) la.end e stops.unlawful later)
      ∙ ap (λ (l : List Placed). record {
        bytes = header_of version 0 ++ records_of l;
        status = status_of e;
      }) (ap (to_last Up) same ∙ h.closes.last (map (of Down) xs) (no_up xs));
}

-- ---- a front of what is written

pub records_append : (xs ys : List Placed) → records_of (xs ++ ys) ≡ records_of xs ++ records_of ys
records_append xs ys =
    ap concat (map-append (λ m. record_of m.item) xs ys)
    ∙ concat-append (map (λ m. record_of m.item) xs) (map (λ m. record_of m.item) ys)

either_bad : (d : Dir) (first second : End) → is_ended first ≡ false → is_ended second ≡ false
    → is_ended (of_file d first second) ≡ false
either_bad Down first second p q = p
either_bad Up first second p q = q

-- the file that decides isn't lawful to its end
decider_bad : (ms : List Placed) (first second : End) (file : Dir) → decider ms first second ≡ Some file
    → is_ended (of_file file first second) ≡ false
decider_bad ms first second file h = by_ends (is_ended first) (is_ended second) refl refl
  where
    by_ends : (b c : Bool) → is_ended first ≡ b → is_ended second ≡ c
        → is_ended (of_file file first second) ≡ false
    by_ends true true p q = let none = rw (p, q) at h in absurd cc
    by_ends true false p q =
        let same = rw (p, q) at h in
        let up : Up ≡ file = cc in
        subst (λ (d : Dir). is_ended (of_file d first second) ≡ false) up q
    by_ends false true p q =
        let same = rw (p, q) at h in
        let down : Down ≡ file = cc in
        subst (λ (d : Dir). is_ended (of_file d first second) ≡ false) down p
    by_ends false false p q = either_bad file first second p q

pub front_of : (a b : List ℕ) (all rest : List Placed)
    → merged (lawful_of Down a).items (lawful_of Up b).items ≡ all ++ rest
    → ((file : Dir) → is_ended (of_file file (lawful_of Down a).end (lawful_of Up b).end) ≡ false
    → (more : List Placed) × (to_last file (all ++ rest) ≡ all ++ more))
    → IsFrontOf (records_of all) a b
front_of a b all rest same kept version time = by_decider (decider ms la.end lb.end) refl
  where
    la : Lawful
    la = lawful_of Down a

    lb : Lawful
    lb = lawful_of Up b

    ms : List Placed
    ms = merged la.items lb.items

    by_decider : (d : Option Dir) → decider ms la.end lb.end ≡ d
        → (more : List ℕ) × ((outcome_in version time la lb).bytes
        ≡ header_of version 0 ++ (records_of all ++ more))
    by_decider None h = (
      records_of rest ++ end_of (length ms) time,
      ap (λ (d : Option Dir). (decided version time ms la.end lb.end d).bytes) h
          ∙ ap (λ (l : List ℕ). header_of version 0 ++ (l ++ end_of (length ms) time))
          (ap records_of same ∙ records_append all rest)
          ∙ ap (λ (l : List ℕ). header_of version 0 ++ l)
          (append_assoc (records_of all) (records_of rest) (end_of (length ms) time)),
    )
    by_decider (Some file) h =
        let more = kept file (decider_bad ms la.end lb.end file h) in (
          records_of more.0,
          ap (λ (d : Option Dir). (decided version time ms la.end lb.end d).bytes) h
              ∙ ap (λ (l : List Placed). header_of version 0 ++ records_of l)
              (ap (to_last file) same ∙ more.1)
              ∙ ap (λ (l : List ℕ). header_of version 0 ++ l) (records_append all more.0),
        )

-- ---- the first file halted

kept_down : (a b : List ℕ) (before other xs ys : List Entry) (V : List Entry → Type 0) (all : List Placed)
    → Halted Down before other Any V all → V ys → Later (lawful_of Up b) all V → (file : Dir)
    → is_ended (of_file file (lawful_of Down a).end (lawful_of Up b).end) ≡ false
    → (more : List Placed) × (to_last file (all ++ merged xs ys) ≡ all ++ more)
kept_down a b before other xs ys V all h v later Down bad = last_front Down all (merged xs ys) h.closes
kept_down a b before other xs ys V all h v later Up bad =
    elim (later bad) [
      | inl none ↦ (
        to_last Up (all ++ merged xs ys),
        ap (λ (l : List Placed). l ++ to_last Up (all ++ merged xs ys)) (sym none),
      )
      | inr some ↦
          let y = some ys v in (
            to_last Up (merged xs ys),
            last_more Up all (merged xs ys)
                (ap (λ (l : List Entry). has_of Up (merged xs l)) y.2 ∙ has_up xs y.0 y.1),
          )
    ]

pub front_down : (a b : List ℕ) (before other : List Entry) (V : List Entry → Type 0) (all : List Placed)
    → Halted Down before other Any V all → Faces Down a before Any → Faces Up b other V
    → Later (lawful_of Up b) all V → IsFrontOf (records_of all) a b
front_down a b before other V all h f g later =
    front_of a b all (merged f.more g.more)
    (ap (λ (l : List Entry). merged l (lawful_of Up b).items) f.items_are
    ∙ ap (merged (before ++ f.more)) g.items_are ∙ h.on f.more g.more tt g.holds)
    (kept_down a b before other f.more g.more V all h g.holds later)

pub short_down : (a b read read2 : List ℕ) (rest rest2 : Option (List ℕ)) (before other : List Entry)
    (V : List Entry → Type 0) (all : List Placed) → Halted Down before other Any V all
    → IsRead read a rest → (lawful_of Down read).items ≡ before
    → IsRead read2 b rest2 → Faces Up read2 other V → IsFrontOf (records_of all) a b
    → ReadShort a b rest rest2 all
short_down a b read read2 rest rest2 before other V all h is items is2 g front = record {
  file = Down;
  read = read;
  other = read2;
  read_is = is;
  other_is = is2;
  all_are = sym (
      ap (λ (l : List Entry). to_last Down (merged l (lawful_of Up read2).items)) (items ∙ none_more before)
      ∙ ap (λ (l : List Entry). to_last Down (merged (before ++ []) l)) g.items_are
      ∙ ap (to_last Down) (h.on [] g.more tt g.holds ∙ ap (λ (l : List Placed). all ++ l) (ups g.more))
      ∙ h.closes.last (map (of Up) g.more) (no_down g.more)
      );
  front = front;
}

-- ---- or the second

abbrev pub More : Lawful → (List Entry → Type 0) → Type 0
More l W =
    is_ended l.end ≡ false → (xs : List Entry) → W xs
    → (x : Entry) × (more : List Entry) × (xs ≡ x ∷ more)

kept_up : (a b : List ℕ) (before other xs ys : List Entry) (W : List Entry → Type 0) (all : List Placed)
    → Halted Up before other W Any all → W xs → More (lawful_of Down a) W → (file : Dir)
    → is_ended (of_file file (lawful_of Down a).end (lawful_of Up b).end) ≡ false
    → (more : List Placed) × (to_last file (all ++ merged xs ys) ≡ all ++ more)
kept_up a b before other xs ys W all h w later Up bad = last_front Up all (merged xs ys) h.closes
kept_up a b before other xs ys W all h w later Down bad =
    let x = later bad xs w in (
      to_last Down (merged xs ys),
      last_more Down all (merged xs ys)
          (ap (λ (l : List Entry). has_of Down (merged l ys)) x.2 ∙ has_down x.0 x.1 ys),
    )

pub front_up : (a b : List ℕ) (before other : List Entry) (W : List Entry → Type 0) (all : List Placed)
    → Halted Up before other W Any all → Faces Down a before W → Faces Up b other Any
    → More (lawful_of Down a) W → IsFrontOf (records_of all) a b
front_up a b before other W all h f g later =
    front_of a b all (merged f.more g.more)
    (ap (λ (l : List Entry). merged l (lawful_of Up b).items) f.items_are
    ∙ ap (merged (before ++ f.more)) g.items_are ∙ h.on f.more g.more f.holds tt)
    (kept_up a b before other f.more g.more W all h f.holds later)

pub short_up : (a b read read2 : List ℕ) (rest rest2 : Option (List ℕ)) (before other : List Entry)
    (W : List Entry → Type 0) (all : List Placed) → Halted Up before other W Any all
    → IsRead read a rest → Faces Down read before W
    → IsRead read2 b rest2 → (lawful_of Up read2).items ≡ other → IsFrontOf (records_of all) a b
    → ReadShort a b rest rest2 all
short_up a b read read2 rest rest2 before other W all h is f is2 items front = record {
  file = Up;
  read = read;
  other = read2;
  read_is = is;
  other_is = is2;
  all_are = sym (
      ap (λ (l : List Entry). to_last Up (merged (lawful_of Down read).items l)) (items ∙ none_more other)
      ∙ ap (λ (l : List Entry). to_last Up (merged l (other ++ []))) f.items_are
      ∙ ap (to_last Up) (h.on f.more [] f.holds tt ∙ ap (λ (l : List Placed). all ++ l) (downs f.more))
      ∙ h.closes.last (map (of Down) f.more) (no_up f.more)
      );
  front = front;
}
