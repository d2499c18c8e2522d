-- Two files on the way: by the item that is next, and by what comes of it.
use Rattle.std.proofs.Common.{◌≡◌, ℕ, ◌+◌, ◌⊎◌, inl, inr, Bool, true, false, List, [], ◌∷◌, ◌++◌, length}
use Rattle.std.proofs.Common.{map, refl, ap, sym, subst, ◌∙◌, arith, append_assoc, append-nil}
use Rattle.std.proofs.Common.{length-append, nat_lt, Option, Some, None, Result, Ok, Err}
use Rattle.std.specs.List.{concat}
use Rattle.pl_base.specs.declared.link.Dir.{Dir}
use Rattle.pl_base.specs.declared.link.Dir.TheVariants.{Down, Up}
use Rattle.pl_capture.specs.Entry.{Entry}
use Rattle.pl_capture.specs.Record.{record_of}
use Rattle.pl_capture.specs.Standing.{lent, Phase, Holding}
use Rattle.pl_page.specs.Gathers.{Fails, Gathers, Tells}
use Rattle.pl_merge.specs.declared.end.End.{End}
use Rattle.pl_merge.specs.declared.end.Halt.{Halt}
use Rattle.pl_merge.specs.declared.end.Halt.TheVariants as halt
use Rattle.pl_merge.specs.Lawful.{Lawful, lawful_of}
use Rattle.pl_merge.specs.Merged.{Placed, of, merged, is_ended}
use Rattle.pl_merge.specs.Output.{records_of}
use Rattle.pl_merge.specs.Sides.{Comes, Halts, Lends, Lost, Over, Reached, Sight, Stops, Waits}
use Rattle.pl_merge.specs.Mixing.{Begins, Cut, Decides, IsFrontOf, IsRead, IsSplit, MixHalts, Mixed, Mixes}
use Rattle.pl_merge.specs.Mixing.{PassHalts, ReadShort, next_by, next_of, time_of}
use Rattle.pl_merge.proofs.Merges.{Closes, closes_none, closes_one, split_down, split_up}
use Rattle.pl_merge.proofs.Outcomes.{Any, Faces, Halted, Later, More, front_down, front_up, lost_read}
use Rattle.pl_merge.proofs.Outcomes.{reached_faces, reached_read, records_append, short_down, short_up}
use Rattle.pl_merge.proofs.Outcomes.{stop_down, stop_up, waits_faces, waits_read, waits_some}

-- ---- what is next

down_by : (a b : ℕ) (early : Bool) → nat_lt b a ≡ early → next_by (Some a) (Some b) ≡ Some Down → nat_lt b a ≡ false
down_by a b true early h = let up = rw early at h in absurd cc
down_by a b false late h = late

pub next_down : (w v : Option Entry) → next_of w v ≡ Some Down
    → (x : Entry) × (w ≡ Some x) × ((y : Entry) → v ≡ Some y → nat_lt y.time x.time ≡ false)
next_down None None h = absurd cc
next_down None (Some y) h = absurd cc
next_down (Some x) None h = (x, refl, λ y e. absurd cc)
next_down (Some x) (Some z) h = (
  x,
  refl,
  λ y e.
      let same : z ≡ y = cc in
      ap (λ (y : Entry). nat_lt y.time x.time) (sym same) ∙ down_by x.time z.time (nat_lt z.time x.time) refl h,
)

up_by : (a b : ℕ) (early : Bool) → nat_lt b a ≡ early → next_by (Some a) (Some b) ≡ Some Up → nat_lt b a ≡ true
up_by a b true early h = early
up_by a b false late h = let down = rw late at h in absurd cc

pub next_up : (w v : Option Entry) → next_of w v ≡ Some Up
    → (y : Entry) × (v ≡ Some y) × ((x : Entry) → w ≡ Some x → nat_lt y.time x.time ≡ true)
next_up None None h = absurd cc
next_up (Some x) None h = absurd cc
next_up None (Some y) h = (y, refl, λ x e. absurd cc)
next_up (Some z) (Some y) h = (
  y,
  refl,
  λ x e.
      let same : z ≡ x = cc in
      ap (λ (x : Entry). nat_lt y.time x.time) (sym same) ∙ up_by z.time y.time (nat_lt y.time z.time) refl h,
)

none_by : (a b : ℕ) (early : Bool) → nat_lt b a ≡ early → next_by (Some a) (Some b) ≡ None → ⊥
none_by a b true early h = let some = rw early at h in cc
none_by a b false late h = let some = rw late at h in cc

pub next_none : (w v : Option Entry) → next_of w v ≡ None → (w ≡ None) × (v ≡ None)
next_none None None h = (refl, refl)
next_none None (Some y) h = absurd cc
next_none (Some x) None h = absurd cc
next_none (Some x) (Some y) h = absurd (none_by x.time y.time (nat_lt y.time x.time) refl h)

-- the item that is lent
pub lent_some : (phase : Phase) (x : Entry) → lent phase ≡ Some x → phase ≡ Holding x
lent_some (Rattle.pl_capture.specs.Standing.Waiting pending) x h = absurd cc
lent_some (Holding y) x h = let same : y ≡ x = cc in ap Holding same
lent_some Rattle.pl_capture.specs.Standing.Done x h = absurd cc
lent_some (Rattle.pl_capture.specs.Standing.Stopped s) x h = absurd cc

-- ---- the texts

text_one : (head : List ℕ) (all : List Placed) (file : Dir) (x : Entry)
    → (head ++ records_of all) ++ record_of x ≡ head ++ records_of (all ++ of file x ∷ [])
text_one head all file x =
    append_assoc head (records_of all) (record_of x)
    ∙ ap (λ (l : List ℕ). head ++ l) (ap (λ (l : List ℕ). records_of all ++ l) (sym (append-nil (record_of x)))
    ∙ sym (records_append all (of file x ∷ [])))

-- ---- what is known of the other file

faces_up : (two : Sight) (rest2 second : Option (List ℕ)) (other : List Entry) (v : Option Entry)
    (all : List Placed) → two.dir ≡ Up → Waits two rest2 second other v → (b : List ℕ) → second ≡ Some b
    → Faces Up b other (Begins v) × Later (lawful_of Up b) all (Begins v)
faces_up two rest2 second other v all up waits b is = (
  subst (λ (d : Dir). Faces d b other (Begins v)) up (waits_faces two rest2 second other v b waits is),
  λ bad.
      let some = waits_some two rest2 second other v b waits is (ap (λ (d : Dir). is_ended (lawful_of d b).end) up ∙ bad) in
      inr (λ ys begins.
      let at = subst (λ (o : Option Entry). Begins o ys) some.1 begins in (some.0, at.0, at.1)),
)

faces_down : (one : Sight) (rest first : Option (List ℕ)) (before : List Entry) (w : Option Entry)
    → one.dir ≡ Down → Waits one rest first before w → (a : List ℕ) → first ≡ Some a
    → Faces Down a before (Begins w) × More (lawful_of Down a) (Begins w)
faces_down one rest first before w down waits a is = (
  subst (λ (d : Dir). Faces d a before (Begins w)) down (waits_faces one rest first before w a waits is),
  λ bad xs begins.
      let some = waits_some one rest first before w a waits is (ap (λ (d : Dir). is_ended (lawful_of d a).end) down ∙ bad) in
      let at = subst (λ (o : Option Entry). Begins o xs) some.1 begins in (some.0, at.0, at.1),
)

any_faces : (dir : Dir) (a : List ℕ) (before : List Entry) (x : Entry) → Faces dir a before (Begins (Some x))
    → Faces dir a (before ++ x ∷ []) Any
any_faces dir a before x f = record {
  more = f.holds.0;
  items_are = f.items_are ∙ ap (λ (l : List Entry). before ++ l) f.holds.1
      ∙ sym (append_assoc before (x ∷ []) f.holds.0);
  holds = tt;
}

lost_faces : (s : Sight) (rest file : Option (List ℕ)) (items : List Entry) (dir : Dir) → s.dir ≡ dir
    → Lost s rest file items → (a : List ℕ) → file ≡ Some a → Faces dir a items Any
lost_faces s rest file items dir same l a is =
    let front = reached_faces s rest file items a l.reached is in
    record {
      more = front.0;
      items_are = ap (λ (d : Dir). (lawful_of d a).items) (sym same) ∙ front.1;
      holds = tt;
    }

reached_any : (s : Sight) (rest file : Option (List ℕ)) (items : List Entry) (dir : Dir) → s.dir ≡ dir
    → Reached s rest file items → (a : List ℕ) → file ≡ Some a → Faces dir a items Any
reached_any s rest file items dir same r a is =
    let front = reached_faces s rest file items a r is in
    record {
      more = front.0;
      items_are = ap (λ (d : Dir). (lawful_of d a).items) (sym same) ∙ front.1;
      holds = tt;
    }

stopped_items : {e : End} (s : Sight) (file : Option (List ℕ)) → s.dir ≡ Up → Stops s.dir file [] e
    → (b : List ℕ) → file ≡ Some b → (lawful_of Up b).items ≡ []
stopped_items s file up stops b is =
    ap (λ (d : Dir). (lawful_of d b).items) (sym up) ∙ ap (λ (l : Lawful). l.items) (stops.lawful b is)

-- ---- an item of the first file

after_down : (before other : List Entry) (x : Entry) (v : Option Entry) (all : List Placed)
    → IsSplit before other (Some x) v all → ((y : Entry) → v ≡ Some y → nat_lt y.time x.time ≡ false)
    → Halted Down (before ++ x ∷ []) other Any (Begins v) (all ++ of Down x ∷ [])
after_down before other x v all split late = record {
  on = λ xs ys any begins. split_down before other x v all split late xs ys begins;
  closes = closes_one Down all x;
}

-- the first file halts when these were merged
halts_down : (h : Halt) (first second : Option (List ℕ)) (one two : Sight)
    (rest rest2 : Option (List ℕ)) (page head text : List ℕ) (start now : Tells)
    (before other : List Entry) (v : Option Entry) (all : List Placed) → text ≡ head ++ records_of all
    → one.dir ≡ Down → two.dir ≡ Up → Halted Down before other Any (Begins v) all
    → ((a : List ℕ) → first ≡ Some a → Faces Down a before Any)
    → Waits two rest2 second other v
    → PassHalts h one rest first before page text start now
    → MixHalts h first second rest rest2 page head start now
halts_down (halt.Stops e) first second one two rest rest2 page head text start now before other v all same down up h faces waits (stops, g) = (
  record { all = all; gathers = subst (λ (t : List ℕ). Gathers [] page t start now) same g },
  stop_down first second before other all e Any (Begins v) h tt
      (λ b is. faces_up two rest2 second other v all up waits b is)
      (subst (λ (d : Dir). Stops d first before e) down stops),
)
halts_down halt.ReadFault first second one two rest rest2 page head text start now before other v all same down up h faces waits (lost, g) = (
  record { all = all; gathers = subst (λ (t : List ℕ). Gathers [] page t start now) same g },
  λ a b is is2.
      let mine = lost_read one rest first before a lost is in
      let its = waits_read two rest2 second other v b waits is2 in
      let up_faces = faces_up two rest2 second other v all up waits b is2 in
      short_down a b mine.0 its.0 rest rest2 before other (Begins v) all h mine.1
      (ap (λ (d : Dir). (lawful_of d mine.0).items) (sym down) ∙ mine.2) its.1
      (subst (λ (d : Dir). Faces d its.0 other (Begins v)) up its.2)
      (front_down a b before other (Begins v) all h (faces a is) up_faces.0 up_faces.1),
)
halts_down halt.WriteFault first second one two rest rest2 page head text start now before other v all same down up h faces waits fails = (
  records_of all,
  subst (λ (t : List ℕ). Fails t start now) same fails,
  λ a b is is2.
      let up_faces = faces_up two rest2 second other v all up waits b is2 in
      front_down a b before other (Begins v) all h (faces a is) up_faces.0 up_faces.1,
)

after_up : (before other : List Entry) (w : Option Entry) (y : Entry) (all : List Placed)
    → IsSplit before other w (Some y) all → ((x : Entry) → w ≡ Some x → nat_lt y.time x.time ≡ true)
    → Halted Up before (other ++ y ∷ []) (Begins w) Any (all ++ of Up y ∷ [])
after_up before other w y all split early = record {
  on = λ xs ys begins any. split_up before other w y all split early xs ys begins;
  closes = closes_one Up all y;
}

-- or the second file does
halts_up : (h : Halt) (first second : Option (List ℕ)) (one two : Sight)
    (rest rest2 : Option (List ℕ)) (page head text : List ℕ) (start now : Tells)
    (before other : List Entry) (w : Option Entry) (all : List Placed) → text ≡ head ++ records_of all
    → one.dir ≡ Down → two.dir ≡ Up → Halted Up before other (Begins w) Any all
    → ((b : List ℕ) → second ≡ Some b → Faces Up b other Any)
    → Waits one rest first before w
    → PassHalts h two rest2 second other page text start now
    → MixHalts h first second rest rest2 page head start now
halts_up (halt.Stops e) first second one two rest rest2 page head text start now before other w all same down up h faces waits (stops, g) = (
  record { all = all; gathers = subst (λ (t : List ℕ). Gathers [] page t start now) same g },
  stop_up first second before other all e (Begins w) Any h tt
      (λ a is. faces_down one rest first before w down waits a is)
      (subst (λ (d : Dir). Stops d second other e) up stops),
)
halts_up halt.ReadFault first second one two rest rest2 page head text start now before other w all same down up h faces waits (lost, g) = (
  record { all = all; gathers = subst (λ (t : List ℕ). Gathers [] page t start now) same g },
  λ a b is is2.
      let its = lost_read two rest2 second other b lost is2 in
      let mine = waits_read one rest first before w a waits is in
      let down_faces = faces_down one rest first before w down waits a is in
      short_up a b mine.0 its.0 rest rest2 before other (Begins w) all h mine.1
      (subst (λ (d : Dir). Faces d mine.0 before (Begins w)) down mine.2) its.1
      (ap (λ (d : Dir). (lawful_of d its.0).items) (sym up) ∙ its.2)
      (front_up a b before other (Begins w) all h down_faces.0 (faces b is2) down_faces.1),
)
halts_up halt.WriteFault first second one two rest rest2 page head text start now before other w all same down up h faces waits fails = (
  records_of all,
  subst (λ (t : List ℕ). Fails t start now) same fails,
  λ a b is is2.
      let down_faces = faces_down one rest first before w down waits a is in
      front_up a b before other (Begins w) all h down_faces.0 (faces b is2) down_faces.1,
)

-- ---- the state of both

pub down_lends : {first second : Option (List ℕ)} {one two : Sight} {rest rest2 : Option (List ℕ)}
    {page head : List ℕ} {start t : Tells} {count : ℕ}
    (m : Mixed first second one two rest rest2 page head start t count) (x : Entry)
    → lent one.reader.phase ≡ Some x → Lends one rest first m.before x
down_lends {first} {second} {one} {two} {rest} m x e =
    subst (λ (w : Option Entry). Waits one rest first m.before w) e m.one_waits

pub up_lends : {first second : Option (List ℕ)} {one two : Sight} {rest rest2 : Option (List ℕ)}
    {page head : List ℕ} {start t : Tells} {count : ℕ}
    (m : Mixed first second one two rest rest2 page head start t count) (y : Entry)
    → lent two.reader.phase ≡ Some y → Lends two rest2 second m.other y
up_lends {first} {second} {one} {two} {rest} {rest2} m y e =
    subst (λ (v : Option Entry). Waits two rest2 second m.other v) e m.two_waits

split_some : {before other : List Entry} {w v : Option Entry} {all : List Placed} (w' v' : Option Entry)
    → w ≡ w' → v ≡ v' → IsSplit before other w v all → IsSplit before other w' v' all
split_some {before} {other} {w} {v} {all} w' v' e f s =
    subst (λ (o : Option Entry). IsSplit before other o v' all) e
    (subst (λ (o : Option Entry). IsSplit before other w o all) f s)

counted_one : (all : List Placed) (p : Placed) (count : ℕ) → count ≡ length all
    → count + 1 ≡ length (all ++ p ∷ [])
counted_one all p count h = omega (arith, h, length-append all (p ∷ []))

pub down_on : {first second : Option (List ℕ)} {one two : Sight} {rest rest2 : Option (List ℕ)}
    {page head : List ℕ} {start t : Tells} {count : ℕ}
    (m : Mixed first second one two rest rest2 page head start t count) (x : Entry)
    (one' : Sight) (rest' : Option (List ℕ)) (page' : List ℕ) (t' : Tells)
    → lent one.reader.phase ≡ Some x
    → ((y : Entry) → lent two.reader.phase ≡ Some y → nat_lt y.time x.time ≡ false)
    → Waits one' rest' first (m.before ++ x ∷ []) (lent one'.reader.phase)
    × Gathers [] page' ((head ++ records_of m.all) ++ record_of x) start t'
    → Mixed first second one' two rest' rest2 page' head start t' (count + 1)
down_on {first} {second} {one} {two} {rest} {rest2} {page} {head} {start} {t} {count} m x one' rest' page' t' e late (waits, g) =
    let split = split_some (Some x) (lent two.reader.phase) e refl m.split in
    let after = after_down m.before m.other x (lent two.reader.phase) m.all split late in
    record {
      before = m.before ++ x ∷ [];
      other = m.other;
      all = m.all ++ of Down x ∷ [];
      one_waits = waits;
      two_waits = m.two_waits;
      split = record { on = λ xs ys begins its. after.on xs ys tt its };
      gathers = subst (λ (l : List ℕ). Gathers [] page' l start t') (text_one head m.all Down x) g;
      counted = counted_one m.all (of Down x) count m.counted;
    }

pub up_on : {first second : Option (List ℕ)} {one two : Sight} {rest rest2 : Option (List ℕ)}
    {page head : List ℕ} {start t : Tells} {count : ℕ}
    (m : Mixed first second one two rest rest2 page head start t count) (y : Entry)
    (two' : Sight) (rest2' : Option (List ℕ)) (page' : List ℕ) (t' : Tells)
    → lent two.reader.phase ≡ Some y
    → ((x : Entry) → lent one.reader.phase ≡ Some x → nat_lt y.time x.time ≡ true)
    → Waits two' rest2' second (m.other ++ y ∷ []) (lent two'.reader.phase)
    × Gathers [] page' ((head ++ records_of m.all) ++ record_of y) start t'
    → Mixed first second one two' rest rest2' page' head start t' (count + 1)
up_on {first} {second} {one} {two} {rest} {rest2} {page} {head} {start} {t} {count} m y two' rest2' page' t' e early (waits, g) =
    let split = split_some (lent one.reader.phase) (Some y) refl e m.split in
    let after = after_up m.before m.other (lent one.reader.phase) y m.all split early in
    record {
      before = m.before;
      other = m.other ++ y ∷ [];
      all = m.all ++ of Up y ∷ [];
      one_waits = m.one_waits;
      two_waits = waits;
      split = record { on = λ xs ys mine begins. after.on xs ys mine tt };
      gathers = subst (λ (l : List ℕ). Gathers [] page' l start t') (text_one head m.all Up y) g;
      counted = counted_one m.all (of Up y) count m.counted;
    }

pub down_halts : {first second : Option (List ℕ)} {one two : Sight} {rest rest2 : Option (List ℕ)}
    {page head : List ℕ} {start t : Tells} {count : ℕ} (h : Halt)
    (m : Mixed first second one two rest rest2 page head start t count) (x : Entry)
    (one' : Sight) (rest' : Option (List ℕ)) (page' : List ℕ) (t' : Tells)
    → lent one.reader.phase ≡ Some x
    → ((y : Entry) → lent two.reader.phase ≡ Some y → nat_lt y.time x.time ≡ false)
    → one.dir ≡ Down → one'.dir ≡ Down → two.dir ≡ Up
    → PassHalts h one' rest' first (m.before ++ x ∷ []) page' ((head ++ records_of m.all) ++ record_of x) start t'
    → MixHalts h first second rest' rest2 page' head start t'
down_halts {first} {second} {one} {two} {rest} {rest2} {page} {head} {start} {t} {count} h m x one' rest' page' t' e late was down up p =
    let split = split_some (Some x) (lent two.reader.phase) e refl m.split in
    halts_down h first second one' two rest' rest2 page' head ((head ++ records_of m.all) ++ record_of x) start t'
    (m.before ++ x ∷ []) m.other (lent two.reader.phase) (m.all ++ of Down x ∷ [])
    (text_one head m.all Down x) down up
    (after_down m.before m.other x (lent two.reader.phase) m.all split late)
    (λ a is. any_faces Down a m.before x (faces_down one rest first m.before (Some x) was (down_lends m x e) a is).0)
    m.two_waits p

pub up_halts : {first second : Option (List ℕ)} {one two : Sight} {rest rest2 : Option (List ℕ)}
    {page head : List ℕ} {start t : Tells} {count : ℕ} (h : Halt)
    (m : Mixed first second one two rest rest2 page head start t count) (y : Entry)
    (two' : Sight) (rest2' : Option (List ℕ)) (page' : List ℕ) (t' : Tells)
    → lent two.reader.phase ≡ Some y
    → ((x : Entry) → lent one.reader.phase ≡ Some x → nat_lt y.time x.time ≡ true)
    → one.dir ≡ Down → two.dir ≡ Up → two'.dir ≡ Up
    → PassHalts h two' rest2' second (m.other ++ y ∷ []) page' ((head ++ records_of m.all) ++ record_of y) start t'
    → MixHalts h first second rest rest2' page' head start t'
up_halts {first} {second} {one} {two} {rest} {rest2} {page} {head} {start} {t} {count} h m y two' rest2' page' t' e early down was up p =
    let split = split_some (lent one.reader.phase) (Some y) refl e m.split in
    halts_up h first second one two' rest rest2' page' head ((head ++ records_of m.all) ++ record_of y) start t'
    m.before (m.other ++ y ∷ []) (lent one.reader.phase) (m.all ++ of Up y ∷ [])
    (text_one head m.all Up y) down up
    (after_up m.before m.other (lent one.reader.phase) y m.all split early)
    (λ b is. any_faces Up b m.other y (faces_up two rest2 second m.other (Some y) m.all was (up_lends m y e) b is).0)
    m.one_waits p

-- ---- before any item

start_halted : (file : Dir) (W V : List Entry → Type 0) → Halted file [] [] W V []
start_halted file W V = record { on = λ xs ys w v. refl; closes = closes_none file }

no_records : (head : List ℕ) → head ≡ head ++ records_of []
no_records head = sym (append-nil head)

pub start_mixed : (first second : Option (List ℕ)) (one two : Sight) (rest rest2 : Option (List ℕ))
    (page head : List ℕ) (start t : Tells)
    → Waits one rest first [] (lent one.reader.phase) → Waits two rest2 second [] (lent two.reader.phase)
    → Gathers [] page head start t → Mixed first second one two rest rest2 page head start t 0
start_mixed first second one two rest rest2 page head start t mine its g = record {
  before = [];
  other = [];
  all = [];
  one_waits = mine;
  two_waits = its;
  split = record { on = λ xs ys w v. refl };
  gathers = subst (λ (l : List ℕ). Gathers [] page l start t) (no_records head) g;
  counted = refl;
}

pub start_down : (h : Halt) (first second : Option (List ℕ)) (one two : Sight)
    (rest rest2 : Option (List ℕ)) (page head : List ℕ) (start t : Tells)
    → one.dir ≡ Down → two.dir ≡ Up → Halts h one rest first [] → Reached two rest2 second []
    → Gathers [] page head start t → MixHalts h first second rest rest2 page head start t
start_down (halt.Stops e) first second one two rest rest2 page head start t down up stops r g = (
  record { all = []; gathers = subst (λ (l : List ℕ). Gathers [] page l start t) (no_records head) g },
  stop_down first second [] [] [] e Any Any (start_halted Down Any Any) tt
      (λ b is. (reached_any two rest2 second [] Up up r b is, λ bad. inl refl))
      (subst (λ (d : Dir). Stops d first [] e) down stops),
)
start_down halt.ReadFault first second one two rest rest2 page head start t down up lost r g = (
  record { all = []; gathers = subst (λ (l : List ℕ). Gathers [] page l start t) (no_records head) g },
  λ a b is is2.
      let mine = lost_read one rest first [] a lost is in
      let its = reached_read two rest2 second [] b r is2 in
      short_down a b mine.0 its.0 rest rest2 [] [] Any [] (start_halted Down Any Any) mine.1
      (ap (λ (d : Dir). (lawful_of d mine.0).items) (sym down) ∙ mine.2) its.1
      (subst (λ (d : Dir). Faces d its.0 [] Any) up its.2)
      (front_down a b [] [] Any [] (start_halted Down Any Any) (lost_faces one rest first [] Down down lost a is)
      (reached_any two rest2 second [] Up up r b is2) (λ bad. inl refl)),
)
start_down halt.WriteFault first second one two rest rest2 page head start t down up never r g = absurd never

pub start_up : (h : Halt) (first second : Option (List ℕ)) (one two : Sight)
    (rest rest2 : Option (List ℕ)) (page head : List ℕ) (start t : Tells)
    → one.dir ≡ Down → two.dir ≡ Up → Waits one rest first [] (lent one.reader.phase)
    → Halts h two rest2 second []
    → Gathers [] page head start t → MixHalts h first second rest rest2 page head start t
start_up (halt.Stops e) first second one two rest rest2 page head start t down up waits stops g =
    halts_up (halt.Stops e) first second one two rest rest2 page head head start t [] [] (lent one.reader.phase) []
    (no_records head) down up (start_halted Up (Begins (lent one.reader.phase)) Any)
    (λ b is. record { more = []; items_are = stopped_items two second up stops b is; holds = tt }) waits (stops, g)
start_up halt.ReadFault first second one two rest rest2 page head start t down up waits lost g =
    halts_up halt.ReadFault first second one two rest rest2 page head head start t [] [] (lent one.reader.phase) []
    (no_records head) down up (start_halted Up (Begins (lent one.reader.phase)) Any)
    (λ b is. lost_faces two rest2 second [] Up up lost b is) waits (lost, g)
start_up halt.WriteFault first second one two rest rest2 page head start t down up waits never g = absurd never
