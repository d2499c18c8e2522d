-- A file on the way: by each answer of the reader, and at the end of the file.
use Rattle.std.proofs.Common.{◌≡◌, ℕ, ◌+◌, ◌<◌, ◌≤◌, Bool, true, false, List, [], ◌∷◌, ◌++◌, length}
use Rattle.std.proofs.Common.{take, drop, refl, ap, sym, subst, ◌∙◌, arith, append_assoc}
use Rattle.std.proofs.Common.{append-nil, length-append, length-take, nat_lt, Option, Some, None, zero, suc}
use Rattle.std.proofs.Math.ListN.{drop_of_length-le}
use Rattle.std.proofs.Math.Seq.{drop-nil, take-nil}
use Rattle.std.proofs.lemmas.List.{take-append-drop, take-take}
use Rattle.pl_base.specs.declared.link.Dir.{Dir}
use Rattle.pl_base.specs.declared.stop.Stop.{Stop}
use Rattle.pl_base.specs.declared.stop.Stop.TheVariants as stop
use Rattle.pl_io.specs.Told.{ahead, AtEnd}
use Rattle.pl_io.proofs.Told.{ahead-ahead}
use Rattle.pl_capture.specs.Entry.{Entry}
use Rattle.pl_capture.specs.Reading.{reading, Bad}
use Rattle.pl_capture.specs.Standing.{Standing, StandsFor, Phase, Waiting, Holding, Done, Stopped}
use Rattle.pl_capture.specs.Standing.{NeedsMore, GivesItem, ReachesEnd, Refuses, lent}
use Rattle.pl_merge.specs.declared.end.End.{End}
use Rattle.pl_merge.specs.declared.end.End.TheVariants as end
use Rattle.pl_merge.specs.Lawful.{end_by, lawful_after, lawful_of, limit, stops, strays}
use Rattle.pl_merge.specs.Merged.{is_ended}
use Rattle.pl_merge.specs.Sides.{Sight, TookBytes, Reached, Unjudged, Lends, Stops}
use Rattle.pl_merge.proofs.Longer.{waiting_goes, holding_goes, done_goes, stopped_is}
use Rattle.pl_merge.proofs.Lawfuls.{bad_stops, falls_stops, item_stops, one_more, strays_stops}

-- what is left of a file that is told
told_by : (bytes left whole : List ℕ) (rest : Option (List ℕ))
    → Some whole ≡ ahead bytes (ahead left rest)
    → (r : List ℕ) × (rest ≡ Some r) × (whole ≡ bytes ++ (left ++ r))
told_by bytes left whole None h = absurd cc
told_by bytes left whole (Some r) h = (r, refl, cc h)

pub told : {side : Sight} {rest file : Option (List ℕ)} {bytes : List ℕ} (whole : List ℕ)
    → TookBytes side rest file bytes → file ≡ Some whole
    → (r : List ℕ) × (rest ≡ Some r) × (whole ≡ bytes ++ (side.left ++ r))
told {side} {rest} {file} {bytes} whole t h =
    told_by bytes side.left whole rest (sym h ∙ t.file_is)

-- the side, once its reader took a part of what was left
abbrev pub moved : Sight → Standing → List ℕ → ℕ → Sight
moved s reader left used = record {
  dir = s.dir;
  reader = reader;
  left = left;
  used = used;
  latest = s.latest;
}

took_on : (s : Sight) (reader : Standing) (rest file : Option (List ℕ))
    (bytes part left : List ℕ) (used : ℕ)
    → s.left ≡ part ++ left → used ≡ s.used + length part → StandsFor reader (bytes ++ part)
    → ((t : Stop) → (reading (bytes ++ part)).ending ≡ Bad t → ⊥)
    → TookBytes s rest file bytes
    → TookBytes (moved s reader left used) rest file (bytes ++ part)
took_on s reader rest file bytes part left used split size stands goes t = record {
  file_is = t.file_is ∙ ap (λ (l : List ℕ). ahead bytes (ahead l rest)) split
      ∙ ap (ahead bytes) (sym (ahead-ahead rest part left))
      ∙ ahead-ahead (ahead left rest) bytes part;
  stands = stands;
  goes_on = goes;
  used = size ∙ ap (λ (n : ℕ). n + length part) t.used ∙ sym (length-append bytes part);
  within = omega (
    arith,
    t.within,
    size,
    ap (λ (l : List ℕ). length l) split,
    length-append part left,
  );
}

pub whole_parts : (bytes part left behind all : List ℕ) → all ≡ part ++ left
    → bytes ++ (all ++ behind) ≡ (bytes ++ part) ++ (left ++ behind)
whole_parts bytes part left behind all split =
    ap (λ (l : List ℕ). bytes ++ (l ++ behind)) split
    ∙ ap (λ (l : List ℕ). bytes ++ l) (append_assoc part left behind)
    ∙ sym (append_assoc bytes part (left ++ behind))

pub fed_part : (s : Sight) (reader : Standing) (part left : List ℕ) (used : ℕ)
    (rest file : Option (List ℕ)) (items : List Entry) → s.left ≡ part ++ left
    → used ≡ s.used + length part
    → ((before : List ℕ) → StandsFor s.reader before → NeedsMore before part reader)
    → ((pending : List ℕ) × (reader.phase ≡ Waiting pending))
    → Reached s rest file items → Reached (moved s reader left used) rest file items
fed_part s reader part left used rest file items split size answers waits r =
    let a = answers r.bytes r.took.stands in
    record {
      bytes = r.bytes ++ part;
      took = took_on s reader rest file r.bytes part left used split size a.stands
          (waiting_goes reader (r.bytes ++ part) waits.0 waits.1 a.stands) r.took;
      items_are = a.items ∙ r.items_are;
      lawful = r.lawful;
    }

pub fed_more : (s : Sight) (reader : Standing) (left : List ℕ) (used : ℕ)
    (rest file : Option (List ℕ)) (items : List Entry) → left ≡ [] → used ≡ s.used + length s.left
    → ((before : List ℕ) → StandsFor s.reader before → NeedsMore before s.left reader)
    → ((pending : List ℕ) × (reader.phase ≡ Waiting pending))
    → Reached s rest file items → Reached (moved s reader left used) rest file items
fed_more s reader left used rest file items none size answers waits r =
    fed_part s reader s.left left used rest file items
    (sym (append-nil s.left) ∙ ap (λ (l : List ℕ). s.left ++ l) (sym none)) size answers waits r

pub fed_end : (s : Sight) (reader : Standing) (n : ℕ) (left : List ℕ) (used : ℕ)
    (rest file : Option (List ℕ)) (items : List Entry) → s.left ≡ take n s.left ++ left
    → used ≡ s.used + length (take n s.left)
    → ((before : List ℕ) → StandsFor s.reader before → ReachesEnd before (take n s.left) reader)
    → reader.phase ≡ Done
    → Reached s rest file items → Reached (moved s reader left used) rest file items
fed_end s reader n left used rest file items split size answers done r =
    let a = answers r.bytes r.took.stands in
    record {
      bytes = r.bytes ++ take n s.left;
      took = took_on s reader rest file r.bytes (take n s.left) left used split size a.stands
          (done_goes reader (r.bytes ++ take n s.left) done a.stands) r.took;
      items_are = a.items ∙ r.items_are;
      lawful = r.lawful;
    }

-- an item, which isn't judged yet
pub fed_item : (s : Sight) (reader : Standing) (n : ℕ) (left : List ℕ) (used : ℕ)
    (rest file : Option (List ℕ)) (items : List Entry) → s.left ≡ take n s.left ++ left
    → used ≡ s.used + length (take n s.left)
    → ((before : List ℕ) → StandsFor s.reader before → GivesItem before (take n s.left) reader)
    → Reached s rest file items
    → (x : Entry) × (reader.phase ≡ Holding x)
    × Unjudged (moved s reader left used) rest file items x
fed_item s reader n left used rest file items split size answers r =
    let a = answers r.bytes r.took.stands in (
      a.item,
      a.holds,
      record {
        bytes = r.bytes ++ take n s.left;
        took = took_on s reader rest file r.bytes (take n s.left) left used split size a.stands
            (holding_goes reader (r.bytes ++ take n s.left) a.item a.holds a.stands) r.took;
        items_are = a.items ∙ ap (λ (xs : List Entry). xs ++ a.item ∷ []) r.items_are;
        lawful = r.lawful;
      },
    )

pub bad_unlawful : (t : Stop) → is_ended (end_by t) ≡ false
bad_unlawful (stop.Malformed fault place) = refl
bad_unlawful (stop.Unsupported form place) = refl
bad_unlawful (stop.Outstanding most place) = refl
bad_unlawful (stop.Unacknowledged most place) = refl
bad_unlawful stop.Memory = refl

-- a refusal of the first of the bytes that were left
pub bad_part : (s : Sight) (reader : Standing) (t : Stop) (part left : List ℕ)
    (rest file : Option (List ℕ)) (items : List Entry) → s.left ≡ part ++ left
    → ((before : List ℕ) → StandsFor s.reader before → Refuses before part reader)
    → reader.phase ≡ Stopped t → Reached s rest file items → Stops s.dir file items (end_by t)
bad_part s reader t part left rest file items split answers stopped r =
    let a = answers r.bytes r.took.stands in
    let bad = stopped_is reader (r.bytes ++ part) t stopped a.stands in
    let size = ap (λ (l : List ℕ). length l) split in
    let le : length (r.bytes ++ part) ≤ limit =
    omega (
      arith,
      length-append r.bytes part,
      length-append part left,
      r.took.within,
      r.took.used,
      size,
    ) in
    record {
      lawful = λ whole is.
          let behind = told whole r.took is in
          ap (lawful_of s.dir) (behind.2 ∙ whole_parts r.bytes part left behind.0 s.left split)
          ∙ bad_stops s.dir s.latest (r.bytes ++ part) (left ++ behind.0) items t r.lawful
          (a.items ∙ r.items_are) le bad;
      unlawful = bad_unlawful t;
    }

pub fed_bad : (s : Sight) (reader : Standing) (t : Stop) (rest file : Option (List ℕ))
    (items : List Entry)
    → ((before : List ℕ) → StandsFor s.reader before → Refuses before s.left reader)
    → reader.phase ≡ Stopped t → Reached s rest file items → Stops s.dir file items (end_by t)
fed_bad s reader t rest file items answers stopped r =
    bad_part s reader t s.left [] rest file items (sym (append-nil s.left)) answers stopped r

-- ---- the item that is lent

pub lent_is : (phase : Phase) (seen x : Entry) → Some seen ≡ lent phase → phase ≡ Holding x
    → seen ≡ x
lent_is phase seen x h holds = cc (h ∙ ap lent holds)

-- what was asked of the item is known of the one that the reader lends
pub seen_is : (s0 s : Sight) (seen x : Entry) (answer : Bool) → s0 ≡ s
    → Some seen ≡ lent s0.reader.phase → s.reader.phase ≡ Holding x
    → answer ≡ strays s0.dir seen → (strays s.dir x ≡ answer) × (seen ≡ x)
seen_is s0 s seen x answer same h holds asked =
    let p : s0.reader.phase ≡ s.reader.phase = ap (λ (s : Sight). s.reader.phase) same in
    let d : s0.dir ≡ s.dir = ap (λ (s : Sight). s.dir) same in
    let e : seen ≡ x = lent_is s0.reader.phase seen x h (p ∙ holds) in (
      ap (λ (y : Entry). strays s.dir y) (sym e) ∙ ap (λ (d : Dir). strays d seen) (sym d)
          ∙ sym asked,
      e,
    )

unjudged_stops : (s : Sight) (rest file : Option (List ℕ)) (items : List Entry) (x : Entry)
    (e : End) → is_ended e ≡ false
    → ((more : List Entry) (last : End) → lawful_after s.dir s.latest (x ∷ more) last ≡ stops e)
    → Unjudged s rest file items x → Stops s.dir file items e
unjudged_stops s rest file items x e unlawful stopped u = record {
  lawful = λ whole is.
      let behind = told whole u.took is in
      ap (lawful_of s.dir) behind.2
      ∙ item_stops s.dir s.latest u.bytes (s.left ++ behind.0) items x e u.lawful u.items_are
      (omega (arith, u.took.within, u.took.used)) stopped;
  unlawful = unlawful;
}

pub judged_strays : (s : Sight) (rest file : Option (List ℕ)) (items : List Entry) (x : Entry)
    → strays s.dir x ≡ true → Unjudged s rest file items x
    → Stops s.dir file items end.WrongDirection
judged_strays s rest file items x wrong u =
    unjudged_stops s rest file items x end.WrongDirection refl
    (strays_stops s.dir s.latest x wrong) u

pub judged_falls : (s : Sight) (rest file : Option (List ℕ)) (items : List Entry) (x : Entry)
    → strays s.dir x ≡ false → nat_lt x.time s.latest ≡ true → Unjudged s rest file items x
    → Stops s.dir file items end.FallenTime
judged_falls s rest file items x right early u =
    unjudged_stops s rest file items x end.FallenTime refl
    (falls_stops s.dir s.latest x right early) u

-- the side, once its item is lawful
abbrev pub judged : Sight → ℕ → Sight
judged s time = record {
  dir = s.dir;
  reader = s.reader;
  left = s.left;
  used = s.used;
  latest = time;
}

pub judged_lawful : (s : Sight) (rest file : Option (List ℕ)) (items : List Entry) (x : Entry)
    → strays s.dir x ≡ false → nat_lt x.time s.latest ≡ false → s.reader.phase ≡ Holding x
    → Unjudged s rest file items x → Lends (judged s x.time) rest file items x
judged_lawful s rest file items x right late holds u = record {
  reached = record {
    bytes = u.bytes;
    took = record {
      file_is = u.took.file_is;
      stands = u.took.stands;
      goes_on = u.took.goes_on;
      used = u.took.used;
      within = u.took.within;
    };
    items_are = u.items_are;
    lawful = one_more s.dir s.latest items x u.lawful right late;
  };
  holds = holds;
}

-- ---- a part of a list

pub drop_all : (n : ℕ) (xs : List ℕ) → drop n (take n xs) ≡ []
drop_all n xs = drop_of_length-le (take n xs) (omega (arith, length-take n xs))

drop_on : (m n : ℕ) (xs : List ℕ) → drop n (drop m xs) ≡ drop (m + n) xs
drop_on zero n xs = ap (λ (k : ℕ). drop k xs) (omega arith)
drop_on (suc m) n [] = drop-nil n ∙ sym (drop-nil (suc m + n))
drop_on (suc m) n (x ∷ xs) = let next : suc m + n ≡ suc (m + n) = omega arith in rw next (drop_on m n xs)

pub parted : (place n : ℕ) (xs : List ℕ) → drop place xs ≡ take n (drop place xs) ++ drop (place + n) xs
parted place n xs =
    sym (take-append-drop n (drop place xs)) ∙ ap (λ (l : List ℕ). take n (drop place xs) ++ l) (drop_on place n xs)

front_of : (p n : ℕ) (xs : List ℕ) → drop p (take (p + n) xs) ≡ take n (drop p xs)
front_of zero n xs = ap (λ (k : ℕ). take k xs) (omega arith)
front_of (suc p) n [] = ap (λ (l : List ℕ). drop (suc p) l) (take-nil (suc p + n)) ∙ sym (take-nil n)
front_of (suc p) n (x ∷ xs) = let next : suc p + n ≡ suc (p + n) = omega arith in rw next (front_of p n xs)

-- the first of the bytes that are left
pub part_front : (p n f : ℕ) (xs : List ℕ) → p + n ≤ f
    → drop p (take (p + n) xs) ≡ take n (drop p (take f xs))
part_front p n f xs le =
    ap (drop p) (sym (take-take (p + n) f xs le)) ∙ front_of p n (take f xs)
