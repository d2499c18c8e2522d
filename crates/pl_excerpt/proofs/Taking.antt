-- A capture on the way, by each answer of the reader.
use Rattle.std.proofs.Common.{◌≡◌, ℕ, ◌+◌, ◌-◌, ◌≤◌, List, [], ◌∷◌, ◌++◌, length}
use Rattle.std.proofs.Common.{take, drop, refl, ap, sym, ◌∙◌, arith, append_assoc}
use Rattle.std.proofs.Common.{append-nil, length-append, length-take, nat_lt, Option, Some, None, zero, suc}
use Rattle.std.proofs.Math.ListN.{drop_of_length-le}
use Rattle.std.proofs.Math.Seq.{drop-nil, take-append-add}
use Rattle.std.proofs.lemmas.List.{take-append-drop}
use Rattle.pl_base.specs.declared.stop.Stop.{Stop}
use Rattle.pl_io.specs.Told.{ahead}
use Rattle.pl_io.proofs.Told.{ahead-ahead}
use Rattle.pl_capture.specs.Entry.{Entry}
use Rattle.pl_capture.specs.Reading.{Reading, reading, Bad}
use Rattle.pl_capture.specs.Standing.{Standing, StandsFor, Waiting, Done, Stopped}
use Rattle.pl_capture.specs.Standing.{NeedsMore, GivesItem, ReachesEnd, Refuses}
use Rattle.pl_capture.proofs.Wholes.{whole_stays}
use Rattle.pl_excerpt.specs.declared.source.Ended.TheVariants as ended
use Rattle.pl_excerpt.specs.Answer.{answer_at, limit}
use Rattle.pl_excerpt.specs.Sources.{Sight, TookBytes, Reached, Lends, HasAll}
use Rattle.pl_excerpt.proofs.Longer.{waiting_goes, holding_goes, done_goes, stopped_is}

-- what is left of a file that is told
told_by : (bytes left whole : List ℕ) (rest : Option (List ℕ))
    → Some whole ≡ ahead bytes (ahead left rest)
    → (r : List ℕ) × (rest ≡ Some r) × (whole ≡ bytes ++ (left ++ r))
told_by bytes left whole None h = absurd cc
told_by bytes left whole (Some r) h = (r, refl, cc h)

pub told : {source : Sight} {rest file : Option (List ℕ)} {bytes : List ℕ} (whole : List ℕ)
    → TookBytes source rest file bytes → file ≡ Some whole
    → (r : List ℕ) × (rest ≡ Some r) × (whole ≡ bytes ++ (source.left ++ r))
told {source} {rest} {file} {bytes} whole t h =
    told_by bytes source.left whole rest (sym h ∙ t.file_is)

-- the source, once its reader took a part of what was left
abbrev pub moved : Standing → List ℕ → ℕ → Sight
moved reader left used = record {
  reader = reader;
  left = left;
  used = used;
}

took_on : (s : Sight) (reader : Standing) (rest file : Option (List ℕ))
    (bytes part left : List ℕ) (used : ℕ)
    → s.left ≡ part ++ left → used ≡ s.used + length part → StandsFor reader (bytes ++ part)
    → ((t : Stop) → (reading (bytes ++ part)).ending ≡ Bad t → ⊥)
    → TookBytes s rest file bytes
    → TookBytes (moved reader left used) rest file (bytes ++ part)
took_on s reader rest file bytes part left used split size stands goes t = record {
  file_is = t.file_is ∙ ap (λ (l : List ℕ). ahead bytes (ahead l rest)) split
      ∙ ap (ahead bytes) (sym (ahead-ahead rest part left))
      ∙ ahead-ahead (ahead left rest) bytes part;
  stands = stands;
  goes_on = goes;
  used = size ∙ ap (λ (n : ℕ). n + length part) t.used ∙ sym (length-append bytes part);
  within = omega (
    arith,
    t.within,
    size,
    ap (λ (l : List ℕ). length l) split,
    length-append part left,
  );
}

pub fed_more : (s : Sight) (reader : Standing) (left : List ℕ) (used : ℕ)
    (rest file : Option (List ℕ)) (items : List Entry) → left ≡ [] → used ≡ s.used + length s.left
    → ((before : List ℕ) → StandsFor s.reader before → NeedsMore before s.left reader)
    → ((pending : List ℕ) × (reader.phase ≡ Waiting pending))
    → Reached s rest file items → Reached (moved reader left used) rest file items
fed_more s reader left used rest file items none size answers waits r =
    let a = answers r.bytes r.took.stands in
    record {
      bytes = r.bytes ++ s.left;
      took = took_on s reader rest file r.bytes s.left left used
          (sym (append-nil s.left) ∙ ap (λ (l : List ℕ). s.left ++ l) (sym none)) size a.stands
          (waiting_goes reader (r.bytes ++ s.left) waits.0 waits.1 a.stands) r.took;
      items_are = a.items ∙ r.items_are;
    }

pub fed_end : (s : Sight) (reader : Standing) (n : ℕ) (left : List ℕ) (used : ℕ)
    (rest file : Option (List ℕ)) (items : List Entry) → s.left ≡ take n s.left ++ left
    → used ≡ s.used + length (take n s.left)
    → ((before : List ℕ) → StandsFor s.reader before → ReachesEnd before (take n s.left) reader)
    → reader.phase ≡ Done
    → Reached s rest file items → Reached (moved reader left used) rest file items
fed_end s reader n left used rest file items split size answers done r =
    let a = answers r.bytes r.took.stands in
    record {
      bytes = r.bytes ++ take n s.left;
      took = took_on s reader rest file r.bytes (take n s.left) left used split size a.stands
          (done_goes reader (r.bytes ++ take n s.left) done a.stands) r.took;
      items_are = a.items ∙ r.items_are;
    }

pub fed_item : (s : Sight) (reader : Standing) (n : ℕ) (left : List ℕ) (used : ℕ)
    (rest file : Option (List ℕ)) (items : List Entry) → s.left ≡ take n s.left ++ left
    → used ≡ s.used + length (take n s.left)
    → ((before : List ℕ) → StandsFor s.reader before → GivesItem before (take n s.left) reader)
    → Reached s rest file items
    → (x : Entry) × Lends (moved reader left used) rest file items x
fed_item s reader n left used rest file items split size answers r =
    let a = answers r.bytes r.took.stands in (
      a.item,
      record {
        reached = record {
          bytes = r.bytes ++ take n s.left;
          took = took_on s reader rest file r.bytes (take n s.left) left used split size a.stands
              (holding_goes reader (r.bytes ++ take n s.left) a.item a.holds a.stands) r.took;
          items_are = a.items ∙ ap (λ (xs : List Entry). xs ++ a.item ∷ []) r.items_are;
        };
        holds = a.holds;
      },
    )

-- a front that is shorter than what is read
pub front_read : (bytes rest : List ℕ) (n : ℕ) → length bytes ≤ n
    → take n (bytes ++ rest) ≡ bytes ++ take (n - length bytes) rest
front_read bytes rest n le =
    let same : n ≡ length bytes + (n - length bytes) = omega arith in
    ap (λ (k : ℕ). take k (bytes ++ rest)) same ∙ take-append-add bytes rest (n - length bytes)

-- the bytes are refused, whatever comes behind them
bad_reading : (bytes rest : List ℕ) (s : Stop) → length bytes ≤ limit
    → (reading bytes).ending ≡ Bad s → reading (take limit (bytes ++ rest)) ≡ reading bytes
bad_reading bytes rest s le bad =
    ap reading (front_read bytes rest limit le)
    ∙ whole_stays bytes (take (limit - length bytes) rest) s bad

pub fed_bad : (s : Sight) (reader : Standing) (t : Stop) (rest file : Option (List ℕ))
    (items : List Entry)
    → ((before : List ℕ) → StandsFor s.reader before → Refuses before s.left reader)
    → reader.phase ≡ Stopped t → Reached s rest file items
    → HasAll (ended.Refused t) file items
fed_bad s reader t rest file items answers stopped r =
    let a = answers r.bytes r.took.stands in
    let bad = stopped_is reader (r.bytes ++ s.left) t stopped a.stands in
    let le : length (r.bytes ++ s.left) ≤ limit =
    omega (arith, length-append r.bytes s.left, r.took.within, r.took.used) in
    let same : (whole : List ℕ) → file ≡ Some whole
    → reading (take limit whole) ≡ reading (r.bytes ++ s.left) = λ whole is.
    let behind = told whole r.took is in
    ap (λ (b : List ℕ). reading (take limit b)) (behind.2 ∙ sym (append_assoc r.bytes s.left behind.0))
    ∙ bad_reading (r.bytes ++ s.left) behind.0 t le bad in
    record {
      items_are = λ whole is. ap (λ (r : Reading). r.items) (same whole is) ∙ a.items ∙ r.items_are;
      ending_is = λ whole is.
          ap (λ (q : Reading). answer_at q.ending (nat_lt limit (length whole))) (same whole is)
          ∙ rw bad refl;
    }

-- ---- a part of a list

pub drop_all : (n : ℕ) (xs : List ℕ) → drop n (take n xs) ≡ []
drop_all n xs = drop_of_length-le (take n xs) (omega (arith, length-take n xs))

drop_on : (m n : ℕ) (xs : List ℕ) → drop n (drop m xs) ≡ drop (m + n) xs
drop_on zero n xs = ap (λ (k : ℕ). drop k xs) (omega arith)
drop_on (suc m) n [] = drop-nil n ∙ sym (drop-nil (suc m + n))
drop_on (suc m) n (x ∷ xs) = let next : suc m + n ≡ suc (m + n) = omega arith in rw next (drop_on m n xs)

pub parted : (place n : ℕ) (xs : List ℕ) → drop place xs ≡ take n (drop place xs) ++ drop (place + n) xs
parted place n xs =
    sym (take-append-drop n (drop place xs)) ∙ ap (λ (l : List ℕ). take n (drop place xs) ++ l) (drop_on place n xs)
