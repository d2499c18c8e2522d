-- What is promised of two files, by how far their headers could be taken.
use Rattle.std.proofs.Common.{◌≡◌, ◌≢◌, ◌≤◌, ◌⊎◌, inl, inr, ℕ, Bool, true, false, List, [], ◌++◌, length}
use Rattle.std.proofs.Common.{refl, ap, sym, subst, ◌∙◌, arith, Option, Some, None, Result, Ok, Err}
use Rattle.std.specs.Prelude.{IsSome}
use Rattle.pl_base.specs.declared.link.Dir.{Dir}
use Rattle.pl_base.specs.declared.link.Dir.TheVariants.{Down, Up}
use Rattle.pl_io.specs.declared.shelf.Shelf as shelf
use Rattle.pl_io.specs.declared.sink.Sink as sink
use Rattle.pl_io.specs.Faults.{Rose, raised}
use Rattle.pl_io.specs.Told.{ahead, plus}
use Rattle.pl_capture.specs.Reading.{version_read}
use Rattle.pl_page.specs.Gathers.{Tells, tells}
use Rattle.pl_page.proofs.Texts.{plus-nothing}
use Rattle.pl_status.specs.declared.TheConstants.{READ_FAULT, WRITE_FAULT}
use Rattle.pl_merge.specs.declared.end.End.{End}
use Rattle.pl_merge.specs.declared.end.Halt.{Halt}
use Rattle.pl_merge.specs.declared.end.Halt.TheVariants as halt
use Rattle.pl_merge.specs.Lawful.{Lawful, lawful_of}
use Rattle.pl_merge.specs.Output.{Outcome, outcome_of, refused, status_of}
use Rattle.pl_merge.specs.Sides.{HeaderComes, LacksHeader, NoReadFault, NoWriteFault, Opens, RefusesHeader, Sight, TookHeader}
use Rattle.pl_merge.specs.Mixing.{IsRead, Stays}
use Rattle.pl_merge.specs.Closing.{HasShelvesCause, HasSinkCause, halt_status}
use Rattle.pl_merge.specs.Promise.{AsksFor, IsHeaderless, IsStatus, IsTold, Merges, WritesBoth}
use Rattle.pl_merge.proofs.Closings.{not_fault, status_by}

-- a header that was taken is that of an open file
pub open_by : {H T : Type 0} (S : shelf.Ghosts H) (value : T) (name : List ℕ) (side : Sight) (old new : H)
    → Opens S (Ok value) name side old new → S.is_open new ≡ true
open_by S value name side old new o = by_open (S.is_open new) refl
  where
    by_open : (b : Bool) → S.is_open new ≡ b → S.is_open new ≡ true
    by_open true h = h
    by_open false h = absurd (o.unopened h)

pub took : {H T : Type 0} (S : shelf.Ghosts H) (value : T) (name : List ℕ) (side : Sight) (old new : H)
    (bytes : List ℕ) → Opens S (Ok value) name side old new → IsTold S name bytes old
    → (file : Option (List ℕ)) × TookHeader side (S.rest new) file × (file ≡ Some bytes)
took S value name side old new bytes o t =
    let at = o.opened (open_by S value name side old new o) in
    (at.0, at.2, at.1 t.told ∙ t.file)

never_open : {H : Type 0} (S : shelf.Ghosts H) (at : H) → S.is_open at ≡ true → S.is_open at ≡ false → ⊥
never_open S at h e = cc

asks_by : {H T : Type 0} (S : shelf.Ghosts H) (r : Result T Halt) (name : List ℕ) (side : Sight)
    (old mid new : H) → Opens S r name side old mid → S.is_open mid ≡ true → Stays S mid new
    → AsksFor S name old new
asks_by S r name side old mid new o here stays = record {
  once = stays.opens ∙ o.once;
  named = λ told open_now. stays.named ∙ o.named told here;
}

-- both headers were taken
pub both_merge : {H O T : Type 0} (S : shelf.Ghosts H) (W : sink.Ghosts O) (v v2 : T) (down up : List ℕ)
    (one two : Sight) (first first1 first' second second1 second' : H) (out out' : O) (answer : ℕ)
    → Opens S (Ok v) down one first first1 → Opens S (Ok v2) up two second second1
    → ((d u : Option (List ℕ)) (a b : List ℕ) → TookHeader one (S.rest first1) d → TookHeader two (S.rest second1) u
    → d ≡ Some a → u ≡ Some b → WritesBoth a b (S.rest first') (S.rest second') (tells W out) (tells W out') answer)
    → IsStatus answer → HasShelvesCause S answer first1 first' second1 second'
    → HasSinkCause answer (W.faults out) (W.faults out')
    → Merges S W down up first first' second second' out out' answer
both_merge S W v v2 down up one two first first1 first' second second1 second' out out' answer o o2 writes status shelves cause = record {
  exact = λ a b t t2 other never.
      let k = took S v down one first first1 a o t in
      let k2 = took S v2 up two second second1 b o2 t2 in
      (writes k.0 k2.0 a b k.1 k2.1 k.2 k2.2).exact other never;
  cut_short = λ a b t t2 is.
      let k = took S v down one first first1 a o t in
      let k2 = took S v2 up two second second1 b o2 t2 in
      inr ((writes k.0 k2.0 a b k.1 k2.1 k.2 k2.2).cut is);
  part = λ a b t t2 is.
      let k = took S v down one first first1 a o t in
      let k2 = took S v2 up two second second1 b o2 t2 in
      (writes k.0 k2.0 a b k.1 k2.1 k.2 k2.2).part is;
  unopened = λ closed. elim closed [
    | inl h ↦ absurd (never_open S first' shelves.one_stays.opened h)
    | inr h ↦ absurd (never_open S second' shelves.two_stays.opened h)
  ];
  asks = asks_by S (Ok v) down one first first1 first' o (open_by S v down one first first1 o) shelves.one_stays;
  asks_next = inr (asks_by S (Ok v2) up two second second1 second' o2 (open_by S v2 up two second second1 o2) shelves.two_stays);
  status = status;
  read_fault = λ is. elim (shelves.rose is) [
    | inl r ↦ inl (r ∙ ap raised o.cause)
    | inr r ↦ inr (r ∙ ap raised o2.cause)
  ];
  read_kept = λ other never.
      let k = shelves.kept other never in (k.0 ∙ o.cause, k.1 ∙ o2.cause);
  write_fault = cause.rose;
  write_kept = cause.kept;
  sure = λ s s2 some some2.
      let k = shelves.sure (o.sure s some).1 (o2.sure s2 some2).1 in
      (k.0, k.1 ∙ o.cause, k.2 ∙ o2.cause);
}

-- ---- a header that is refused, or can't be read

read_lacks : (rest : Option (List ℕ)) (read whole : List ℕ) → Some whole ≡ ahead read rest → IsRead read whole rest
read_lacks None read whole h = absurd cc
read_lacks (Some left) read whole h = (left, cc h, refl)

headerless : {H : Type 0} (S : shelf.Ghosts H) (new : H) (whole : List ℕ) (file : Option (List ℕ))
    → file ≡ Some whole → LacksHeader (S.rest new) file → IsHeaderless S whole new
headerless S new whole file is l = inr (l.read, read_lacks (S.rest new) l.read whole (sym is ∙ l.file_is), l.short)

no_header : {H T : Type 0} (S : shelf.Ghosts H) (name : List ℕ) (side : Sight) (old new : H) (bytes : List ℕ)
    → Opens {T = T} S (Err halt.ReadFault) name side old new → IsTold S name bytes old → IsHeaderless S bytes new
no_header S name side old new bytes o t = by_open (S.is_open new) refl
  where
    by_open : (b : Bool) → S.is_open new ≡ b → IsHeaderless S bytes new
    by_open true h =
        let at = o.opened h in headerless S new bytes at.0 (at.1 t.told ∙ t.file) at.2
    by_open false h = inl h

refused_header : {H T : Type 0} (S : shelf.Ghosts H) (e : End) (name : List ℕ) (side : Sight) (old new : H) (bytes : List ℕ)
    → Opens {T = T} S (Err (halt.Stops e)) name side old new → IsTold S name bytes old
    → (lawful_of side.dir bytes ≡ record { items = []; end = e }) × (version_read bytes ≡ None)
refused_header S e name side old new bytes o t = by_open (S.is_open new) refl
  where
    by_open : (b : Bool) → S.is_open new ≡ b
        → (lawful_of side.dir bytes ≡ record { items = []; end = e }) × (version_read bytes ≡ None)
    by_open true h =
        let at = o.opened h in
        let is = at.1 t.told ∙ t.file in
        (at.2.stops.lawful bytes is, at.2.none bytes is)
    by_open false h = absurd (o.unopened h)

first_refused : (a b : List ℕ) (e : End) → lawful_of Down a ≡ record { items = []; end = e }
    → version_read a ≡ None → outcome_of a b ≡ refused e
unfolding outcome_of
first_refused a b e same none = rw none (ap (λ (l : Lawful). refused l.end) same)

second_refused : (a b : List ℕ) (version : ℕ) (e : End) → version_read a ≡ Some version
    → lawful_of Up b ≡ record { items = []; end = e } → version_read b ≡ None → outcome_of a b ≡ refused e
unfolding outcome_of
second_refused a b version e some same none = rw (some, none) (ap (λ (l : Lawful). refused l.end) same)

-- the second file's
pub second_halts : {H O T : Type 0} (S : shelf.Ghosts H) (W : sink.Ghosts O) (v : T) (h : Halt) (down up : List ℕ)
    (one two : Sight) (first first1 second second1 : H) (out : O) → one.dir ≡ Down → two.dir ≡ Up
    → Opens S (Ok v) down one first first1 → Opens {T = T} S (Err h) up two second second1
    → NoWriteFault {T = T} (Err h) → Merges S W down up first first1 second second1 out out (halt_status h)
second_halts S W v (halt.Stops e) down up one two first first1 second second1 out d u o o2 reads = record {
  exact = λ a b t t2 other never.
      let k = took S v down one first first1 a o t in
      let r = refused_header S e up two second second1 b o2 t2 in
      let is = second_refused a b one.reader.version e (k.1.told a k.2)
      (ap (λ (x : Dir). lawful_of x b) (sym u) ∙ r.0) r.1 in
      (plus-nothing (W.written out) ∙ ap (λ (x : Outcome). plus (W.written out) x.bytes) (sym is), ap (λ (x : Outcome). x.status) (sym is));
  cut_short = λ a b t t2 is. absurd ((not_fault e).0 is);
  part = λ a b t t2 is. absurd ((not_fault e).1 is);
  unopened = λ closed. refl;
  asks = record { once = o.once; named = o.named };
  asks_next = inr (record { once = o2.once; named = o2.named });
  status = status_by (halt.Stops e);
  read_fault = λ is. absurd ((not_fault e).0 is);
  read_kept = λ other never. (o.cause, o2.cause);
  write_fault = λ is. absurd ((not_fault e).1 is);
  write_kept = λ other. refl;
  sure = λ s s2 some some2. ((not_fault e).0, o.cause, o2.cause);
}
second_halts S W v halt.ReadFault down up one two first first1 second second1 out d u o o2 reads = record {
  exact = λ a b t t2 other never. absurd (other refl);
  cut_short = λ a b t t2 is. inl (refl, inr (no_header S up two second second1 b o2 t2));
  part = λ a b t t2 is. absurd (cc is);
  unopened = λ closed. refl;
  asks = record { once = o.once; named = o.named };
  asks_next = inr (record { once = o2.once; named = o2.named });
  status = status_by halt.ReadFault;
  read_fault = λ is. inr o2.cause;
  read_kept = λ other never. absurd (other refl);
  write_fault = λ is. absurd (cc is);
  write_kept = λ other. refl;
  sure = λ s s2 some some2. absurd (o2.sure s2 some2).0;
}
second_halts S W v halt.WriteFault down up one two first first1 second second1 out d u o o2 reads = absurd reads

-- or the first one's
pub first_halts : {H O T : Type 0} (S : shelf.Ghosts H) (W : sink.Ghosts O) (h : Halt) (down up : List ℕ)
    (one : Sight) (first first1 second : H) (out : O) → one.dir ≡ Down
    → Opens {T = T} S (Err h) down one first first1
    → NoWriteFault {T = T} (Err h) → Merges S W down up first first1 second second out out (halt_status h)
first_halts S W (halt.Stops e) down up one first first1 second out d o reads = record {
  exact = λ a b t t2 other never.
      let r = refused_header S e down one first first1 a o t in
      let is = first_refused a b e (ap (λ (x : Dir). lawful_of x a) (sym d) ∙ r.0) r.1 in
      (plus-nothing (W.written out) ∙ ap (λ (x : Outcome). plus (W.written out) x.bytes) (sym is), ap (λ (x : Outcome). x.status) (sym is));
  cut_short = λ a b t t2 is. absurd ((not_fault e).0 is);
  part = λ a b t t2 is. absurd ((not_fault e).1 is);
  unopened = λ closed. refl;
  asks = record { once = o.once; named = o.named };
  asks_next = inl refl;
  status = status_by (halt.Stops e);
  read_fault = λ is. absurd ((not_fault e).0 is);
  read_kept = λ other never. (o.cause, refl);
  write_fault = λ is. absurd ((not_fault e).1 is);
  write_kept = λ other. refl;
  sure = λ s s2 some some2. ((not_fault e).0, o.cause, refl);
}
first_halts S W halt.ReadFault down up one first first1 second out d o reads = record {
  exact = λ a b t t2 other never. absurd (other refl);
  cut_short = λ a b t t2 is. inl (refl, inl (no_header S down one first first1 a o t));
  part = λ a b t t2 is. absurd (cc is);
  unopened = λ closed. refl;
  asks = record { once = o.once; named = o.named };
  asks_next = inl refl;
  status = status_by halt.ReadFault;
  read_fault = λ is. inl o.cause;
  read_kept = λ other never. absurd (other refl);
  write_fault = λ is. absurd (cc is);
  write_kept = λ other. refl;
  sure = λ s s2 some some2. absurd (o.sure s some).0;
}
first_halts S W halt.WriteFault down up one first first1 second out d o reads = absurd reads
