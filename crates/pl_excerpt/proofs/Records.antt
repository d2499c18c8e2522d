-- What is appended, one record behind another.
use Rattle.std.proofs.Common.{◌≡◌, ℕ, ◌+◌, List, ◌++◌, length, take, Bool, true, false, append-nil, Option, Some, None, Result, Ok, Err}
use Rattle.std.proofs.Common.{ap, sym, subst, ◌∙◌, arith, append_assoc, length-append}
use Rattle.std.proofs.lemmas.List.{take-append-le, take_all}
use Rattle.pl_io.specs.declared.failed.Failed.{Failed}
use Rattle.pl_io.specs.declared.sink.Sink as sink
use Rattle.pl_io.specs.Faults.{Rose}
use Rattle.pl_io.specs.Told.{plus, HasRoom}
use Rattle.pl_io.proofs.Told.{plus-plus}
use Rattle.pl_capture.specs.Entry.{Entry}
use Rattle.pl_capture.specs.Record.{record_of}
use Rattle.pl_excerpt.specs.Excerpt.{gap_at}
use Rattle.pl_excerpt.specs.Writing.{Appends, records_with}

pub front_is : (bytes rest buffer : List ℕ) (size : ℕ) → size ≡ length bytes
    → buffer ≡ bytes ++ rest → take size buffer ≡ bytes
front_is bytes rest buffer size count is =
    ap (take size) is ∙ take-append-le size bytes rest (omega arith)
    ∙ take_all size bytes (omega arith)

first_room : (room : Option ℕ) (a b : List ℕ) → HasRoom room (length (a ++ b))
    → HasRoom room (length a + length b)
first_room room a b h = subst (HasRoom room) (length-append a b) h

less_room : (room : Option ℕ) (a b : List ℕ) → HasRoom room (length (a ++ b))
    → HasRoom room (length a)
less_room None a b h = absurd h
less_room (Some n) a b h = omega (arith, h, length-append a b)

-- the sink failed within the first
pub appends_first : {T O : Type 0} (S : sink.Ghosts O) (failed : Failed) (a b : List ℕ) (old new : O)
    → Appends {T = T} S (Err failed) a old new → Appends {T = T} S (Err failed) (a ++ b) old new
appends_first S failed a b old new f = record {
  appended = tt;
  part = record {
    part = f.part.part;
    missing = f.part.missing ++ b;
    whole = sym (append_assoc f.part.part f.part.missing b)
        ∙ ap (λ (l : List ℕ). l ++ b) f.part.whole;
    written = f.part.written;
  };
  fits = λ h. f.fits (less_room (S.room old) a b h);
  room_left = tt;
  cause = f.cause;
}

more_room : {O : Type 0} (S : sink.Ghosts O) (a b : List ℕ) (old mid : O) (k : ℕ)
    → ((k : ℕ) → HasRoom (S.room old) (length a + k) → HasRoom (S.room mid) k)
    → HasRoom (S.room old) (length (a ++ b) + k) → HasRoom (S.room mid) (length b + k)
more_room S a b old mid k left h =
    left (length b + k) (subst (HasRoom (S.room old)) (omega (arith, length-append a b)) h)

-- or within the second, or nowhere
pub appends_then : {T U O : Type 0} (S : sink.Ghosts O) (value : U) (result : Result T Failed)
    (a b : List ℕ) (old mid new : O) → Appends {T = U} S (Ok value) a old mid
    → Appends S result b mid new → Appends S result (a ++ b) old new
appends_then S value (Ok last) a b old mid new f n = record {
  appended = n.appended ∙ ap (λ (o : Option (List ℕ)). plus o b) f.appended
      ∙ plus-plus (S.written old) a b;
  part = tt;
  fits = λ h. n.fits (f.room_left (length b) (first_room (S.room old) a b h));
  room_left = λ k h. n.room_left k (more_room S a b old mid k f.room_left h);
  cause = record { kept = n.cause.kept ∙ f.cause.kept; failed = tt };
}
appends_then S value (Err failed) a b old mid new f n = record {
  appended = tt;
  part = record {
    part = a ++ n.part.part;
    missing = n.part.missing;
    whole = append_assoc a n.part.part n.part.missing
        ∙ ap (λ (l : List ℕ). a ++ l) n.part.whole;
    written = n.part.written ∙ ap (λ (o : Option (List ℕ)). plus o n.part.part) f.appended
        ∙ plus-plus (S.written old) a n.part.part;
  };
  fits = λ h. n.fits (f.room_left (length b) (first_room (S.room old) a b h));
  room_left = tt;
  cause = record {
    kept = tt;
    failed = subst (λ (n : ℕ). Rose n (S.faults new)) f.cause.kept n.cause.failed;
  };
}

-- the records of an item, with a gap before it or without
pub appends_one : {T O : Type 0} (S : sink.Ghosts O) (result : Result T Failed) (follows : Bool)
    (x : Entry) (old new : O) → follows ≡ true → Appends S result (record_of x) old new
    → Appends S result (records_with follows x) old new
appends_one S result follows x old new is f =
    subst (λ (text : List ℕ). Appends S result text old new)
    (sym (ap (λ (b : Bool). records_with b x) is ∙ append-nil (record_of x))) f

two_records : (follows : Bool) (x : Entry) → follows ≡ false
    → record_of (gap_at x.time) ++ record_of x ≡ records_with follows x
two_records follows x is =
    ap (λ (l : List ℕ). record_of (gap_at x.time) ++ l) (sym (append-nil (record_of x)))
    ∙ sym (ap (λ (b : Bool). records_with b x) is)

pub appends_gap : {T O : Type 0} (S : sink.Ghosts O) (failed : Failed) (follows : Bool)
    (x : Entry) (old new : O) → follows ≡ false
    → Appends {T = T} S (Err failed) (record_of (gap_at x.time)) old new
    → Appends {T = T} S (Err failed) (records_with follows x) old new
appends_gap {T} S failed follows x old new is f =
    subst (λ (text : List ℕ). Appends {T = T} S (Err failed) text old new)
    (two_records follows x is)
    (appends_first S failed (record_of (gap_at x.time)) (record_of x) old new f)

pub appends_two : {T U O : Type 0} (S : sink.Ghosts O) (value : U) (result : Result T Failed)
    (follows : Bool) (x : Entry) (old mid new : O) → follows ≡ false
    → Appends {T = U} S (Ok value) (record_of (gap_at x.time)) old mid
    → Appends S result (record_of x) mid new
    → Appends S result (records_with follows x) old new
appends_two S value result follows x old mid new is f n =
    subst (λ (text : List ℕ). Appends S result text old new) (two_records follows x is)
    (appends_then S value result (record_of (gap_at x.time)) (record_of x) old mid new f n)
