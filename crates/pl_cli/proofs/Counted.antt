-- The lines that are written, and how many of them tell of a keeper that failed.
use Rattle.std.proofs.Common.{◌≡◌, ℕ, ◌+◌, ◌≤◌, List, [], ◌∷◌, ◌++◌, length, Bool, true, false}
use Rattle.std.proofs.Common.{refl, sym, ap, ◌∙◌, arith, inl, inr, cond, append-nil}
use Rattle.std.proofs.Common.{length-append}
use Rattle.std.specs.Prelude.{nat_lt, Option, Some, None}
use Rattle.std.specs.List.{count_by, flat_map}
use Rattle.std.proofs.lemmas.Bool.Decides.{Decides-eqb, nat_tests}
use Rattle.std.proofs.lemmas.Grind.{flat_map-append}
use Rattle.std.proofs.lemmas.List.Sums.{sum_by-append}
use Rattle.pl_io.specs.Faults.{Rose, last_count}
use Rattle.pl_io.specs.Told.{plus}
use Rattle.pl_io.proofs.Told.{plus-plus}
use Rattle.pl_report.specs.ServedLines.{served_text}
use Rattle.pl_cli.specs.Serving.{Counted, IsServed, Lines, fault_status, is_store}
use Rattle.pl_cli.specs.Serving.{last_text}
use Rattle.pl_cli.specs.declared.serving.Turned.{Turned}
use Rattle.pl_cli.specs.declared.serving.Turned.TheVariants as turned

-- the lines so far
pub record SoWritten (turns before now : ℕ) (old new : Option (List ℕ)) : Type 0 where
  pub statuses : List ℕ
  pub each : length statuses ≡ turns
  pub written : new ≡ plus old (flat_map served_text statuses)
  pub stores : Counted statuses before now

count_more : (statuses : List ℕ) (s : ℕ)
    → count_by is_store (statuses ++ s ∷ [])
    ≡ count_by is_store statuses + cond (is_store s) 1 0
count_more statuses s =
    omega (arith, sum_by-append (λ (x : ℕ). cond (is_store x) 1 0) statuses (s ∷ []))

at_most_one : (b : Bool) → cond b 1 0 ≤ 1
at_most_one true = omega arith
at_most_one false = omega arith

none_if : (b : Bool) → b ≡ false → cond b 1 0 ≤ 0
none_if true is = cc
none_if false is = omega arith

-- a call of the keeper that failed is counted, unless the count stands at its end
rose_by : (statuses : List ℕ) (s before mid now : ℕ) (b : Bool) → nat_lt mid last_count ≡ b
    → before + count_by is_store statuses ≤ mid → Rose mid now
    → Counted (statuses ++ s ∷ []) before now
rose_by statuses s before mid now true is few rose =
    let more : now ≡ mid + 1 = grind (arith, nat_tests) in
    inl (omega (arith, count_more statuses s, at_most_one (is_store s)))
rose_by statuses s before mid now false is few rose =
    inr (grind (arith, nat_tests))

counted_rose : (statuses : List ℕ) (s before mid now : ℕ) → Counted statuses before mid
    → Rose mid now → Counted (statuses ++ s ∷ []) before now
counted_rose statuses s before mid now counted rose =
    elim counted [
      | inl few ↦ rose_by statuses s before mid now (nat_lt mid last_count) refl few rose
      | inr last ↦ inr (omega arith)
    ]

kept_by : (statuses : List ℕ) (s before mid now : ℕ) (b : Bool) → is_store s ≡ b → b ≡ false
    → Counted statuses before mid → now ≡ mid → Counted (statuses ++ s ∷ []) before now
kept_by statuses s before mid now true is other counted same = cc
kept_by statuses s before mid now false is other counted same =
    elim counted [
      | inl few ↦ inl (omega (arith, count_more statuses s, none_if (is_store s) is))
      | inr last ↦ inr (same ∙ last)
    ]

served_by : (statuses : List ℕ) (s before mid now : ℕ) (b : Bool) → is_store s ≡ b
    → (s ≡ 503 → turned.Served ≡ turned.StoreFailed)
    → Counted statuses before mid → now ≡ mid → Counted (statuses ++ s ∷ []) before now
served_by statuses s before mid now true is store counted same =
    let other : turned.Served ≡ turned.StoreFailed = store ((Decides-eqb s 503).0 is) in cc
served_by statuses s before mid now false is store counted same =
    kept_by statuses s before mid now (is_store s) refl is counted same

counted_more : (statuses : List ℕ) (s before mid now : ℕ) (t : Turned) → IsServed t
    → (s ≡ 503 → t ≡ turned.StoreFailed) → (t ≡ turned.StoreFailed → Rose mid now)
    → (t ≡ turned.Served → now ≡ mid) → Counted statuses before mid
    → Counted (statuses ++ s ∷ []) before now
counted_more statuses s before mid now turned.Served served store rose kept counted =
    served_by statuses s before mid now (is_store s) refl store counted (kept refl)
counted_more statuses s before mid now turned.StoreFailed served store rose kept counted =
    counted_rose statuses s before mid now counted (rose refl)
counted_more statuses s before mid now turned.NoLink served store rose kept counted =
    absurd served
counted_more statuses s before mid now turned.Unwritten served store rose kept counted =
    absurd served

plus_nothing : (told : Option (List ℕ)) → told ≡ plus told []
plus_nothing None = refl
plus_nothing (Some bytes) = ap Some (sym (append-nil bytes))

pub none_written : (count : ℕ) (told : Option (List ℕ)) → SoWritten 0 count count told told
none_written count told = record {
  statuses = [];
  each = refl;
  written = plus_nothing told;
  stores = inl (omega arith);
}

pub line_more : (turn before mid now : ℕ) (w0 w1 w2 : Option (List ℕ)) (t : Turned)
    → SoWritten turn before mid w0 w1 → IsServed t
    → (s : ℕ) × (w2 ≡ plus w1 (served_text s)) × (s ≡ 503 → t ≡ turned.StoreFailed)
    → (t ≡ turned.StoreFailed → Rose mid now) → (t ≡ turned.Served → now ≡ mid)
    → SoWritten (turn + 1) before now w0 w2
line_more turn before mid now w0 w1 w2 t so_far served line rose kept = record {
  statuses = so_far.statuses ++ line.0 ∷ [];
  each = length-append so_far.statuses (line.0 ∷ []) ∙ ap (λ n. n + 1) so_far.each;
  written =
      line.1 ∙ ap (λ o. plus o (served_text line.0)) so_far.written
      ∙ plus-plus w0 (flat_map served_text so_far.statuses) (served_text line.0)
      ∙ ap (plus w0) (ap (λ text. flat_map served_text so_far.statuses ++ text)
      (sym (append-nil (served_text line.0)))
      ∙ sym (flat_map-append served_text so_far.statuses (line.0 ∷ [])));
  stores = counted_more so_far.statuses line.0 before mid now t served line.2 rose kept
      so_far.stores;
}

pub lines_end : (turn turns before now : ℕ) (w0 w1 w2 : Option (List ℕ)) (failed door : Bool)
    (answer : ℕ) → turn ≤ turns → (door ≡ false → turn ≡ turns)
    → SoWritten turn before now w0 w1
    → w2 ≡ plus w1 (last_text failed door) → answer ≡ fault_status failed door
    → Lines turns before now w0 w2 answer
lines_end turn turns before now w0 w1 w2 failed door answer within all so_far line status = record {
  statuses = so_far.statuses;
  store = failed;
  door = door;
  most = omega (arith, so_far.each);
  all = λ is. so_far.each ∙ all is;
  written =
      line ∙ ap (λ o. plus o (last_text failed door)) so_far.written
      ∙ plus-plus w0 (flat_map served_text so_far.statuses) (last_text failed door);
  status = status;
  stores = so_far.stores;
}
