-- What was read of a request says how all that comes begins.
use Rattle.std.proofs.Common.{◌≡◌, ℕ, ◌+◌, ◌-◌, ◌<◌, ◌≤◌, List, [], ◌++◌, length}
use Rattle.std.proofs.Common.{take, append-nil, append_assoc, length-append, arith}
use Rattle.std.proofs.Common.{ap, refl, sym, ◌∙◌, subst}
use Rattle.std.specs.Prelude.{Option, Some, None}
use Rattle.std.proofs.lemmas.List.{take_at}
use Rattle.httparse.specs.Grammar.{RequestHead, ReadsRequest, HasNoRequest, NeverHasRequest}
use Rattle.httparse.specs.Grammar.{MayBecomeRequest}
use Rattle.httparse.proofs.GrammarLemmas.{ReadsRequest-append}
use Rattle.pl_io.specs.Told.{ahead, AtEnd}
use Rattle.pl_head.specs.Front.{head_limit, IsFront, whole, bad, long, short}
use Rattle.pl_head.proofs.Reading.{take_behind}

-- the part of the text that a head may have
limit_part : (read rest : List ℕ) → length read ≤ 16384 →
    take head_limit (read ++ rest) ≡ read ++ take (16384 - length read) rest
limit_part read rest small =
    let sum : length read + (16384 - length read) ≡ 16384 = omega arith in
    subst (λ m. take m (read ++ rest) ≡ read ++ take (16384 - length read) rest) sum
    (take_behind read rest (length read) (16384 - length read) refl)

pub whole_front : (read rest more : List ℕ) (h : RequestHead) → length read ≤ 16384 →
    ReadsRequest read h more → IsFront (read ++ rest) (whole h)
whole_front read rest more h small reads = (
  more ++ take (16384 - length read) rest,
  subst (λ text. ReadsRequest text h (more ++ take (16384 - length read) rest))
      (sym (limit_part read rest small))
      (ReadsRequest-append read h more (take (16384 - length read) rest) reads),
)

pub bad_front : (read rest : List ℕ) → length read ≤ 16384 →
    NeverHasRequest read → IsFront (read ++ rest) bad
bad_front read rest small never = λ more h left reads.
    never (take (16384 - length read) rest ++ more) h left (
      reads.0,
      sym (append_assoc read (take (16384 - length read) rest) more)
          ∙ ap (λ text. text ++ more) (sym (limit_part read rest small)) ∙ reads.1,
    )

pub long_front : (read rest : List ℕ) → length read ≡ 16384 →
    HasNoRequest read → IsFront (read ++ rest) long
long_front read rest full none = (
  omega (arith, length-append read rest),
  subst HasNoRequest (sym (take_at read rest 16384 full)) none,
)

pub short_front : (read rest : List ℕ) → length read < 16384 → rest ≡ [] →
    HasNoRequest read → MayBecomeRequest read → IsFront (read ++ rest) short
short_front read rest small end none may =
    let same : read ++ rest ≡ read = ap (λ left. read ++ left) end ∙ append-nil read in
    subst (λ text. IsFront text short) (sym same) (small, none, may)

-- all that comes is what was read and what is left
split_told : (old new : Option (List ℕ)) (read text : List ℕ) →
    old ≡ ahead read new → old ≡ Some text
    → (rest : List ℕ) × (new ≡ Some rest) × (read ++ rest ≡ text)
split_told old None read text reads told = cc
split_told old (Some rest) read text reads told = (rest, refl, cc)

-- ---- the same of all that comes, where it is told

pub whole_told : (old new : Option (List ℕ)) (read more : List ℕ) (h : RequestHead) →
    old ≡ ahead read new → length read ≤ 16384 → ReadsRequest read h more →
    (text : List ℕ) → old ≡ Some text → IsFront text (whole h)
whole_told old new read more h reads small is text told =
    let split = split_told old new read text reads told in
    subst (λ t. IsFront t (whole h)) split.2 (whole_front read split.0 more h small is)

pub bad_told : (old new : Option (List ℕ)) (read : List ℕ) →
    old ≡ ahead read new → length read ≤ 16384 → NeverHasRequest read →
    (text : List ℕ) → old ≡ Some text → IsFront text bad
bad_told old new read reads small never text told =
    let split = split_told old new read text reads told in
    subst (λ t. IsFront t bad) split.2 (bad_front read split.0 small never)

pub long_told : (old new : Option (List ℕ)) (read : List ℕ) →
    old ≡ ahead read new → length read ≡ 16384 → HasNoRequest read →
    (text : List ℕ) → old ≡ Some text → IsFront text long
long_told old new read reads full none text told =
    let split = split_told old new read text reads told in
    subst (λ t. IsFront t long) split.2 (long_front read split.0 full none)

-- the last read gave nothing: what was left before it, left, has ended
pub short_told : (old left new : Option (List ℕ)) (read got : List ℕ) (k : ℕ) →
    old ≡ ahead read left → left ≡ ahead (take k got) new → k ≡ 0 → AtEnd left →
    length read < 16384 → HasNoRequest read → MayBecomeRequest read →
    (text : List ℕ) → old ≡ Some text → IsFront text short
short_told old left new read got k reads last none_came end small none may text told =
    let split = split_told old left read text reads told in
    let ended : split.0 ≡ [] = subst AtEnd split.1 end in
    subst (λ t. IsFront t short) split.2 (short_front read split.0 small ended none may)
