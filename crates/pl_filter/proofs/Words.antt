-- What words are: names, numbers, operators and tests, read as they are spelled.
use Rattle.std.proofs.Common.{◌≡◌, ℕ, ◌+◌, ◌-◌, ◌*◌, ◌^◌, ◌<◌, ◌≤◌, Bool, true, false, cond, ltb, leb, List, [], ◌∷◌, ◌++◌, length, take, drop, Option, Some, None, refl, sym, ap, ◌∙◌, subst, inl, inr, ◌⊎◌, arith}
use Rattle.std.specs.Prelude.{codes, ◌&&◌}
use Rattle.std.specs.Char.{is_ascii_digit}
use Rattle.std.specs.List.{find}
use Rattle.std.specs.Option.{option_map, option_or}
use Rattle.std.specs.Str.{all_ascii_digits, bytes_eq}
use Rattle.std.proofs.lemmas.Bool.{and_parts, and_from, ltb-true, leb-true, lt-ltb, le-leb}
use Rattle.std.proofs.lemmas.Slice.Eq.{bytes_eq-Decides}
use Rattle.std.specs.Bool.{Decides}
use Rattle.std.proofs.Math.ListN.{take-append-drop}
use Rattle.pl_base.specs.declared.link.Class.TheVariants.{P, Np, Cpl}
use Rattle.pl_dllp.specs.declared.packet.Stage.TheVariants.{Init1, Init2, Update}
use Rattle.pl_tlp.specs.declared.kind.Kind.TheVariants as kind
use Rattle.pl_filter.specs.Grammar.{IsNumber, value_behind, SpellsValue, SpellsTest}
use Rattle.pl_filter.specs.Names.{names, named, text_of}
use Rattle.pl_filter.specs.Reading.{number_behind, number_in, samples, with_value, without_value, like, first_like, test_in, operator_in, operator_text}
use Rattle.pl_filter.specs.Tests.{front_of}
use Rattle.pl_filter.specs.declared.filter.Test.{Test}
use Rattle.pl_filter.specs.declared.filter.Test.TheVariants as test
use Rattle.pl_filter.specs.declared.name.Name.{Name}
use Rattle.pl_filter.specs.declared.name.Name.TheVariants as name
use Rattle.pl_filter.specs.declared.word.Operator.{Operator}
use Rattle.pl_filter.specs.declared.word.Operator.TheVariants as operator

-- ---- finding by a text

-- what a choice gave
chosen : {A : Type 0} (b : Bool) (x : A) (o : Option A) (y : A) → cond b (Some x) o ≡ Some y → ((b ≡ true) × (x ≡ y)) ⊎ (o ≡ Some y)
chosen true x o y h = inl (refl, cc)
chosen false x o y h = inr h

found : {A : Type 0} (p : A → Bool) (xs : List A) (x : A) → find p xs ≡ Some x → p x ≡ true
found p [] x h = absurd (cc)
found p (y ∷ ys) x h =
    elim (chosen (p y) y (find p ys) x h) [
      | inl e ↦ subst (λ z. p z ≡ true) e.1 e.0
      | inr e ↦ found p ys x e
    ]

pub same_text : (a b : List ℕ) → bytes_eq a b ≡ true → a ≡ b
same_text a b h = (bytes_eq-Decides a b).0 h

pub text_same : (a b : List ℕ) → a ≡ b → bytes_eq a b ≡ true
text_same a b h = (bytes_eq-Decides a b).1 h

-- ---- names

pub named_sound : (text : List ℕ) (n : Name) → named text ≡ Some n → text ≡ text_of n
unfolding named
named_sound text n h = sym (same_text (text_of n) text (found (λ m. bytes_eq (text_of m) text) names n h))

pub named_text : (n : Name) → named (text_of n) ≡ Some n
unfolding named
named_text (name.Tlp kind.MRd) = refl
named_text (name.Tlp kind.MRdLk) = refl
named_text (name.Tlp kind.MWr) = refl
named_text (name.Tlp kind.IORd) = refl
named_text (name.Tlp kind.IOWr) = refl
named_text (name.Tlp kind.CfgRd0) = refl
named_text (name.Tlp kind.CfgWr0) = refl
named_text (name.Tlp kind.CfgRd1) = refl
named_text (name.Tlp kind.CfgWr1) = refl
named_text (name.Tlp kind.Msg) = refl
named_text (name.Tlp kind.MsgD) = refl
named_text (name.Tlp kind.Cpl) = refl
named_text (name.Tlp kind.CplD) = refl
named_text (name.Tlp kind.CplLk) = refl
named_text (name.Tlp kind.CplDLk) = refl
named_text (name.Tlp kind.FetchAdd) = refl
named_text (name.Tlp kind.Swap) = refl
named_text (name.Tlp kind.Cas) = refl
named_text name.Ack = refl
named_text name.Nak = refl
named_text name.MRInit = refl
named_text name.DataLinkFeature = refl
named_text name.PmEnterL1 = refl
named_text name.PmEnterL23 = refl
named_text name.PmActiveStateRequestL1 = refl
named_text name.PmRequestAck = refl
named_text name.Vendor = refl
named_text name.Nop = refl
named_text (name.Flow Init1 P) = refl
named_text (name.Flow Init1 Np) = refl
named_text (name.Flow Init1 Cpl) = refl
named_text (name.Flow Init2 P) = refl
named_text (name.Flow Init2 Np) = refl
named_text (name.Flow Init2 Cpl) = refl
named_text (name.Flow Update P) = refl
named_text (name.Flow Update Np) = refl
named_text (name.Flow Update Cpl) = refl
named_text name.Other = refl
named_text name.BadCrc = refl
named_text name.Reserved = refl
named_text name.Undefined = refl
named_text name.WrongSize = refl

-- names are told apart by their texts
pub names_differ : (a b : Name) → Decides (bytes_eq (text_of a) (text_of b)) (a ≡ b)
names_differ a b = (
  λ h. let e = named_text b in let d = named_text a in
      let same : named (text_of a) ≡ named (text_of b) = ap named (same_text (text_of a) (text_of b) h) in cc,
  λ h. text_same (text_of a) (text_of b) (ap text_of h),
)

-- ---- operators

pub operator_sound : (word : List ℕ) (o : Operator) → operator_in word ≡ Some o → word ≡ operator_text o
unfolding operator_in
operator_sound word o h =
    sym (same_text (operator_text o) word (found (λ p. bytes_eq (operator_text p) word) (operator.Not ∷ operator.And ∷ operator.Or ∷ []) o h))

pub operator_spelled : (o : Operator) → operator_in (operator_text o) ≡ Some o
unfolding operator_in
operator_spelled operator.Not = refl
operator_spelled operator.And = refl
operator_spelled operator.Or = refl

-- ---- numbers

value_behind_grows : (n : ℕ) (digits : List ℕ) → n ≤ value_behind n digits
value_behind_grows n [] = omega arith
value_behind_grows n (digit ∷ digits) = omega (arith, value_behind_grows (10 * n + (digit - 48)) digits)

number_behind_gives : (n : ℕ) (digits : List ℕ) → all_ascii_digits digits ≡ true → value_behind n digits < 2 ^ 64
    → number_behind n digits ≡ Some (value_behind n digits)
number_behind_gives n [] all small = refl
number_behind_gives n (digit ∷ digits) all small =
    let parts = and_parts (is_ascii_digit digit) (all_ascii_digits digits) all in
    let next = 10 * n + (digit - 48) in
    let grows = value_behind_grows next digits in
    let below : next < 2 ^ 64 = omega (arith, grows, small) in
    let test = and_from (is_ascii_digit digit) (ltb next (2 ^ 64)) parts.0 (lt-ltb next (2 ^ 64) below) in
    ap (λ b. cond b (number_behind next digits) None) test ∙ number_behind_gives next digits parts.1 small

record Behind (n : ℕ) (digits : List ℕ) (m : ℕ) : Type 0 where
  digits_alone : all_ascii_digits digits ≡ true
  value : m ≡ value_behind n digits
  fits : n < 2 ^ 64 → m < 2 ^ 64

behind_more : (n digit : ℕ) (digits : List ℕ) (m : ℕ) (b : Bool) → (is_ascii_digit digit && ltb (10 * n + (digit - 48)) (2 ^ 64)) ≡ b
    → (number_behind (10 * n + (digit - 48)) digits ≡ Some m → Behind (10 * n + (digit - 48)) digits m)
    → cond b (number_behind (10 * n + (digit - 48)) digits) None ≡ Some m → Behind n (digit ∷ digits) m
behind_more n digit digits m false e rest h = absurd (cc)
behind_more n digit digits m true e rest h =
    let parts = and_parts (is_ascii_digit digit) (ltb (10 * n + (digit - 48)) (2 ^ 64)) e in
    let r = rest h in
    record {
      digits_alone = and_from (is_ascii_digit digit) (all_ascii_digits digits) parts.0 r.digits_alone;
      value = r.value;
      fits = λ _. r.fits (ltb-true _ _ parts.1);
    }

number_behind_sound : (n : ℕ) (digits : List ℕ) (m : ℕ) → number_behind n digits ≡ Some m → Behind n digits m
number_behind_sound n [] m h = let e : n ≡ m = cc in record { digits_alone = refl; value = sym e; fits = λ small. omega (arith, small, e) }
number_behind_sound n (digit ∷ digits) m h =
    behind_more n digit digits m (is_ascii_digit digit && ltb (10 * n + (digit - 48)) (2 ^ 64)) refl
    (number_behind_sound (10 * n + (digit - 48)) digits m) h

pub number_spelled : (digits : List ℕ) (n : ℕ) → IsNumber digits n → number_in digits ≡ Some n
unfolding number_in
number_spelled digits n h =
    let some : ltb 0 (length digits) ≡ true = lt-ltb 0 (length digits) (omega (arith, h.some)) in
    let few : leb (length digits) 20 ≡ true = le-leb (length digits) 20 h.few in
    let small : value_behind 0 digits < 2 ^ 64 = omega (arith, h.value, h.fits) in
    ap (λ b. cond b (number_behind 0 digits) None) (and_from (ltb 0 (length digits)) (leb (length digits) 20) some few)
    ∙ number_behind_gives 0 digits h.digits_alone small ∙ ap Some (sym h.value)

is_number : (digits : List ℕ) (n : ℕ) (b : Bool) → (ltb 0 (length digits) && leb (length digits) 20) ≡ b
    → cond b (number_behind 0 digits) None ≡ Some n → IsNumber digits n
is_number digits n false e h = absurd (cc)
is_number digits n true e h =
    let parts = and_parts (ltb 0 (length digits)) (leb (length digits) 20) e in
    let r = number_behind_sound 0 digits n h in
    record {
      some = omega (arith, ltb-true 0 (length digits) parts.0);
      few = leb-true (length digits) 20 parts.1;
      digits_alone = r.digits_alone;
      value = r.value;
      fits = r.fits (omega arith);
    }

pub number_sound : (digits : List ℕ) (n : ℕ) → number_in digits ≡ Some n → IsNumber digits n
unfolding number_in
number_sound digits n h = is_number digits n (ltb 0 (length digits) && leb (length digits) 20) refl h

-- ---- tests

-- a test of the front of this one, with this value
abbrev HasValue : Test → List ℕ → Test → Type 0
HasValue s value t = SpellsValue t value × (front_of t ≡ front_of s)

numbered : (s : Test) (value : List ℕ) (make : ℕ → Test) (t : Test)
    → ((n : ℕ) → IsNumber value n → HasValue s value (make n))
    → (o : Option ℕ) → number_in value ≡ o → option_map make o ≡ Some t → HasValue s value t
numbered s value make t all None e h = absurd (cc)
numbered s value make t all (Some n) e h = let same : make n ≡ t = cc in subst (HasValue s value) same (all n (number_sound value n e))

kinded : (s : Test) (value : List ℕ) (t : Test) (o : Option Name) → front_of s ≡ codes "kind=" → named value ≡ o
    → option_map test.Kind o ≡ Some t → HasValue s value t
kinded s value t None f e h = absurd (cc)
kinded s value t (Some n) f e h =
    let same : test.Kind n ≡ t = cc in subst (HasValue s value) same (named_sound value n e, sym f)

plain : (s t : Test) (value : List ℕ) → HasValue s [] s → without_value s value ≡ Some t → HasValue s value t
plain s t [] has h = let same : s ≡ t = cc in subst (HasValue s []) same has
plain s t (byte ∷ bytes) has h = absurd (cc)

with_value_sound : (s t : Test) (value : List ℕ) → with_value s value ≡ Some t → HasValue s value t
with_value_sound (test.Kind n) t value h = kinded (test.Kind n) value t (named value) refl refl h
with_value_sound (test.Number n) t value h = numbered (test.Number n) value test.Number t (λ n i. (i, refl)) (number_in value) refl h
with_value_sound (test.Tag n) t value h = numbered (test.Tag n) value test.Tag t (λ n i. (i, refl)) (number_in value) refl h
with_value_sound (test.Requester n) t value h = numbered (test.Requester n) value test.Requester t (λ n i. (i, refl)) (number_in value) refl h
with_value_sound (test.Tc n) t value h = numbered (test.Tc n) value test.Tc t (λ n i. (i, refl)) (number_in value) refl h
with_value_sound (test.Before n) t value h = numbered (test.Before n) value test.Before t (λ n i. (i, refl)) (number_in value) refl h
with_value_sound (test.After n) t value h = numbered (test.After n) value test.After t (λ n i. (i, refl)) (number_in value) refl h
with_value_sound test.Any t value h = plain test.Any t value (refl, refl) h
with_value_sound test.Up t value h = plain test.Up t value (refl, refl) h
with_value_sound test.Down t value h = plain test.Down t value (refl, refl) h
with_value_sound test.Tlp t value h = plain test.Tlp t value (refl, refl) h
with_value_sound test.Dllp t value h = plain test.Dllp t value (refl, refl) h
with_value_sound test.LinkDown t value h = plain test.LinkDown t value (refl, refl) h
with_value_sound test.Spoiled t value h = plain test.Spoiled t value (refl, refl) h
with_value_sound test.Nullified t value h = plain test.Nullified t value (refl, refl) h

like_by : (s t : Test) (word : List ℕ) (b : Bool) → bytes_eq (take (length (front_of s)) word) (front_of s) ≡ b
    → cond b (with_value s (drop (length (front_of s)) word)) None ≡ Some t → SpellsTest t word
like_by s t word false e h = absurd (cc)
like_by s t word true e h =
    let size = length (front_of s) in
    let has = with_value_sound s t (drop size word) h in
    let front : take size word ≡ front_of t = same_text (take size word) (front_of s) e ∙ sym has.1 in
    (drop size word, has.0, sym (take-append-drop size word) ∙ ap (λ x. x ++ drop size word) front)

like_sound : (s t : Test) (word : List ℕ) → like s word ≡ Some t → SpellsTest t word
unfolding like
like_sound s t word h = like_by s t word (bytes_eq (take (length (front_of s)) word) (front_of s)) refl h

first_by : (s t : Test) (word : List ℕ) (o p : Option Test) → like s word ≡ o → (p ≡ Some t → SpellsTest t word)
    → option_or o p ≡ Some t → SpellsTest t word
first_by s t word None p e rest h = rest h
first_by s t word (Some u) p e rest h = let same : u ≡ t = cc in like_sound s t word (e ∙ ap Some same)

first_sound : (ss : List Test) (t : Test) (word : List ℕ) → first_like ss word ≡ Some t → SpellsTest t word
first_sound [] t word h = absurd (cc)
first_sound (s ∷ ss) t word h = first_by s t word (like s word) (first_like ss word) refl (first_sound ss t word) h

pub test_sound : (word : List ℕ) (t : Test) → test_in word ≡ Some t → SpellsTest t word
unfolding test_in
test_sound word t h = first_sound samples t word h

-- no front begins another, so that the test with the front of a word is the one found
spelled : (t : Test) (value : List ℕ) → SpellsValue t value → test_in (front_of t ++ value) ≡ Some t
unfolding test_in like
spelled test.Any value h = ap (λ v. test_in (codes "any" ++ v)) h
spelled test.Up value h = ap (λ v. test_in (codes "up" ++ v)) h
spelled test.Down value h = ap (λ v. test_in (codes "down" ++ v)) h
spelled test.Tlp value h = ap (λ v. test_in (codes "tlp" ++ v)) h
spelled test.Dllp value h = ap (λ v. test_in (codes "dllp" ++ v)) h
spelled test.LinkDown value h = ap (λ v. test_in (codes "linkdown" ++ v)) h
spelled test.Spoiled value h = ap (λ v. test_in (codes "spoiled" ++ v)) h
spelled test.Nullified value h = ap (λ v. test_in (codes "nullified" ++ v)) h
spelled (test.Kind n) value h =
    ap (λ v. test_in (codes "kind=" ++ v)) h ∙ ap (λ o. option_or (option_map test.Kind o) None) (named_text n)
spelled (test.Number n) value h = ap (λ o. option_or (option_map test.Number o) None) (number_spelled value n h)
spelled (test.Tag n) value h = ap (λ o. option_or (option_map test.Tag o) None) (number_spelled value n h)
spelled (test.Requester n) value h = ap (λ o. option_or (option_map test.Requester o) None) (number_spelled value n h)
spelled (test.Tc n) value h = ap (λ o. option_or (option_map test.Tc o) None) (number_spelled value n h)
spelled (test.Before n) value h = ap (λ o. option_or (option_map test.Before o) None) (number_spelled value n h)
spelled (test.After n) value h = ap (λ o. option_or (option_map test.After o) None) (number_spelled value n h)

pub test_spelled : (t : Test) (word : List ℕ) → SpellsTest t word → test_in word ≡ Some t
test_spelled t word h = ap test_in h.2 ∙ spelled t h.0 h.1
