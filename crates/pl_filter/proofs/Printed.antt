-- A printed filter is read as it was.
use Rattle.std.proofs.Common.{◌≡◌, ℕ, suc, ◌+◌, ◌-◌, ◌^◌, ◌<◌, ◌≤◌, true, cond, List, [], ◌∷◌, ◌++◌, length, take, drop, Ok, refl, sym, ap, ◌∙◌, subst, arith, rules, append_assoc, append-nil}
use Rattle.std.specs.Prelude.{codes, decimal}
use Rattle.std.specs.Char.{is_ascii_digit}
use Rattle.std.specs.List.{list_all}
use Rattle.std.specs.Str.{all_ascii_digits}
use Rattle.std.proofs.lemmas.Bool.{and_parts, and_from}
use Rattle.std.proofs.lemmas.Bool.Decides.{nat_tests}
use Rattle.std.proofs.lemmas.Fmt.{decimal_nonempty, length-decimal-le, digits_decimal, digits_value-decimal}
use Rattle.std.proofs.lemmas.List.{map-append}
use Rattle.std.proofs.lemmas.Str.Parse.{IsNumeralModel, numerals_by_fold}
use Rattle.pl_base.specs.declared.link.Class.TheVariants as class
use Rattle.pl_dllp.specs.declared.packet.Stage.TheVariants.{Init1, Init2, Update}
use Rattle.pl_tlp.specs.declared.kind.Kind.TheVariants as kind
use Rattle.pl_filter.specs.Answers.{IsAnswer}
use Rattle.pl_filter.specs.Fitting.{NumberFits, NumbersFit}
use Rattle.pl_filter.specs.Grammar.{IsNumber, IsShallow, Spells, SpellsValue, open_behind, value_behind}
use Rattle.pl_filter.specs.Names.{text_of}
use Rattle.pl_filter.specs.Reading.{is_word_byte, run_length}
use Rattle.pl_filter.specs.Tests.{front_of, printed, value_text}
use Rattle.pl_filter.specs.Tokens.{Token, Open, Close, Word, Placed, placed, bare, tokens, tokens_from}
use Rattle.pl_filter.specs.Trees.{Tree, Both, Either, Negated, Passes, nesting}
use Rattle.pl_filter.specs.declared.filter.Test.{Test}
use Rattle.pl_filter.specs.declared.filter.Test.TheVariants as test
use Rattle.pl_filter.specs.declared.name.Name.{Name}
use Rattle.pl_filter.specs.declared.name.Name.TheVariants as name
use Rattle.pl_filter.proofs.Lexing.{word_first}

-- ---- the bytes of words

abbrev IsWord : List ℕ → Type 0
IsWord bytes = list_all is_word_byte bytes ≡ true

word-append : (xs ys : List ℕ) → IsWord xs → IsWord ys → IsWord (xs ++ ys)
word-append [] ys h k = k
word-append (x ∷ xs) ys h k =
    let parts = and_parts (is_word_byte x) (list_all is_word_byte xs) h in
    and_from (is_word_byte x) (list_all is_word_byte (xs ++ ys)) parts.0 (word-append xs ys parts.1 k)

run_length-word : (xs rest : List ℕ) → IsWord xs → run_length rest ≡ 0 → run_length (xs ++ rest) ≡ length xs
run_length-word [] rest h e = e
run_length-word (x ∷ xs) rest h e =
    let parts = and_parts (is_word_byte x) (list_all is_word_byte xs) h in
    ap (λ b. cond b (suc (run_length (xs ++ rest))) 0) parts.0 ∙ ap suc (run_length-word xs rest parts.1 e)

take-front : (xs ys : List ℕ) → take (length xs) (xs ++ ys) ≡ xs
take-front [] ys = refl
take-front (x ∷ xs) ys = ap (λ zs. x ∷ zs) (take-front xs ys)

drop-front : (xs ys : List ℕ) → drop (length xs) (xs ++ ys) ≡ ys
drop-front [] ys = refl
drop-front (x ∷ xs) ys = drop-front xs ys

-- these tokens stand in front of those of the rest
record Lexes (at : ℕ) (bytes rest : List ℕ) (P : List Token → Type 0) : Type 0 where
  front : List Placed
  end : ℕ
  lexes : tokens_from at bytes ≡ front ++ tokens_from end rest
  is : P (bare front)

word_lexes : (at byte : ℕ) (bytes rest : List ℕ) → IsWord (byte ∷ bytes) → run_length rest ≡ 0
    → Lexes at (byte ∷ (bytes ++ rest)) rest (λ front. front ≡ Word (byte ∷ bytes) ∷ [])
word_lexes at byte bytes rest h e =
    let parts = and_parts (is_word_byte byte) (list_all is_word_byte bytes) h in
    let size = run_length-word bytes rest parts.1 e in
    let end = at + 1 + length bytes in
    record {
      front = placed at (Word (byte ∷ bytes)) ∷ [];
      end = end;
      lexes =
          word_first at byte (bytes ++ rest) parts.0
          ∙ ap (λ n. placed at (Word (byte ∷ take n (bytes ++ rest))) ∷ tokens_from (at + 1 + n) (drop n (bytes ++ rest))) size
          ∙ ap (λ xs. placed at (Word (byte ∷ xs)) ∷ tokens_from end (drop (length bytes) (bytes ++ rest))) (take-front bytes rest)
          ∙ ap (λ xs. placed at (Word (byte ∷ bytes)) ∷ tokens_from end xs) (drop-front bytes rest);
      is = refl;
    }

-- ---- the words of tests

own : IsNumeralModel (λ ds. all_ascii_digits ds ≡ true) (value_behind 0)
own = numerals_by_fold _ (search rules) value_behind (search rules)

number_printed : (n : ℕ) → n < 2 ^ 64 → IsNumber (decimal n) n
number_printed n small = record {
  some = omega (arith, decimal_nonempty n small);
  few = length-decimal-le 20 n (omega arith) (omega (arith, small)) small;
  digits_alone = digits_decimal own n small;
  value = sym (digits_value-decimal own n small);
  fits = small;
}

digit_is_word_byte : (byte : ℕ) → is_ascii_digit byte ≡ true → is_word_byte byte ≡ true
digit_is_word_byte byte h = grind (arith, nat_tests)

digits_are_word : (digits : List ℕ) → all_ascii_digits digits ≡ true → IsWord digits
digits_are_word [] h = refl
digits_are_word (digit ∷ digits) h =
    let parts = and_parts (is_ascii_digit digit) (all_ascii_digits digits) h in
    and_from (is_word_byte digit) (list_all is_word_byte digits) (digit_is_word_byte digit parts.0) (digits_are_word digits parts.1)

number_is_word : (n : ℕ) → n < 2 ^ 64 → IsWord (decimal n)
number_is_word n small = digits_are_word (decimal n) (digits_decimal own n small)

name_is_word : (n : Name) → IsWord (text_of n)
name_is_word (name.Tlp kind.MRd) = refl
name_is_word (name.Tlp kind.MRdLk) = refl
name_is_word (name.Tlp kind.MWr) = refl
name_is_word (name.Tlp kind.IORd) = refl
name_is_word (name.Tlp kind.IOWr) = refl
name_is_word (name.Tlp kind.CfgRd0) = refl
name_is_word (name.Tlp kind.CfgWr0) = refl
name_is_word (name.Tlp kind.CfgRd1) = refl
name_is_word (name.Tlp kind.CfgWr1) = refl
name_is_word (name.Tlp kind.Msg) = refl
name_is_word (name.Tlp kind.MsgD) = refl
name_is_word (name.Tlp kind.Cpl) = refl
name_is_word (name.Tlp kind.CplD) = refl
name_is_word (name.Tlp kind.CplLk) = refl
name_is_word (name.Tlp kind.CplDLk) = refl
name_is_word (name.Tlp kind.FetchAdd) = refl
name_is_word (name.Tlp kind.Swap) = refl
name_is_word (name.Tlp kind.Cas) = refl
name_is_word name.Ack = refl
name_is_word name.Nak = refl
name_is_word name.MRInit = refl
name_is_word name.DataLinkFeature = refl
name_is_word name.PmEnterL1 = refl
name_is_word name.PmEnterL23 = refl
name_is_word name.PmActiveStateRequestL1 = refl
name_is_word name.PmRequestAck = refl
name_is_word name.Vendor = refl
name_is_word name.Nop = refl
name_is_word (name.Flow Init1 class.P) = refl
name_is_word (name.Flow Init1 class.Np) = refl
name_is_word (name.Flow Init1 class.Cpl) = refl
name_is_word (name.Flow Init2 class.P) = refl
name_is_word (name.Flow Init2 class.Np) = refl
name_is_word (name.Flow Init2 class.Cpl) = refl
name_is_word (name.Flow Update class.P) = refl
name_is_word (name.Flow Update class.Np) = refl
name_is_word (name.Flow Update class.Cpl) = refl
name_is_word name.Other = refl
name_is_word name.BadCrc = refl
name_is_word name.Reserved = refl
name_is_word name.Undefined = refl
name_is_word name.WrongSize = refl

value_printed : (t : Test) → NumberFits t → SpellsValue t (value_text t)
value_printed test.Any h = refl
value_printed test.Up h = refl
value_printed test.Down h = refl
value_printed test.Tlp h = refl
value_printed test.Dllp h = refl
value_printed test.LinkDown h = refl
value_printed test.Spoiled h = refl
value_printed test.Nullified h = refl
value_printed (test.Kind n) h = refl
value_printed (test.Number n) h = number_printed n h
value_printed (test.Tag n) h = number_printed n h
value_printed (test.Requester n) h = number_printed n h
value_printed (test.Tc n) h = number_printed n h
value_printed (test.Before n) h = number_printed n h
value_printed (test.After n) h = number_printed n h

-- a test in front of what ends its word
abbrev TestLexes : Test → Type 0
TestLexes t =
    (at : ℕ) (rest : List ℕ) → run_length rest ≡ 0
    → Lexes at ((front_of t ++ value_text t) ++ rest) rest (λ front. front ≡ Word (front_of t ++ value_text t) ∷ [])

-- a front, and a value of bytes of a word
valued : (at byte : ℕ) (front value rest : List ℕ) → IsWord (byte ∷ front) → IsWord value → run_length rest ≡ 0
    → Lexes at (((byte ∷ front) ++ value) ++ rest) rest (λ ts. ts ≡ Word ((byte ∷ front) ++ value) ∷ [])
valued at byte front value rest h k e = word_lexes at byte (front ++ value) rest (word-append (byte ∷ front) value h k) e

test_lexes : (t : Test) → NumberFits t → TestLexes t
test_lexes test.Any h at rest e = valued at 97 (drop 1 (codes "any")) [] rest refl refl e
test_lexes test.Up h at rest e = valued at 117 (drop 1 (codes "up")) [] rest refl refl e
test_lexes test.Down h at rest e = valued at 100 (drop 1 (codes "down")) [] rest refl refl e
test_lexes test.Tlp h at rest e = valued at 116 (drop 1 (codes "tlp")) [] rest refl refl e
test_lexes test.Dllp h at rest e = valued at 100 (drop 1 (codes "dllp")) [] rest refl refl e
test_lexes test.LinkDown h at rest e = valued at 108 (drop 1 (codes "linkdown")) [] rest refl refl e
test_lexes test.Spoiled h at rest e = valued at 115 (drop 1 (codes "spoiled")) [] rest refl refl e
test_lexes test.Nullified h at rest e = valued at 110 (drop 1 (codes "nullified")) [] rest refl refl e
test_lexes (test.Kind n) h at rest e = valued at 107 (drop 1 (codes "kind=")) (text_of n) rest refl (name_is_word n) e
test_lexes (test.Number n) h at rest e = valued at 110 (drop 1 (codes "number=")) (decimal n) rest refl (number_is_word n h) e
test_lexes (test.Tag n) h at rest e = valued at 116 (drop 1 (codes "tag=")) (decimal n) rest refl (number_is_word n h) e
test_lexes (test.Requester n) h at rest e = valued at 114 (drop 1 (codes "requester=")) (decimal n) rest refl (number_is_word n h) e
test_lexes (test.Tc n) h at rest e = valued at 116 (drop 1 (codes "tc=")) (decimal n) rest refl (number_is_word n h) e
test_lexes (test.Before n) h at rest e = valued at 116 (drop 1 (codes "time<")) (decimal n) rest refl (number_is_word n h) e
test_lexes (test.After n) h at rest e = valued at 116 (drop 1 (codes "time>")) (decimal n) rest refl (number_is_word n h) e

-- ---- the tokens of a printed filter

-- a filter in front of what ends its last word
abbrev FilterLexes : Tree → Type 0
FilterLexes f = (at : ℕ) (rest : List ℕ) → run_length rest ≡ 0 → Lexes at (printed f ++ rest) rest (Spells f)

-- an operator behind its parenthesis, and the space behind it
operator_lexes : (at byte : ℕ) (word rest : List ℕ) → IsWord (byte ∷ word)
    → Lexes at (40 ∷ byte ∷ (word ++ 32 ∷ rest)) rest (λ front. front ≡ Open ∷ Word (byte ∷ word) ∷ [])
operator_lexes at byte word rest h =
    let x = word_lexes (at + 1) byte word (32 ∷ rest) h refl in
    record {
      front = placed at Open ∷ x.front;
      end = x.end + 1;
      lexes = ap (λ ts. placed at Open ∷ ts) x.lexes;
      is = ap (λ ts. Open ∷ ts) x.is;
    }

bare-append : (xs ys : List Placed) → bare (xs ++ ys) ≡ bare xs ++ bare ys
bare-append xs ys = map-append (λ (t : Placed). t.token) xs ys

-- tokens, and the closing parenthesis
closed : (P Q : List Token → Type 0) (at : ℕ) (bytes rest : List ℕ) → ((ts : List Token) → P ts → Q (ts ++ Close ∷ []))
    → Lexes at bytes (41 ∷ rest) P → Lexes at bytes rest Q
closed P Q at bytes rest on x = record {
  front = x.front ++ placed x.end Close ∷ [];
  end = x.end + 1;
  lexes = x.lexes ∙ sym (append_assoc x.front (placed x.end Close ∷ []) (tokens_from (x.end + 1) rest));
  is = subst Q (sym (bare-append x.front (placed x.end Close ∷ []))) (on (bare x.front) x.is);
}

-- tokens, and those behind them
joined_lexes : (P Q R : List Token → Type 0) (at : ℕ) (bytes mid rest : List ℕ) → ((ts us : List Token) → P ts → Q us → R (ts ++ us))
    → (x : Lexes at bytes mid P) → Lexes x.end mid rest Q → Lexes at bytes rest R
joined_lexes P Q R at bytes mid rest on x y = record {
  front = x.front ++ y.front;
  end = y.end;
  lexes = x.lexes ∙ ap (λ ts. x.front ++ ts) y.lexes ∙ sym (append_assoc x.front y.front (tokens_from y.end rest));
  is = subst R (sym (bare-append x.front y.front)) (on (bare x.front) (bare y.front) x.is y.is);
}

-- a space behind tokens
spaced : (P : List Token → Type 0) (at : ℕ) (bytes rest : List ℕ) → Lexes at bytes (32 ∷ rest) P → Lexes at bytes rest P
spaced P at bytes rest x = record { front = x.front; end = x.end + 1; lexes = x.lexes; is = x.is }

of_bytes : (P : List Token → Type 0) (at : ℕ) (bytes same rest : List ℕ) → bytes ≡ same → Lexes at same rest P → Lexes at bytes rest P
of_bytes P at bytes same rest e x = subst (λ b. Lexes at b rest P) (sym e) x

negation_lexes : (f : Tree) → FilterLexes f → FilterLexes (Negated f)
negation_lexes f inner at rest e =
    let behind = printed f ++ 41 ∷ rest in
    let bytes : printed (Negated f) ++ rest ≡ codes "(not " ++ behind = simp append_assoc in
    let x = operator_lexes at 110 (drop 1 (codes "not")) behind refl in
    let y = closed (Spells f) (λ ts. (fs : List Token) × Spells f fs × (ts ≡ fs ++ Close ∷ [])) x.end behind rest (λ ts s. (ts, s, refl)) (inner x.end (41 ∷ rest) refl) in
    of_bytes (Spells (Negated f)) at (printed (Negated f) ++ rest) (codes "(not " ++ behind) rest bytes
    (joined_lexes (λ ts. ts ≡ Open ∷ Word (codes "not") ∷ []) (λ ts. (fs : List Token) × Spells f fs × (ts ≡ fs ++ Close ∷ []))
    (Spells (Negated f)) at (codes "(not " ++ behind) behind rest
    (λ ts us a b. (b.0, b.1, ap (λ xs. xs ++ us) a ∙ ap (λ xs. Open ∷ Word (codes "not") ∷ xs) b.2)) x y)

-- two filters and the closing parenthesis
abbrev TwoClosed : Tree → Tree → List Token → Type 0
TwoClosed f g ts = (fs gs : List Token) × Spells f fs × Spells g gs × (ts ≡ fs ++ (gs ++ Close ∷ []))

two_lexes : (f g : Tree) → FilterLexes f → FilterLexes g → (at : ℕ) (rest : List ℕ)
    → Lexes at (printed f ++ 32 ∷ (printed g ++ 41 ∷ rest)) rest (TwoClosed f g)
two_lexes f g first second at rest =
    let behind = printed g ++ 41 ∷ rest in
    let x = spaced (Spells f) at (printed f ++ 32 ∷ behind) behind (first at (32 ∷ behind) refl) in
    let y = closed (Spells g) (λ ts. (gs : List Token) × Spells g gs × (ts ≡ gs ++ Close ∷ [])) x.end behind rest (λ ts s. (ts, s, refl)) (second x.end (41 ∷ rest) refl) in
    joined_lexes (Spells f) (λ ts. (gs : List Token) × Spells g gs × (ts ≡ gs ++ Close ∷ [])) (TwoClosed f g) at (printed f ++ 32 ∷ behind) behind rest
    (λ ts us a b. (ts, b.0, a, b.1, ap (λ xs. ts ++ xs) b.2)) x y

filter_lexes : (f : Tree) → NumbersFit f → FilterLexes f
filter_lexes (Passes t) h at rest e =
    let x = test_lexes t h at rest e in
    record { front = x.front; end = x.end; lexes = x.lexes; is = (front_of t ++ value_text t, (value_text t, value_printed t h, refl), x.is) }
filter_lexes (Negated f) h at rest e = negation_lexes f (filter_lexes f h) at rest e
filter_lexes (Both f g) h at rest e =
    let behind = printed f ++ 32 ∷ (printed g ++ 41 ∷ rest) in
    let bytes : printed (Both f g) ++ rest ≡ codes "(and " ++ behind = simp append_assoc in
    let x = operator_lexes at 97 (drop 1 (codes "and")) behind refl in
    of_bytes (Spells (Both f g)) at (printed (Both f g) ++ rest) (codes "(and " ++ behind) rest bytes
    (joined_lexes (λ ts. ts ≡ Open ∷ Word (codes "and") ∷ []) (TwoClosed f g) (Spells (Both f g)) at (codes "(and " ++ behind) behind rest
    (λ ts us a b. (b.0, b.1, b.2, b.3, ap (λ xs. xs ++ us) a ∙ ap (λ xs. Open ∷ Word (codes "and") ∷ xs) b.4)) x
    (two_lexes f g (filter_lexes f h.0) (filter_lexes g h.1) x.end rest))
filter_lexes (Either f g) h at rest e =
    let behind = printed f ++ 32 ∷ (printed g ++ 41 ∷ rest) in
    let bytes : printed (Either f g) ++ rest ≡ codes "(or " ++ behind = simp append_assoc in
    let x = operator_lexes at 111 (drop 1 (codes "or")) behind refl in
    of_bytes (Spells (Either f g)) at (printed (Either f g) ++ rest) (codes "(or " ++ behind) rest bytes
    (joined_lexes (λ ts. ts ≡ Open ∷ Word (codes "or") ∷ []) (TwoClosed f g) (Spells (Either f g)) at (codes "(or " ++ behind) behind rest
    (λ ts us a b. (b.0, b.1, b.2, b.3, ap (λ xs. xs ++ us) a ∙ ap (λ xs. Open ∷ Word (codes "or") ∷ xs) b.4)) x
    (two_lexes f g (filter_lexes f h.0) (filter_lexes g h.1) x.end rest))

-- ---- parentheses

open_behind-append : (xs ys : List Token) (count : ℕ) → open_behind count (xs ++ ys) ≡ open_behind (open_behind count xs) ys
open_behind-append [] ys count = refl
open_behind-append (Open ∷ xs) ys count = open_behind-append xs ys (count + 1)
open_behind-append (Close ∷ xs) ys count = open_behind-append xs ys (count - 1)
open_behind-append (Word word ∷ xs) ys count = open_behind-append xs ys count

shallow-append : (xs ys : List Token) (count : ℕ) → IsShallow count xs → IsShallow (open_behind count xs) ys → IsShallow count (xs ++ ys)
shallow-append [] ys count h k = k
shallow-append (Open ∷ xs) ys count h k = (h.0, shallow-append xs ys (count + 1) h.1 k)
shallow-append (Close ∷ xs) ys count h k = shallow-append xs ys (count - 1) h k
shallow-append (Word word ∷ xs) ys count h k = shallow-append xs ys count h k

-- no parenthesis is too deep, and as many are open behind as before
abbrev Level : ℕ → List Token → Type 0
Level count ts = IsShallow count ts × (open_behind count ts ≡ count)

level-append : (xs ys : List Token) (count : ℕ) → Level count xs → Level count ys → Level count (xs ++ ys)
level-append xs ys count h k = (
  shallow-append xs ys count h.0 (subst (λ n. IsShallow n ys) (sym h.1) k.0),
  open_behind-append xs ys count ∙ ap (λ n. open_behind n ys) h.1 ∙ k.1,
)

level_closed : (ts : List Token) (count : ℕ) → Level (count + 1) ts → IsShallow (count + 1) (ts ++ Close ∷ []) × (open_behind (count + 1) (ts ++ Close ∷ []) ≡ count)
level_closed ts count h =
    let less : count + 1 - 1 ≡ count = omega arith in (
      shallow-append ts (Close ∷ []) (count + 1) h.0 tt,
      open_behind-append ts (Close ∷ []) (count + 1) ∙ ap (λ n. n - 1) h.1 ∙ less,
    )

spelled_level : (f : Tree) (ts : List Token) (count : ℕ) → Spells f ts → count + nesting f ≤ 32 → Level count ts
spelled_level (Passes t) ts count s h = subst (Level count) (sym s.2) (tt, refl)
spelled_level (Negated f) ts count s h =
    let x = level_closed s.0 count (spelled_level f s.0 (count + 1) s.1 (omega arith)) in
    subst (Level count) (sym s.2) ((omega arith, x.0), x.1)
spelled_level (Both f g) ts count s h =
    let a = spelled_level f s.0 (count + 1) s.2 (omega arith) in
    let b = spelled_level g s.1 (count + 1) s.3 (omega arith) in
    let x = level_closed (s.0 ++ s.1) count (level-append s.0 s.1 (count + 1) a b) in
    let e = s.4 ∙ ap (λ us. Open ∷ Word (codes "and") ∷ us) (sym (append_assoc s.0 s.1 (Close ∷ []))) in
    subst (Level count) (sym e) ((omega arith, x.0), x.1)
spelled_level (Either f g) ts count s h =
    let a = spelled_level f s.0 (count + 1) s.2 (omega arith) in
    let b = spelled_level g s.1 (count + 1) s.3 (omega arith) in
    let x = level_closed (s.0 ++ s.1) count (level-append s.0 s.1 (count + 1) a b) in
    let e = s.4 ∙ ap (λ us. Open ∷ Word (codes "or") ∷ us) (sym (append_assoc s.0 s.1 (Close ∷ []))) in
    subst (Level count) (sym e) ((omega arith, x.0), x.1)

-- ---- the answer to a printed filter

pub printed_answer : (f : Tree) → NumbersFit f → nesting f ≤ 32 → IsAnswer (printed f) (Ok f)
printed_answer f fits small =
    let x = filter_lexes f fits 0 [] refl in
    let front : tokens (printed f) ≡ x.front = ap (tokens_from 0) (sym (append-nil (printed f))) ∙ x.lexes ∙ append-nil x.front in
    let spells = subst (λ ts. Spells f (bare ts)) (sym front) x.is in
    (spells, (spelled_level f (bare (tokens (printed f))) 0 spells (omega (arith, small))).0)
