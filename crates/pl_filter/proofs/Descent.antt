-- Reading a text goes as it is judged, and what is read is spelled by the tokens that were read.
use Rattle.std.proofs.Common.{◌≡◌, ℕ, zero, suc, ◌+◌, ◌≤◌, cond, List, [], ◌∷◌, ◌++◌, length, Option, Some, None, Result, Ok, Err, refl, sym, ap, ◌∙◌, subst, arith, append_assoc, append-nil}
use Rattle.std.specs.Prelude.{codes}
use Rattle.std.proofs.lemmas.Bool.{lt-ltb}
use Rattle.std.proofs.lemmas.List.{map-append}
use Rattle.pl_filter.specs.Answers.{IsAnswer}
use Rattle.pl_filter.specs.Grammar.{Spells}
use Rattle.pl_filter.specs.Reading.{◌>>=◌, Read, close_by, filter_by, joined_by, nothing_behind, operands, operation_by, operator_in, read_close, read_filter, read_negation, read_operation, read_pair, reading, test_in, test_or_refusal}
use Rattle.pl_filter.specs.Tokens.{Token, Open, Close, Word, Placed, placed, bare, tokens}
use Rattle.pl_filter.specs.Trees.{Tree, Both, Either, Negated}
use Rattle.pl_filter.specs.declared.error.FilterError.{FilterError}
use Rattle.pl_filter.specs.declared.error.FilterError.TheVariants.{TooDeep}
use Rattle.pl_filter.specs.declared.filter.Test.{Test}
use Rattle.pl_filter.specs.declared.word.Operator.{Operator}
use Rattle.pl_filter.specs.declared.word.Operator.TheVariants as operator
use Rattle.pl_filter.proofs.Judge.{judge, judged, judged-on, judged_answer, judged_done, answer_judged, refusal_of}
use Rattle.pl_filter.proofs.Stack.{Want, Filter, Operation, Closing, kept, wanted, depth}
use Rattle.pl_filter.proofs.Words.{test_sound, operator_sound}

bare-append : (xs ys : List Placed) → bare (xs ++ ys) ≡ bare xs ++ bare ys
bare-append xs ys = map-append (λ (t : Placed). t.token) xs ys

-- ---- a step that reads what its last token spells, and goes as it is judged

-- the tokens that were read
record Front (ts : List Placed) (rest : List Placed) (P : List Token → Type 0) : Type 0 where
  front : List Placed
  split : ts ≡ front ++ rest
  is : P (bare front)

-- a filter
abbrev Reads : ℕ → List Placed → List Want → Read → Type 0
Reads end ts st (Ok x) = Front ts x.1 (Spells x.0) × (judge end ts (Filter ∷ st) ≡ judge end x.1 st)
Reads end ts st (Err e) = judge end ts (Filter ∷ st) ≡ Some e

-- what stands behind an opening parenthesis
abbrev ReadsOperation : ℕ → List Placed → List Want → Read → Type 0
ReadsOperation end ts st (Ok x) =
    Front ts x.1 (λ front. Spells x.0 (Open ∷ front)) × (judge end ts (Operation ∷ st) ≡ judge end x.1 st)
ReadsOperation end ts st (Err e) = judge end ts (Operation ∷ st) ≡ Some e

-- the operand of a negation
abbrev ReadsNegation : ℕ → List Placed → List Want → Read → Type 0
ReadsNegation end ts st (Ok x) =
    Front ts x.1 (λ front. Spells x.0 (Open ∷ Word (codes "not") ∷ front)) × (judge end ts (Filter ∷ Closing ∷ st) ≡ judge end x.1 st)
ReadsNegation end ts st (Err e) = judge end ts (Filter ∷ Closing ∷ st) ≡ Some e

-- two filters that `front` spells, with the closing parenthesis
abbrev TwoSpelled : Tree → Tree → List Token → Type 0
TwoSpelled f g front = (fs gs : List Token) × Spells f fs × Spells g gs × (front ≡ fs ++ (gs ++ Close ∷ []))

abbrev ReadsPair : ℕ → List Placed → List Want → Result (Tree × Tree × List Placed) FilterError → Type 0
ReadsPair end ts st (Ok x) =
    Front ts x.2 (TwoSpelled x.0 x.1) × (judge end ts (Filter ∷ Filter ∷ Closing ∷ st) ≡ judge end x.2 st)
ReadsPair end ts st (Err e) = judge end ts (Filter ∷ Filter ∷ Closing ∷ st) ≡ Some e

abbrev ReadsClose : ℕ → List Placed → List Want → Result (List Placed) FilterError → Type 0
ReadsClose end ts st (Ok rest) = Front ts rest (λ front. front ≡ Close ∷ []) × (judge end ts (Closing ∷ st) ≡ judge end rest st)
ReadsClose end ts st (Err e) = judge end ts (Closing ∷ st) ≡ Some e

-- ---- a closing parenthesis

close_token : (end at : ℕ) (token : Token) (rest : List Placed) (st : List Want) → depth st ≤ 32
    → ReadsClose end (placed at token ∷ rest) st (close_by at token rest)
close_token end at Open rest st deep = refl
close_token end at (Word word) rest st deep = refl
close_token end at Close rest st deep = (
  record { front = placed at Close ∷ []; split = refl; is = refl },
  judged-on at (judge end rest) (Some st) st refl deep,
)

close_reads : (end : ℕ) (ts : List Placed) (st : List Want) → depth st ≤ 32 → ReadsClose end ts st (read_close end ts)
unfolding read_close
close_reads end [] st deep = refl
close_reads end (x ∷ rest) st deep = close_token end x.at x.token rest st deep

-- ---- one filter

negation_close : (end : ℕ) (ts : List Placed) (st : List Want) (x : Tree × List Placed) → Reads end ts (Closing ∷ st) (Ok x)
    → (c : Result (List Placed) FilterError) → ReadsClose end x.1 st c
    → ReadsNegation end ts st (c >>= λ rest. Ok (Negated x.0, rest))
negation_close end ts st x h (Err e) c = h.1 ∙ c
negation_close end ts st x h (Ok rest) c = (
  record {
    front = h.0.front ++ c.0.front;
    split = h.0.split ∙ ap (λ ys. h.0.front ++ ys) c.0.split ∙ sym (append_assoc h.0.front c.0.front rest);
    is = (
      bare h.0.front,
      h.0.is,
      ap (λ ys. Open ∷ Word (codes "not") ∷ ys) (bare-append h.0.front c.0.front ∙ ap (λ ys. bare h.0.front ++ ys) c.0.is),
    );
  },
  h.1 ∙ c.1,
)

negation_by : (end : ℕ) (ts : List Placed) (st : List Want) → depth st ≤ 32 → (r : Read) → Reads end ts (Closing ∷ st) r
    → ReadsNegation end ts st (r >>= λ f. read_close end f.1 >>= λ rest. Ok (Negated f.0, rest))
negation_by end ts st deep (Err e) h = h
negation_by end ts st deep (Ok x) h = negation_close end ts st x h (read_close end x.1) (close_reads end x.1 st deep)

-- ---- two filters

pair_close : (end : ℕ) (ts : List Placed) (st : List Want) (f g : Tree) (mid rest : List Placed)
    → Reads end ts (Filter ∷ Closing ∷ st) (Ok (f, mid)) → Reads end mid (Closing ∷ st) (Ok (g, rest))
    → (c : Result (List Placed) FilterError) → ReadsClose end rest st c
    → ReadsPair end ts st (c >>= λ end_rest. Ok (f, g, end_rest))
pair_close end ts st f g mid rest h k (Err e) c = h.1 ∙ k.1 ∙ c
pair_close end ts st f g mid rest h k (Ok last) c =
    let inner = k.0.front ++ c.0.front in (
      record {
        front = h.0.front ++ inner;
        split = h.0.split ∙ ap (λ ys. h.0.front ++ ys) (k.0.split ∙ ap (λ ys. k.0.front ++ ys) c.0.split ∙ sym (append_assoc k.0.front c.0.front last))
            ∙ sym (append_assoc h.0.front inner last);
        is = (
          bare h.0.front,
          bare k.0.front,
          h.0.is,
          k.0.is,
          bare-append h.0.front inner
              ∙ ap (λ ys. bare h.0.front ++ ys) (bare-append k.0.front c.0.front ∙ ap (λ ys. bare k.0.front ++ ys) c.0.is),
        );
      },
      h.1 ∙ k.1 ∙ c.1,
    )

pair_second : (end : ℕ) (ts : List Placed) (st : List Want) → depth st ≤ 32 → (x : Tree × List Placed)
    → Reads end ts (Filter ∷ Closing ∷ st) (Ok x) → (r : Read) → Reads end x.1 (Closing ∷ st) r
    → ReadsPair end ts st (r >>= λ g. read_close end g.1 >>= λ rest. Ok (x.0, g.0, rest))
pair_second end ts st deep x h (Err e) k = h.1 ∙ k
pair_second end ts st deep x h (Ok y) k = pair_close end ts st x.0 y.0 x.1 y.1 h k (read_close end y.1) (close_reads end y.1 st deep)

-- ---- filters of one nesting less

-- reads filters where so much more may be opened
abbrev IsReader : ℕ → ℕ → (List Placed → Read) → Type 0
IsReader end left filter = (ts : List Placed) (st : List Want) → depth st + left ≡ 32 → Reads end ts st (filter ts)

module _ (end left : ℕ) (filter : List Placed → Read) (reads : IsReader end left filter) where
  negation_reads : (ts : List Placed) (st : List Want) → depth st + suc left ≡ 32 → ReadsNegation end ts st (read_negation end filter ts)
  unfolding read_negation
  negation_reads ts st deep = negation_by end ts st (omega arith) (filter ts) (reads ts (Closing ∷ st) (omega arith))

  pair_first : (ts : List Placed) (st : List Want) → depth st + suc left ≡ 32 → (r : Read) → Reads end ts (Filter ∷ Closing ∷ st) r
      → ReadsPair end ts st (r >>= λ f. filter f.1 >>= λ g. read_close end g.1 >>= λ rest. Ok (f.0, g.0, rest))
  pair_first ts st deep (Err e) h = h
  pair_first ts st deep (Ok x) h = pair_second end ts st (omega arith) x h (filter x.1) (reads x.1 (Closing ∷ st) (omega arith))

  pair_reads : (ts : List Placed) (st : List Want) → depth st + suc left ≡ 32 → ReadsPair end ts st (read_pair end filter ts)
  unfolding read_pair
  pair_reads ts st deep = pair_first ts st deep (filter ts) (reads ts (Filter ∷ Closing ∷ st) (omega arith))

  join_reads : (join : Tree → Tree → Tree) (word : List ℕ) (at : ℕ) (rest : List Placed) (st on : List Want)
      → ((f g : Tree) (front : List Token) → TwoSpelled f g front → Spells (join f g) (Open ∷ Word word ∷ front))
      → judge end (placed at (Word word) ∷ rest) (Operation ∷ st) ≡ judge end rest (Filter ∷ Filter ∷ Closing ∷ st)
      → (p : Result (Tree × Tree × List Placed) FilterError) → ReadsPair end rest st p
      → ReadsOperation end (placed at (Word word) ∷ rest) st (p >>= joined_by join)
  join_reads join word at rest st on all j (Err e) h = j ∙ h
  join_reads join word at rest st on all j (Ok x) h = (
    record { front = placed at (Word word) ∷ h.0.front; split = ap (λ ys. placed at (Word word) ∷ ys) h.0.split; is = all x.0 x.1 (bare h.0.front) h.0.is },
    j ∙ h.1,
  )

  operands_read : (at : ℕ) (word : List ℕ) (rest : List Placed) (st : List Want) → depth st + suc left ≡ 32 → (o : Option Operator) → operator_in word ≡ o
      → ReadsOperation end (placed at (Word word) ∷ rest) st (operands end filter at o rest)
  operands_read at word rest st deep None e = ap (λ p. judged at (judge end rest) (wanted st p)) e
  operands_read at word rest st deep (Some operator.Not) e = negated (read_negation end filter rest) (negation_reads rest st deep)
    where
      j : judge end (placed at (Word word) ∷ rest) (Operation ∷ st) ≡ judge end rest (Filter ∷ Closing ∷ st)
      j = judged-on at (judge end rest) (wanted st (operator_in word)) (Filter ∷ Closing ∷ st) (ap (wanted st) e) (omega arith)

      negated : (r : Read) → ReadsNegation end rest st r → ReadsOperation end (placed at (Word word) ∷ rest) st r
      negated (Err f) h = j ∙ h
      negated (Ok x) h = (
        record {
          front = placed at (Word word) ∷ h.0.front;
          split = ap (λ ys. placed at (Word word) ∷ ys) h.0.split;
          is = subst (λ w. Spells x.0 (Open ∷ Word w ∷ bare h.0.front)) (sym (operator_sound word operator.Not e)) h.0.is;
        },
        j ∙ h.1,
      )
  operands_read at word rest st deep (Some operator.And) e =
      join_reads Both word at rest st st
      (λ f g front h. (h.0, h.1, h.2, h.3, ap (λ w. Open ∷ Word w ∷ front) (operator_sound word operator.And e) ∙ ap (λ ys. Open ∷ Word (codes "and") ∷ ys) h.4))
      (judged-on at (judge end rest) (wanted st (operator_in word)) (Filter ∷ Filter ∷ Closing ∷ st) (ap (wanted st) e) (omega arith))
      (read_pair end filter rest) (pair_reads rest st deep)
  operands_read at word rest st deep (Some operator.Or) e =
      join_reads Either word at rest st st
      (λ f g front h. (h.0, h.1, h.2, h.3, ap (λ w. Open ∷ Word w ∷ front) (operator_sound word operator.Or e) ∙ ap (λ ys. Open ∷ Word (codes "or") ∷ ys) h.4))
      (judged-on at (judge end rest) (wanted st (operator_in word)) (Filter ∷ Filter ∷ Closing ∷ st) (ap (wanted st) e) (omega arith))
      (read_pair end filter rest) (pair_reads rest st deep)

  operation_token : (at : ℕ) (token : Token) (rest : List Placed) (st : List Want) → depth st + suc left ≡ 32
      → ReadsOperation end (placed at token ∷ rest) st (operation_by end filter at token rest)
  operation_token at Open rest st deep = refl
  operation_token at Close rest st deep = refl
  operation_token at (Word word) rest st deep = operands_read at word rest st deep (operator_in word) refl

  operation_reads : (ts : List Placed) (st : List Want) → depth st + suc left ≡ 32 → ReadsOperation end ts st (read_operation end filter ts)
  unfolding read_operation
  operation_reads [] st deep = refl
  operation_reads (x ∷ rest) st deep = operation_token x.at x.token rest st deep

-- ---- filters

test_reads : (end at : ℕ) (word : List ℕ) (rest : List Placed) (st : List Want) → depth st ≤ 32 → (o : Option Test) → test_in word ≡ o
    → Reads end (placed at (Word word) ∷ rest) st (test_or_refusal at o rest)
test_reads end at word rest st deep None e = ap (λ o. judged at (judge end rest) (kept st o)) e
test_reads end at word rest st deep (Some t) e = (
  record { front = placed at (Word word) ∷ []; split = refl; is = (word, test_sound word t e, refl) },
  judged-on at (judge end rest) (kept st (test_in word)) st (ap (kept st) e) deep,
)

opened_reads : (end at : ℕ) (rest : List Placed) (st : List Want) → depth st + 1 ≤ 32 → (r : Read) → ReadsOperation end rest st r
    → Reads end (placed at Open ∷ rest) st r
opened_reads end at rest st deep (Err e) h = judged-on at (judge end rest) (Some (Operation ∷ st)) (Operation ∷ st) refl deep ∙ h
opened_reads end at rest st deep (Ok x) h = (
  record { front = placed at Open ∷ h.0.front; split = ap (λ ys. placed at Open ∷ ys) h.0.split; is = h.0.is },
  judged-on at (judge end rest) (Some (Operation ∷ st)) (Operation ∷ st) refl deep ∙ h.1,
)

filter_token : (end at : ℕ) (token : Token) (rest : List Placed) (st : List Want) (inside : ℕ → List Placed → Read) → depth st ≤ 32
    → Reads end (placed at Open ∷ rest) st (inside at rest)
    → Reads end (placed at token ∷ rest) st (filter_by inside at token rest)
filter_token end at Open rest st inside deep h = h
filter_token end at Close rest st inside deep h = refl
filter_token end at (Word word) rest st inside deep h = test_reads end at word rest st deep (test_in word) refl

too_deep : (end at : ℕ) (rest : List Placed) (st : List Want) → depth st ≡ 32 → judge end (placed at Open ∷ rest) (Filter ∷ st) ≡ Some (TooDeep at)
too_deep end at rest st deep =
    ap (λ b. cond b (Some (TooDeep at)) (judge end rest (Operation ∷ st))) (lt-ltb 32 (depth st + 1) (omega (arith, deep)))

filter_reads : (end left : ℕ) → IsReader end left (read_filter end left)
unfolding read_filter
filter_reads end zero [] st deep = refl
filter_reads end (suc left) [] st deep = refl
filter_reads end zero (x ∷ rest) st deep =
    filter_token end x.at x.token rest st (λ at rest. Err (TooDeep at)) (omega arith) (too_deep end x.at rest st (omega arith))
filter_reads end (suc left) (x ∷ rest) st deep =
    filter_token end x.at x.token rest st (λ at rest. read_operation end (read_filter end left) rest) (omega arith)
    (opened_reads end x.at rest st (omega arith) (read_operation end (read_filter end left) rest)
    (operation_reads end left (read_filter end left) (filter_reads end left) rest st deep))

-- ---- a whole text

abbrev SpelledIfOk : List Token → Result Tree FilterError → Type 0
SpelledIfOk ts (Ok f) = Spells f ts
SpelledIfOk ts (Err e) = Unit {0}

-- what is read of a text, against its judgement
abbrev ReadsAll : List ℕ → Result Tree FilterError → Type 0
ReadsAll text r = (judge (length text) (tokens text) (Filter ∷ []) ≡ refusal_of r) × SpelledIfOk (bare (tokens text)) r

all_behind : (text : List ℕ) (f : Tree) (rest : List Placed) → Reads (length text) (tokens text) [] (Ok (f, rest)) → ReadsAll text (nothing_behind f rest)
all_behind text f [] h =
    let front = h.0.split ∙ append-nil h.0.front in (h.1, subst (λ ys. Spells f (bare ys)) (sym front) h.0.is)
all_behind text f (next ∷ rest) h = (h.1, tt)

all_by : (text : List ℕ) (r : Read) → Reads (length text) (tokens text) [] r → ReadsAll text (r >>= λ f. nothing_behind f.0 f.1)
all_by text (Err e) h = (h, tt)
all_by text (Ok x) h = all_behind text x.0 x.1 h

all_reads : (text : List ℕ) → ReadsAll text (reading text)
unfolding reading
all_reads text =
    all_by text (read_filter (length text) 32 (tokens text)) (filter_reads (length text) 32 (tokens text) [] (omega arith))

answer_by : (text : List ℕ) (r : Result Tree FilterError) → ReadsAll text r → IsAnswer text r
answer_by text (Ok f) h = (h.1, judged_done text h.0)
answer_by text (Err e) h = judged_answer text e h.0

-- what is read of a text is an answer, and its refusal is that of every answer
pub reading_is_answer : (text : List ℕ) → IsAnswer text (reading text)
reading_is_answer text = answer_by text (reading text) (all_reads text)

pub same_refusal : (text : List ℕ) (a : Result Tree FilterError) → IsAnswer text a → refusal_of a ≡ refusal_of (reading text)
same_refusal text a h = sym (answer_judged text a h) ∙ (all_reads text).0
