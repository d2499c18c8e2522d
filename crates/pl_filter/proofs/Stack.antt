-- What may still come behind tokens: a stack of what is wanted, which tells whether a filter may begin so.
use Rattle.std.proofs.Common.{◌≡◌, ℕ, ◌+◌, ◌-◌, ◌≤◌, List, [], ◌∷◌, ◌++◌, Option, Some, None, refl, sym, ap, ◌∙◌, subst, arith, append_assoc, append-nil}
use Rattle.std.specs.Prelude.{codes}
use Rattle.std.specs.Option.{option_and_then}
use Rattle.pl_filter.specs.Grammar.{Spells, MayBegin, open_behind, IsShallow}
use Rattle.pl_filter.specs.Reading.{like, test_in, operator_in, operator_text}
use Rattle.pl_filter.specs.Tokens.{Token, Open, Close, Word}
use Rattle.pl_filter.specs.Trees.{Tree, Both, Either, Negated, Passes}
use Rattle.pl_filter.specs.declared.filter.Test.{Test}
use Rattle.pl_filter.specs.declared.word.Operator.{Operator}
use Rattle.pl_filter.specs.declared.word.Operator.TheVariants as operator
use Rattle.pl_filter.proofs.Words.{test_sound, test_spelled, operator_sound, operator_spelled}

pub data Want : Type 0 where
  Filter : Want
  Operation : Want
  Closing : Want

abbrev pub wants_of : Operator → List Want → List Want
wants_of operator.Not st = Filter ∷ Closing ∷ st
wants_of operator.And st = Filter ∷ Filter ∷ Closing ∷ st
wants_of operator.Or st = Filter ∷ Filter ∷ Closing ∷ st

abbrev pub kept : List Want → Option Test → Option (List Want)
kept st None = None
kept st (Some t) = Some st

abbrev pub wanted : List Want → Option Operator → Option (List Want)
wanted st None = None
wanted st (Some o) = Some (wants_of o st)

abbrev pub step_at : Want → Token → List Want → Option (List Want)
step_at Filter Open st = Some (Operation ∷ st)
step_at Filter Close st = None
step_at Filter (Word word) st = kept st (test_in word)
step_at Operation Open st = None
step_at Operation Close st = None
step_at Operation (Word word) st = wanted st (operator_in word)
step_at Closing Open st = None
step_at Closing Close st = Some st
step_at Closing (Word word) st = None

abbrev pub step : Token → List Want → Option (List Want)
step t [] = None
step t (w ∷ st) = step_at w t st

-- what is wanted behind these tokens, where nothing stands in a wrong place
abbrev pub run : List Token → List Want → Option (List Want)
run [] st = Some st
run (t ∷ ts) st = option_and_then (run ts) (step t st)

after : (o : Option (List Want)) (xs ys : List Token) → ((st : List Want) → run (xs ++ ys) st ≡ option_and_then (run ys) (run xs st))
    → option_and_then (run (xs ++ ys)) o ≡ option_and_then (run ys) (option_and_then (run xs) o)
after None xs ys h = refl
after (Some st) xs ys h = h st

pub run-append : (xs ys : List Token) (st : List Want) → run (xs ++ ys) st ≡ option_and_then (run ys) (run xs st)
run-append [] ys st = refl
run-append (t ∷ xs) ys st = after (step t st) xs ys (run-append xs ys)

-- ---- a filter fills the want of one

two : (fs gs : List Token) (st : List Want) → ((st : List Want) → run fs (Filter ∷ st) ≡ Some st) → ((st : List Want) → run gs (Filter ∷ st) ≡ Some st)
    → run (fs ++ (gs ++ Close ∷ [])) (Filter ∷ Filter ∷ Closing ∷ st) ≡ Some st
two fs gs st hf hg =
    run-append fs (gs ++ Close ∷ []) (Filter ∷ Filter ∷ Closing ∷ st)
    ∙ ap (option_and_then (run (gs ++ Close ∷ []))) (hf (Filter ∷ Closing ∷ st))
    ∙ run-append gs (Close ∷ []) (Filter ∷ Closing ∷ st)
    ∙ ap (option_and_then (run (Close ∷ []))) (hg (Closing ∷ st))

one : (fs : List Token) (st : List Want) → ((st : List Want) → run fs (Filter ∷ st) ≡ Some st)
    → run (fs ++ Close ∷ []) (Filter ∷ Closing ∷ st) ≡ Some st
one fs st hf =
    run-append fs (Close ∷ []) (Filter ∷ Closing ∷ st) ∙ ap (option_and_then (run (Close ∷ []))) (hf (Closing ∷ st))

operate : (o : Operator) (rest : List Token) (st : List Want) → run (Open ∷ Word (operator_text o) ∷ rest) (Filter ∷ st) ≡ run rest (wants_of o st)
operate o rest st = ap (λ x. option_and_then (run rest) (wanted st x)) (operator_spelled o)

pub run-spells : (f : Tree) (ts : List Token) (st : List Want) → Spells f ts → run ts (Filter ∷ st) ≡ Some st
run-spells (Passes t) ts st h =
    ap (λ x. run x (Filter ∷ st)) h.2 ∙ ap (λ o. option_and_then (run []) (kept st o)) (test_spelled t h.0 h.1)
run-spells (Negated f) ts st h =
    ap (λ x. run x (Filter ∷ st)) h.2 ∙ operate operator.Not (h.0 ++ Close ∷ []) st ∙ one h.0 st (λ s. run-spells f h.0 s h.1)
run-spells (Both f g) ts st h =
    ap (λ x. run x (Filter ∷ st)) h.4 ∙ operate operator.And (h.0 ++ (h.1 ++ Close ∷ [])) st
    ∙ two h.0 h.1 st (λ s. run-spells f h.0 s h.2) (λ s. run-spells g h.1 s h.3)
run-spells (Either f g) ts st h =
    ap (λ x. run x (Filter ∷ st)) h.4 ∙ operate operator.Or (h.0 ++ (h.1 ++ Close ∷ [])) st
    ∙ two h.0 h.1 st (λ s. run-spells f h.0 s h.2) (λ s. run-spells g h.1 s h.3)

-- ---- every stack can be filled

abbrev finish : List Want → List Token
finish [] = []
finish (Filter ∷ st) = Word (codes "any") ∷ finish st
finish (Operation ∷ st) = Word (codes "not") ∷ Word (codes "any") ∷ Close ∷ finish st
finish (Closing ∷ st) = Close ∷ finish st

run-finish : (st : List Want) → run (finish st) st ≡ Some []
unfolding test_in operator_in like
run-finish [] = refl
run-finish (Filter ∷ st) = run-finish st
run-finish (Operation ∷ st) = run-finish st
run-finish (Closing ∷ st) = run-finish st

-- ---- what fills a stack is filters

abbrev Fills : List Want → List Token → Type 0
Fills [] ts = ts ≡ []
Fills (Filter ∷ st) ts = (f : Tree) × (fs : List Token) × (rest : List Token) × Spells f fs × (ts ≡ fs ++ rest) × Fills st rest
Fills (Operation ∷ st) ts = (f : Tree) × (fs : List Token) × (rest : List Token) × Spells f (Open ∷ fs) × (ts ≡ fs ++ rest) × Fills st rest
Fills (Closing ∷ st) ts = (rest : List Token) × (ts ≡ Close ∷ rest) × Fills st rest

fills_test : (word : List ℕ) (ts : List Token) (st : List Want) (o : Option Test) → test_in word ≡ o → (run ts st ≡ Some [] → Fills st ts)
    → option_and_then (run ts) (kept st o) ≡ Some [] → Fills (Filter ∷ st) (Word word ∷ ts)
fills_test word ts st None e all h = absurd (cc)
fills_test word ts st (Some t) e all h = (Passes t, Word word ∷ [], ts, (word, test_sound word t e, refl), refl, all h)

pair_end : (fs gs r s t all : List Token) → all ≡ fs ++ r → r ≡ gs ++ s → s ≡ Close ∷ t → all ≡ (fs ++ (gs ++ Close ∷ [])) ++ t
pair_end fs gs r s t all e1 e2 e3 =
    e1 ∙ ap (λ v. fs ++ v) (e2 ∙ ap (λ v. gs ++ v) e3 ∙ sym (append_assoc gs (Close ∷ []) t)) ∙ sym (append_assoc fs (gs ++ Close ∷ []) t)

fills_operation : (word : List ℕ) (ts : List Token) (st : List Want) (o : Option Operator) → operator_in word ≡ o
    → ((st : List Want) → run ts st ≡ Some [] → Fills st ts)
    → option_and_then (run ts) (wanted st o) ≡ Some [] → Fills (Operation ∷ st) (Word word ∷ ts)
fills_operation word ts st None e all h = absurd (cc)
fills_operation word ts st (Some operator.Not) e all h =
    let x = all (Filter ∷ Closing ∷ st) h in
    let y = x.5 in (
      Negated x.0,
      Word word ∷ (x.1 ++ Close ∷ []),
      y.0,
      (x.1, x.3, ap (λ v. Open ∷ Word v ∷ (x.1 ++ Close ∷ [])) (operator_sound word operator.Not e)),
      ap (λ v. Word word ∷ v) (x.4 ∙ ap (λ v. x.1 ++ v) y.1 ∙ sym (append_assoc x.1 (Close ∷ []) y.0)),
      y.2,
    )
fills_operation word ts st (Some operator.And) e all h =
    let x = all (Filter ∷ Filter ∷ Closing ∷ st) h in
    let y = x.5 in
    let z = y.5 in (
      Both x.0 y.0,
      Word word ∷ (x.1 ++ (y.1 ++ Close ∷ [])),
      z.0,
      (x.1, y.1, x.3, y.3, ap (λ v. Open ∷ Word v ∷ (x.1 ++ (y.1 ++ Close ∷ []))) (operator_sound word operator.And e)),
      ap (λ v. Word word ∷ v) (pair_end x.1 y.1 x.2 y.2 z.0 ts x.4 y.4 z.1),
      z.2,
    )
fills_operation word ts st (Some operator.Or) e all h =
    let x = all (Filter ∷ Filter ∷ Closing ∷ st) h in
    let y = x.5 in
    let z = y.5 in (
      Either x.0 y.0,
      Word word ∷ (x.1 ++ (y.1 ++ Close ∷ [])),
      z.0,
      (x.1, y.1, x.3, y.3, ap (λ v. Open ∷ Word v ∷ (x.1 ++ (y.1 ++ Close ∷ []))) (operator_sound word operator.Or e)),
      ap (λ v. Word word ∷ v) (pair_end x.1 y.1 x.2 y.2 z.0 ts x.4 y.4 z.1),
      z.2,
    )

fills : (ts : List Token) (st : List Want) → run ts st ≡ Some [] → Fills st ts
fills [] [] h = refl
fills [] (w ∷ st) h = absurd (cc)
fills (t ∷ ts) [] h = absurd (cc)
fills (Open ∷ ts) (Filter ∷ st) h =
    let x = fills ts (Operation ∷ st) h in (x.0, Open ∷ x.1, x.2, x.3, ap (λ y. Open ∷ y) x.4, x.5)
fills (Close ∷ ts) (Filter ∷ st) h = absurd (cc)
fills (Word word ∷ ts) (Filter ∷ st) h = fills_test word ts st (test_in word) refl (fills ts st) h
fills (Open ∷ ts) (Operation ∷ st) h = absurd (cc)
fills (Close ∷ ts) (Operation ∷ st) h = absurd (cc)
fills (Word word ∷ ts) (Operation ∷ st) h = fills_operation word ts st (operator_in word) refl (fills ts) h
fills (Open ∷ ts) (Closing ∷ st) h = absurd (cc)
fills (Close ∷ ts) (Closing ∷ st) h = (ts, refl, fills ts st h)
fills (Word word ∷ ts) (Closing ∷ st) h = absurd (cc)

pub run-done : (ts : List Token) → run ts (Filter ∷ []) ≡ Some [] → (f : Tree) × Spells f ts
run-done ts h =
    let x = fills ts (Filter ∷ []) h in
    let e : x.1 ≡ ts = sym (x.4 ∙ ap (λ rest. x.1 ++ rest) x.5 ∙ append-nil x.1) in
    (x.0, subst (Spells x.0) e x.3)

-- ---- a filter may begin so exactly where nothing stands in a wrong place

some_of : (o : Option (List Want)) (ys : List Token) → option_and_then (run ys) o ≡ Some [] → (st : List Want) × (o ≡ Some st)
some_of None ys h = absurd (cc)
some_of (Some st) ys h = (st, refl)

pub run-may_begin : (ts : List Token) → MayBegin ts → (st : List Want) × (run ts (Filter ∷ []) ≡ Some st)
run-may_begin ts h =
    some_of (run ts (Filter ∷ [])) h.1 (sym (run-append ts h.1 (Filter ∷ [])) ∙ run-spells h.0 (ts ++ h.1) [] h.2)

pub may_begin-run : (ts : List Token) (st : List Want) → run ts (Filter ∷ []) ≡ Some st → MayBegin ts
may_begin-run ts st h =
    let e = run-append ts (finish st) (Filter ∷ []) ∙ ap (option_and_then (run (finish st))) h ∙ run-finish st in
    let x = run-done (ts ++ finish st) e in
    (x.0, finish st, x.1)

-- ---- open parentheses

abbrev pub depth : List Want → ℕ
depth [] = 0
depth (Filter ∷ st) = depth st
depth (Operation ∷ st) = depth st + 1
depth (Closing ∷ st) = depth st + 1

-- what a token does to how many are open
abbrev pub opened : ℕ → Token → ℕ
opened count Open = count + 1
opened count Close = count - 1
opened count (Word word) = count

depth-kept : (st : List Want) (o : Option Test) (st' : List Want) → kept st o ≡ Some st' → depth st ≡ depth st'
depth-kept st None st' h = absurd (cc)
depth-kept st (Some t) st' h = let e : st ≡ st' = cc in ap depth e

depth-wanted : (st : List Want) (o : Option Operator) (st' : List Want) → wanted st o ≡ Some st' → depth st + 1 ≡ depth st'
depth-wanted st None st' h = absurd (cc)
depth-wanted st (Some operator.Not) st' h = let e : Filter ∷ Closing ∷ st ≡ st' = cc in ap depth e
depth-wanted st (Some operator.And) st' h = let e : Filter ∷ Filter ∷ Closing ∷ st ≡ st' = cc in ap depth e
depth-wanted st (Some operator.Or) st' h = let e : Filter ∷ Filter ∷ Closing ∷ st ≡ st' = cc in ap depth e

pub depth-step : (t : Token) (st st' : List Want) → step t st ≡ Some st' → opened (depth st) t ≡ depth st'
depth-step t [] st' h = absurd (cc)
depth-step Open (Filter ∷ st) st' h = let e : Operation ∷ st ≡ st' = cc in ap depth e
depth-step Close (Filter ∷ st) st' h = absurd (cc)
depth-step (Word word) (Filter ∷ st) st' h = depth-kept st (test_in word) st' h
depth-step Open (Operation ∷ st) st' h = absurd (cc)
depth-step Close (Operation ∷ st) st' h = absurd (cc)
depth-step (Word word) (Operation ∷ st) st' h = depth-wanted st (operator_in word) st' h
depth-step Open (Closing ∷ st) st' h = absurd (cc)
depth-step Close (Closing ∷ st) st' h = let e : st ≡ st' = cc in let d : depth st + 1 - 1 ≡ depth st = omega arith in d ∙ ap depth e
depth-step (Word word) (Closing ∷ st) st' h = absurd (cc)

open_behind-step : (t : Token) (ts : List Token) (count : ℕ) → open_behind count (t ∷ ts) ≡ open_behind (opened count t) ts
open_behind-step Open ts count = refl
open_behind-step Close ts count = refl
open_behind-step (Word word) ts count = refl

pub some_step : (o : Option (List Want)) (ts : List Token) (end : List Want) → option_and_then (run ts) o ≡ Some end
    → (st : List Want) × (o ≡ Some st) × (run ts st ≡ Some end)
some_step None ts end h = absurd (cc)
some_step (Some st) ts end h = (st, refl, h)

pub open_behind-run : (ts : List Token) (st end : List Want) → run ts st ≡ Some end → open_behind (depth st) ts ≡ depth end
open_behind-run [] st end h = let e : st ≡ end = cc in ap depth e
open_behind-run (t ∷ ts) st end h =
    let x = some_step (step t st) ts end h in
    open_behind-step t ts (depth st) ∙ ap (λ n. open_behind n ts) (depth-step t st x.0 x.1) ∙ open_behind-run ts x.0 end x.2

-- a step goes no deeper than 32
pub shallow-step : (t : Token) (ts : List Token) (st st' : List Want) → step t st ≡ Some st' → depth st' ≤ 32 → IsShallow (depth st') ts
    → IsShallow (depth st) (t ∷ ts)
shallow-step Open ts st st' h deep rest =
    let d = depth-step Open st st' h in (omega (arith, d), subst (λ n. IsShallow n ts) (sym d) rest)
shallow-step Close ts st st' h deep rest = subst (λ n. IsShallow n ts) (sym (depth-step Close st st' h)) rest
shallow-step (Word word) ts st st' h deep rest = subst (λ n. IsShallow n ts) (sym (depth-step (Word word) st st' h)) rest

pub shallow-rest : (t : Token) (ts : List Token) (st st' : List Want) → step t st ≡ Some st' → depth st ≤ 32 → IsShallow (depth st) (t ∷ ts)
    → (depth st' ≤ 32) × IsShallow (depth st') ts
shallow-rest Open ts st st' h deep rest =
    let d = depth-step Open st st' h in (omega (arith, d, rest.0), subst (λ n. IsShallow n ts) d rest.1)
shallow-rest Close ts st st' h deep rest =
    let d = depth-step Close st st' h in (omega (arith, d), subst (λ n. IsShallow n ts) d rest)
shallow-rest (Word word) ts st st' h deep rest =
    let d = depth-step (Word word) st st' h in (omega (arith, d), subst (λ n. IsShallow n ts) d rest)
