-- A text judged token by token, and that the judgement is its answer.
use Rattle.std.proofs.Common.{◌≡◌, ◌≢◌, ℕ, ◌+◌, ◌<◌, ◌≤◌, Bool, true, false, cond, ltb, List, [], ◌∷◌, ◌++◌, length, Option, Some, None, Result, Ok, Err, refl, sym, ap, ◌∙◌, subst, inl, inr, ◌⊎◌, arith, append-nil}
use Rattle.std.specs.Option.{option_and_then}
use Rattle.std.proofs.lemmas.Bool.{ltb-true, ltb-false, le-ltb, lt-ltb}
use Rattle.pl_filter.specs.Answers.{IsAnswer, Reaches}
use Rattle.pl_filter.specs.Grammar.{MayBegin, IsShallow}
use Rattle.pl_filter.specs.Tokens.{Token, Open, Close, Word, Placed, bare, tokens}
use Rattle.pl_filter.specs.Trees.{Tree}
use Rattle.pl_filter.specs.declared.error.FilterError.{FilterError}
use Rattle.pl_filter.specs.declared.error.FilterError.TheVariants.{Syntax, TooDeep, Memory}
use Rattle.pl_filter.proofs.Stack.{Want, Filter, step, run, run-append, run-spells, run-done, run-may_begin, may_begin-run, depth, opened, depth-step, open_behind-run, some_step, shallow-step, shallow-rest}

abbrev pub judged : ℕ → (List Want → Option FilterError) → Option (List Want) → Option FilterError
judged at next None = Some (Syntax at)
judged at next (Some st) = cond (ltb 32 (depth st)) (Some (TooDeep at)) (next st)

-- the refusal of tokens behind which this is wanted, where the text ends at this place
abbrev pub judge : ℕ → List Placed → List Want → Option FilterError
judge end [] [] = None
judge end [] (w ∷ st) = Some (Syntax end)
judge end (x ∷ xs) st = judged x.at (judge end xs) (step x.token st)

-- a token that may stand where it stands, no deeper than 32
pub judged-on : (at : ℕ) (next : List Want → Option FilterError) (o : Option (List Want)) (st : List Want) → o ≡ Some st → depth st ≤ 32
    → judged at next o ≡ next st
judged-on at next o st e deep =
    ap (judged at next) e ∙ ap (λ b. cond b (Some (TooDeep at)) (next st)) (le-ltb 32 (depth st) deep)

judge-through : (end : ℕ) (front xs : List Placed) (st st' : List Want) → depth st ≤ 32 → run (bare front) st ≡ Some st' → IsShallow (depth st) (bare front)
    → judge end (front ++ xs) st ≡ judge end xs st'
judge-through end [] xs st st' deep h shallow = let e : st ≡ st' = cc in ap (judge end xs) e
judge-through end (x ∷ front) xs st st' deep h shallow =
    let s = some_step (step x.token st) (bare front) st' h in
    let r = shallow-rest x.token (bare front) st s.0 s.1 deep shallow in
    judged-on x.at (judge end (front ++ xs)) (step x.token st) s.0 s.1 r.0 ∙ judge-through end front xs s.0 st' r.0 s.2 r.1

-- ---- what a judgement says

-- the tokens before the next one, none of which is refused
record Before (xs : List Placed) (st : List Want) : Type 0 where
  front : List Placed
  next : Placed
  back : List Placed
  behind : List Want
  split : xs ≡ front ++ next ∷ back
  runs : run (bare front) st ≡ Some behind
  shallow : IsShallow (depth st) (bare front)
  deep : depth behind ≤ 32

record AtEnd (xs : List Placed) (st : List Want) : Type 0 where
  behind : List Want
  runs : run (bare xs) st ≡ Some behind
  shallow : IsShallow (depth st) (bare xs)

abbrev Refused : ℕ → List Placed → List Want → FilterError → Type 0
Refused end xs st (Syntax at) =
    ((b : Before xs st) × (step b.next.token b.behind ≡ None) × (at ≡ b.next.at))
    ⊎ ((b : AtEnd xs st) × (b.behind ≢ []) × (at ≡ end))
Refused end xs st (TooDeep at) =
    (b : Before xs st) × (on : List Want) × (step b.next.token b.behind ≡ Some on) × (32 < depth on) × (at ≡ b.next.at)
Refused end xs st Memory = ⊥

-- nothing refused, or a refusal
abbrev Says : ℕ → List Placed → List Want → Option FilterError → Type 0
Says end xs st None = (run (bare xs) st ≡ Some []) × IsShallow (depth st) (bare xs)
Says end xs st (Some e) = Refused end xs st e

abbrev first : (x : Placed) (xs : List Placed) (st : List Want) → depth st ≤ 32 → Before (x ∷ xs) st
first x xs st deep =
    record { front = []; next = x; back = xs; behind = st; split = refl; runs = refl; shallow = tt; deep = deep }

module _ (x : Placed) (xs : List Placed) (st on : List Want) (e : step x.token st ≡ Some on) (deep : depth on ≤ 32) where
  runs_on : (ts : List Token) (end : List Want) → run ts on ≡ Some end → run (x.token ∷ ts) st ≡ Some end
  runs_on ts end h = ap (option_and_then (run ts)) e ∙ h

  abbrev before_on : Before xs on → Before (x ∷ xs) st
  before_on b = record {
    front = x ∷ b.front;
    next = b.next;
    back = b.back;
    behind = b.behind;
    split = ap (λ ys. x ∷ ys) b.split;
    runs = runs_on (bare b.front) b.behind b.runs;
    shallow = shallow-step x.token (bare b.front) st on e deep b.shallow;
    deep = b.deep;
  }

  says_on : (end : ℕ) (o : Option FilterError) → Says end xs on o → Says end (x ∷ xs) st o
  says_on end None h = (runs_on (bare xs) [] h.0, shallow-step x.token (bare xs) st on e deep h.1)
  says_on end (Some (Syntax at)) (inl h) = inl (before_on h.0, h.1, h.2)
  says_on end (Some (Syntax at)) (inr h) =
      inr (record { behind = h.0.behind; runs = runs_on (bare xs) h.0.behind h.0.runs; shallow = shallow-step x.token (bare xs) st on e deep h.0.shallow }, h.1, h.2)
  says_on end (Some (TooDeep at)) h = (before_on h.0, h.1, h.2, h.3, h.4)
  says_on end (Some Memory) h = h

says_by_depth : (end : ℕ) (x : Placed) (xs : List Placed) (st on : List Want) → depth st ≤ 32 → step x.token st ≡ Some on
    → (b : Bool) → ltb 32 (depth on) ≡ b → (depth on ≤ 32 → Says end xs on (judge end xs on))
    → Says end (x ∷ xs) st (cond b (Some (TooDeep x.at)) (judge end xs on))
says_by_depth end x xs st on deep e true t more = (first x xs st deep, on, e, ltb-true 32 (depth on) t, refl)
says_by_depth end x xs st on deep e false t more =
    let low = ltb-false 32 (depth on) t in says_on x xs st on e low end (judge end xs on) (more low)

says_by_step : (end : ℕ) (x : Placed) (xs : List Placed) (st : List Want) → depth st ≤ 32 → (o : Option (List Want)) → step x.token st ≡ o
    → ((on : List Want) → depth on ≤ 32 → Says end xs on (judge end xs on))
    → Says end (x ∷ xs) st (judged x.at (judge end xs) o)
says_by_step end x xs st deep None e more = inl (first x xs st deep, e, refl)
says_by_step end x xs st deep (Some on) e more = says_by_depth end x xs st on deep e (ltb 32 (depth on)) refl (more on)

says : (end : ℕ) (xs : List Placed) (st : List Want) → depth st ≤ 32 → Says end xs st (judge end xs st)
says end [] [] deep = (refl, tt)
says end [] (w ∷ st) deep = inr (record { behind = w ∷ st; runs = refl; shallow = tt }, (λ e. absurd (cc)), refl)
says end (x ∷ xs) st deep = says_by_step end x xs st deep (step x.token st) refl (says end xs)

-- ---- a judgement is an answer

-- one token more
run_one : (front : List Token) (t : Token) (behind : List Want) → run front (Filter ∷ []) ≡ Some behind
    → run (front ++ t ∷ []) (Filter ∷ []) ≡ option_and_then (run []) (step t behind)
run_one front t behind h = run-append front (t ∷ []) (Filter ∷ []) ∙ ap (option_and_then (run (t ∷ []))) h

not_begun : (front : List Token) (t : Token) (behind : List Want) → run front (Filter ∷ []) ≡ Some behind → step t behind ≡ None
    → ¬ MayBegin (front ++ t ∷ [])
not_begun front t behind h none m =
    let r = run-may_begin (front ++ t ∷ []) m in
    let gone : run (front ++ t ∷ []) (Filter ∷ []) ≡ None = run_one front t behind h ∙ ap (option_and_then (run [])) none in
    absurd (cc)

begun : (front : List Token) (t : Token) (behind on : List Want) → run front (Filter ∷ []) ≡ Some behind → step t behind ≡ Some on
    → MayBegin (front ++ t ∷ [])
begun front t behind on h some =
    may_begin-run (front ++ t ∷ []) on (run_one front t behind h ∙ ap (option_and_then (run [])) some)

opens : (t : Token) (count : ℕ) → count < opened count t → t ≡ Open
opens Open count h = refl
opens Close count h = absurd (omega (arith, h))
opens (Word word) count h = absurd (omega (arith, h))

reaches : (all : List Placed) (b : Before all (Filter ∷ [])) → Reaches all b.front b.next
reaches all b = record { back = b.back; split = b.split; begins = may_begin-run (bare b.front) b.behind b.runs; shallow = b.shallow }

refused_answer : (text : List ℕ) (e : FilterError) → Refused (length text) (tokens text) (Filter ∷ []) e → IsAnswer text (Err e)
refused_answer text (Syntax at) (inl h) =
    inl (h.0.front, h.0.next, reaches (tokens text) h.0, not_begun (bare h.0.front) h.0.next.token h.0.behind h.0.runs h.1, h.2)
refused_answer text (Syntax at) (inr h) =
    inr (
      record {
        begins = may_begin-run (bare (tokens text)) h.0.behind h.0.runs;
        shallow = h.0.shallow;
        unfinished = λ f s. let done = run-spells f (bare (tokens text)) [] s in let r = h.0.runs in let e : h.0.behind ≡ [] = cc in h.1 e;
      },
      h.2,
    )
refused_answer text (TooDeep at) h =
    let b = h.0 in
    let d = depth-step b.next.token b.behind h.1 h.2 in
    let more : depth b.behind < opened (depth b.behind) b.next.token = omega (arith, d, h.3, b.deep) in
    let open_one = opens b.next.token (depth b.behind) more in
    let one_more : depth b.behind + 1 ≡ depth h.1 = ap (opened (depth b.behind)) (sym open_one) ∙ d in
    let count : depth b.behind ≡ 32 = omega (arith, one_more, h.3, b.deep) in (
      b.front,
      b.next,
      reaches (tokens text) b,
      open_one,
      subst (λ t. MayBegin (bare b.front ++ t ∷ [])) open_one (begun (bare b.front) b.next.token b.behind h.1 b.runs h.2),
      open_behind-run (bare b.front) (Filter ∷ []) b.behind b.runs ∙ count,
      h.4,
    )
refused_answer text Memory h = h

pub judged_answer : (text : List ℕ) (e : FilterError) → judge (length text) (tokens text) (Filter ∷ []) ≡ Some e → IsAnswer text (Err e)
judged_answer text e h =
    refused_answer text e (subst (Says (length text) (tokens text) (Filter ∷ [])) h (says (length text) (tokens text) (Filter ∷ []) (omega arith)))

pub judged_done : (text : List ℕ) → judge (length text) (tokens text) (Filter ∷ []) ≡ None → IsShallow 0 (bare (tokens text))
judged_done text h = (subst (Says (length text) (tokens text) (Filter ∷ [])) h (says (length text) (tokens text) (Filter ∷ []) (omega arith))).1

-- ---- an answer is what is judged

abbrev pub refusal_of : Result Tree FilterError → Option FilterError
refusal_of (Ok f) = None
refusal_of (Err e) = Some e

judge_all : (end : ℕ) (xs : List Placed) (st : List Want) → run (bare xs) (Filter ∷ []) ≡ Some st → IsShallow 0 (bare xs)
    → judge end xs (Filter ∷ []) ≡ judge end [] st
judge_all end xs st h shallow =
    ap (λ ys. judge end ys (Filter ∷ [])) (sym (append-nil xs)) ∙ judge-through end xs [] (Filter ∷ []) st (omega arith) h shallow

misplaced_by : (at : ℕ) (next : List Want → Option FilterError) (o : Option (List Want)) → ((on : List Want) → o ≡ Some on → ⊥) → judged at next o ≡ Some (Syntax at)
misplaced_by at next None h = refl
misplaced_by at next (Some on) h = absurd (h on refl)

ends_by : (end : ℕ) (st : List Want) → st ≢ [] → judge end [] st ≡ Some (Syntax end)
ends_by end [] h = absurd (h refl)
ends_by end (w ∷ st) h = refl

judge_to : (end : ℕ) (all front : List Placed) (next : Placed) (r : Reaches all front next) (behind : List Want) → run (bare front) (Filter ∷ []) ≡ Some behind
    → judge end all (Filter ∷ []) ≡ judged next.at (judge end r.back) (step next.token behind)
judge_to end all front next r behind h =
    ap (λ ys. judge end ys (Filter ∷ [])) r.split
    ∙ judge-through end front (next ∷ r.back) (Filter ∷ []) behind (omega arith) h r.shallow

pub answer_judged : (text : List ℕ) (a : Result Tree FilterError) → IsAnswer text a → judge (length text) (tokens text) (Filter ∷ []) ≡ refusal_of a
answer_judged text (Ok f) h = judge_all (length text) (tokens text) [] (run-spells f (bare (tokens text)) [] h.0) h.1
answer_judged text (Err (Syntax at)) (inl h) =
    let b = run-may_begin (bare h.0) h.2.begins in
    judge_to (length text) (tokens text) h.0 h.1 h.2 b.0 b.1
    ∙ misplaced_by h.1.at (judge (length text) h.2.back) (step h.1.token b.0) (λ on e. h.3 (begun (bare h.0) h.1.token b.0 on b.1 e))
    ∙ ap (λ n. Some (Syntax n)) (sym h.4)
answer_judged text (Err (Syntax at)) (inr h) =
    let b = run-may_begin (bare (tokens text)) h.0.begins in
    judge_all (length text) (tokens text) b.0 b.1 h.0.shallow
    ∙ ends_by (length text) b.0 (λ e. let f = run-done (bare (tokens text)) (b.1 ∙ ap Some e) in h.0.unfinished f.0 f.1)
    ∙ ap (λ n. Some (Syntax n)) (sym h.1)
answer_judged text (Err (TooDeep at)) h =
    let b = run-may_begin (bare h.0) h.2.begins in
    let o = run-may_begin (bare h.0 ++ Open ∷ []) h.4 in
    let stepped : option_and_then (run []) (step Open b.0) ≡ Some o.0 = sym (run_one (bare h.0) Open b.0 b.1) ∙ o.1 in
    let s = some_step (step Open b.0) [] o.0 stepped in
    let on : step h.1.token b.0 ≡ Some s.0 = ap (λ t. step t b.0) h.3 ∙ s.1 in
    let count = sym (open_behind-run (bare h.0) (Filter ∷ []) b.0 b.1) ∙ h.5 in
    let deep : 32 < depth s.0 = omega (arith, depth-step Open b.0 s.0 s.1, count) in
    judge_to (length text) (tokens text) h.0 h.1 h.2 b.0 b.1
    ∙ ap (judged h.1.at (judge (length text) h.2.back)) on
    ∙ ap (λ t. cond t (Some (TooDeep h.1.at)) (judge (length text) h.2.back s.0)) (lt-ltb 32 (depth s.0) deep)
    ∙ ap (λ n. Some (TooDeep n)) (sym h.6)
answer_judged text (Err Memory) h = absurd h
