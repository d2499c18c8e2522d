-- The tokens of a text, one after another.
use Rattle.std.proofs.Common.{◌≡◌, ◌≢◌, ℕ, suc, ◌+◌, ◌-◌, ◌<◌, ◌≤◌, Bool, true, false, cond, eqb, List, [], ◌∷◌, length, take, drop, get_or, refl, sym, ap, ◌∙◌, subst, arith}
use Rattle.std.specs.Prelude.{not, ◌||◌, ◌==◌}
use Rattle.std.proofs.lemmas.Bool.{eq-eqb, ne_eqb}
use Rattle.std.proofs.Math.Numerals.{add-one}
use Rattle.std.proofs.Math.Seq.{drop-cons, drop-drop}
use Rattle.pl_filter.specs.Reading.{is_word_byte, run_length, tokens_at}
use Rattle.pl_filter.specs.Tokens.{Token, Open, Close, Word, Placed, placed, joined, joined_to, tokens_from}

none_of : (a b c : Bool) → not ((a || b) || c) ≡ true → (a ≡ false) × (b ≡ false) × (c ≡ false)
none_of true b c h = absurd (cc)
none_of false true c h = absurd (cc)
none_of false false true h = absurd (cc)
none_of false false false h = (refl, refl, refl)

pub is_word_byte-none : (byte : ℕ) → byte ≢ 32 → byte ≢ 40 → byte ≢ 41 → is_word_byte byte ≡ true
is_word_byte-none byte a b c =
    ap (λ x. not ((x || (byte == 40)) || (byte == 41))) (ne_eqb byte 32 a)
    ∙ ap (λ x. not ((false || x) || (byte == 41))) (ne_eqb byte 40 b)
    ∙ ap (λ x. not ((false || false) || x)) (ne_eqb byte 41 c)

-- which of the four kinds of bytes stands in front
abbrev by_byte : Bool → Bool → Bool → ℕ → ℕ → List Placed → List Placed
by_byte space open_one close_one at byte ts =
    cond space ts (cond open_one (placed at Open ∷ ts) (cond close_one (placed at Close ∷ ts) (joined at byte ts)))

as_word : (a b c : Bool) (at byte : ℕ) (ts : List Placed) → (a ≡ false) × (b ≡ false) × (c ≡ false) → by_byte a b c at byte ts ≡ joined at byte ts
as_word a b c at byte ts h =
    ap (λ x. by_byte x b c at byte ts) h.0 ∙ ap (λ x. by_byte false x c at byte ts) h.1 ∙ ap (λ x. by_byte false false x at byte ts) h.2

-- ---- tokens stand no earlier than their bytes

abbrev FirstFrom : ℕ → List Placed → Type 0
FirstFrom at [] = Unit {0}
FirstFrom at (t ∷ ts) = at ≤ t.at

later : (at : ℕ) (ts : List Placed) → FirstFrom (at + 1) ts → FirstFrom at ts
later at [] h = tt
later at (t ∷ ts) h = omega (arith, h)

first_joined_cond : (b : Bool) (at : ℕ) (x y : Token) (xs ys : List Placed) → FirstFrom at (cond b (placed at x ∷ xs) (placed at y ∷ ys))
first_joined_cond true at x y xs ys = omega arith
first_joined_cond false at x y xs ys = omega arith

first_joined_to : (at byte : ℕ) (next : Placed) (token : Token) (ts : List Placed) → FirstFrom at (joined_to at byte next token ts)
first_joined_to at byte next Open ts = omega arith
first_joined_to at byte next Close ts = omega arith
first_joined_to at byte next (Word word) ts = first_joined_cond (eqb next.at (at + 1)) at (Word (byte ∷ word)) (Word (byte ∷ [])) ts (next ∷ ts)

first_joined : (at byte : ℕ) (ts : List Placed) → FirstFrom at (joined at byte ts)
first_joined at byte [] = omega arith
first_joined at byte (next ∷ ts) = first_joined_to at byte next next.token ts

first_by : (a b c : Bool) (at byte : ℕ) (ts : List Placed) → FirstFrom (at + 1) ts → FirstFrom at (by_byte a b c at byte ts)
first_by true b c at byte ts h = later at ts h
first_by false true c at byte ts h = omega arith
first_by false false true at byte ts h = omega arith
first_by false false false at byte ts h = first_joined at byte ts

first_from : (at : ℕ) (bytes : List ℕ) → FirstFrom at (tokens_from at bytes)
first_from at [] = tt
first_from at (byte ∷ bytes) =
    first_by (eqb byte 32) (eqb byte 40) (eqb byte 41) at byte (tokens_from (at + 1) bytes) (first_from (at + 1) bytes)

-- ---- a word is a longest run

unjoined_to : (at byte : ℕ) (next : Placed) (token : Token) (ts : List Placed) → at + 2 ≤ next.at
    → joined_to at byte next token ts ≡ placed at (Word (byte ∷ [])) ∷ next ∷ ts
unjoined_to at byte next Open ts h = refl
unjoined_to at byte next Close ts h = refl
unjoined_to at byte next (Word word) ts h =
    ap (λ b. cond b (placed at (Word (byte ∷ word)) ∷ ts) (placed at (Word (byte ∷ [])) ∷ next ∷ ts))
    (ne_eqb next.at (at + 1) (λ e. omega (arith, e, h)))

unjoined : (at byte : ℕ) (ts : List Placed) → FirstFrom (at + 2) ts → joined at byte ts ≡ placed at (Word (byte ∷ [])) ∷ ts
unjoined at byte [] h = refl
unjoined at byte (next ∷ ts) h = unjoined_to at byte next next.token ts h

-- a byte that is none of a word ends the word before it
word_ends : (a b c : Bool) (at byte next : ℕ) (ts : List Placed) → not ((a || b) || c) ≡ false → FirstFrom (at + 2) ts
    → joined at byte (by_byte a b c (at + 1) next ts) ≡ placed at (Word (byte ∷ [])) ∷ by_byte a b c (at + 1) next ts
word_ends true b c at byte next ts e h = unjoined at byte ts h
word_ends false true c at byte next ts e h = refl
word_ends false false true at byte next ts e h = refl
word_ends false false false at byte next ts e h = absurd (cc)

-- what a word at the front leaves
abbrev WordFirst : ℕ → ℕ → List ℕ → Type 0
WordFirst at byte bytes =
    tokens_from at (byte ∷ bytes)
    ≡ placed at (Word (byte ∷ take (run_length bytes) bytes)) ∷ tokens_from (at + 1 + run_length bytes) (drop (run_length bytes) bytes)

word_on : (at byte next : ℕ) (bytes : List ℕ) (b : Bool) → is_word_byte next ≡ b
    → (is_word_byte next ≡ true → WordFirst (at + 1) next bytes)
    → joined at byte (tokens_from (at + 1) (next ∷ bytes))
    ≡ placed at (Word (byte ∷ take (cond b (suc (run_length bytes)) 0) (next ∷ bytes)))
    ∷ tokens_from (at + 1 + cond b (suc (run_length bytes)) 0) (drop (cond b (suc (run_length bytes)) 0) (next ∷ bytes))
word_on at byte next bytes false e more =
    let here : at + 1 ≡ at + 1 + 0 = omega arith in
    let two : at + 1 + 1 ≡ at + 2 = omega arith in
    word_ends (eqb next 32) (eqb next 40) (eqb next 41) at byte next (tokens_from (at + 1 + 1) bytes) e
    (subst (λ n. FirstFrom n (tokens_from (at + 1 + 1) bytes)) two (first_from (at + 1 + 1) bytes))
    ∙ ap (λ n. placed at (Word (byte ∷ [])) ∷ tokens_from n (next ∷ bytes)) here
word_on at byte next bytes true e more =
    let size = run_length bytes in
    let there : at + 1 + 1 + size ≡ at + 1 + suc size = omega arith in
    ap (joined at byte) (more e)
    ∙ ap (λ b. cond b (placed at (Word (byte ∷ next ∷ take size bytes)) ∷ tokens_from (at + 1 + 1 + size) (drop size bytes))
    (placed at (Word (byte ∷ [])) ∷ placed (at + 1) (Word (next ∷ take size bytes)) ∷ tokens_from (at + 1 + 1 + size) (drop size bytes)))
    (eq-eqb (at + 1) (at + 1) refl)
    ∙ ap (λ n. placed at (Word (byte ∷ next ∷ take size bytes)) ∷ tokens_from n (drop size bytes)) there

pub word_first : (at byte : ℕ) (bytes : List ℕ) → is_word_byte byte ≡ true → WordFirst at byte bytes
word_first at byte [] h =
    as_word (eqb byte 32) (eqb byte 40) (eqb byte 41) at byte [] (none_of (eqb byte 32) (eqb byte 40) (eqb byte 41) h)
word_first at byte (next ∷ bytes) h =
    as_word (eqb byte 32) (eqb byte 40) (eqb byte 41) at byte (tokens_from (at + 1) (next ∷ bytes))
    (none_of (eqb byte 32) (eqb byte 40) (eqb byte 41) h)
    ∙ word_on at byte next bytes (is_word_byte next) refl (word_first (at + 1) next bytes)

-- ---- in a text

pub word_at : (text : List ℕ) (at end : ℕ) → at < length text → is_word_byte (get_or text at 0) ≡ true
    → end ≡ at + 1 + run_length (drop (at + 1) text)
    → tokens_at text at ≡ placed at (Word (take (end - at) (drop at text))) ∷ tokens_at text end
word_at text at end within word e =
    let rest = drop (at + 1) text in
    let size = run_length rest in
    let here : drop at text ≡ get_or text at 0 ∷ rest = drop-cons text at 0 within ∙ ap (λ n. get_or text at 0 ∷ drop n text) (sym (add-one at)) in
    let taken : end - at ≡ suc size = omega (arith, e) in
    let left : drop size rest ≡ drop (at + 1 + size) text = drop-drop size (at + 1) text in
    ap (tokens_from at) here ∙ word_first at (get_or text at 0) rest word
    ∙ ap (λ xs. placed at (Word (get_or text at 0 ∷ take size rest)) ∷ tokens_from (at + 1 + size) xs) left
    ∙ ap (λ n. placed at (Word (get_or text at 0 ∷ take size rest)) ∷ tokens_at text n) (sym e)
    ∙ sym (ap (λ n. placed at (Word (take n (drop at text))) ∷ tokens_at text end) taken
    ∙ ap (λ xs. placed at (Word (take (suc size) xs)) ∷ tokens_at text end) here)
