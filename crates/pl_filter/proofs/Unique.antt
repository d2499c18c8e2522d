-- Tokens are one filter at most, and a text has one answer.
use Rattle.std.proofs.Common.{◌≡◌, ℕ, List, [], ◌∷◌, ◌++◌, get_or, Result, Ok, Err, refl, sym, ap, ◌∙◌, arith, append_assoc}
use Rattle.pl_filter.specs.Answers.{IsAnswer}
use Rattle.pl_filter.specs.Grammar.{SpellsTest, Spells}
use Rattle.pl_filter.specs.Reading.{reading, test_in}
use Rattle.pl_filter.specs.Tokens.{Token, Open, Close, Word, bare, tokens}
use Rattle.pl_filter.specs.Trees.{Tree, Both, Either, Negated, Passes}
use Rattle.pl_filter.specs.declared.error.FilterError.{FilterError}
use Rattle.pl_filter.specs.declared.filter.Test.{Test}
use Rattle.pl_filter.proofs.Descent.{reading_is_answer, same_refusal}
use Rattle.pl_filter.proofs.Judge.{refusal_of}
use Rattle.pl_filter.proofs.Words.{test_spelled}

-- two readings of one text, of which each has its rest
abbrev Same : Tree → Tree → List Token → List Token → Type 0
Same f g xs ys = (f ≡ g) × (xs ≡ ys)

-- the two begin alike
both_ways : {fs gs fs' gs' : List Token} (xs ys : List Token) → fs ≡ fs' → gs ≡ gs' → fs ++ xs ≡ gs ++ ys → fs' ++ xs ≡ gs' ++ ys
both_ways xs ys d e h = sym (ap (λ z. z ++ xs) d) ∙ h ∙ ap (λ z. z ++ ys) e

word_is_no_open : (w : List ℕ) (xs ys : List Token) → Word w ∷ xs ≡ Open ∷ ys → ⊥
word_is_no_open w xs ys h = absurd (cc)

first_byte : (v w : List ℕ) (xs ys : List Token) → Open ∷ Word v ∷ xs ≡ Open ∷ Word w ∷ ys → get_or v 0 0 ≡ get_or w 0 0
first_byte v w xs ys h = let e : v ≡ w = cc in ap (λ l. get_or l 0 0) e

behind_word : (v w : List ℕ) (xs ys : List Token) → Open ∷ Word v ∷ xs ≡ Open ∷ Word w ∷ ys → xs ≡ ys
behind_word v w xs ys h = cc

same_test : (t u : Test) (v w : List ℕ) (xs ys : List Token) → SpellsTest t v → SpellsTest u w → Word v ∷ xs ≡ Word w ∷ ys → Same (Passes t) (Passes u) xs ys
same_test t u v w xs ys s r h =
    let a = test_spelled t v s in
    let b = test_spelled u w r in
    let e : v ≡ w = cc in
    let i : test_in v ≡ test_in w = ap test_in e in
    let same : t ≡ u = cc in
    (ap Passes same, cc)

same_one : (f g : Tree) (fs gs xs ys : List Token) → ((xs ys : List Token) → fs ++ xs ≡ gs ++ ys → Same f g xs ys)
    → (fs ++ Close ∷ []) ++ xs ≡ (gs ++ Close ∷ []) ++ ys → Same (Negated f) (Negated g) xs ys
same_one f g fs gs xs ys inner h =
    let r = inner (Close ∷ xs) (Close ∷ ys) (sym (append_assoc fs (Close ∷ []) xs) ∙ h ∙ append_assoc gs (Close ∷ []) ys) in
    let e = r.1 in
    (ap Negated r.0, cc)

regrouped : (a b c d : List Token) → (a ++ (b ++ c)) ++ d ≡ a ++ (b ++ (c ++ d))
regrouped a b c d = append_assoc a (b ++ c) d ∙ ap (λ x. a ++ x) (append_assoc b c d)

same_two : (join : Tree → Tree → Tree) (f g f' g' : Tree) (fs gs fs' gs' xs ys : List Token)
    → ((xs ys : List Token) → fs ++ xs ≡ fs' ++ ys → Same f f' xs ys) → ((xs ys : List Token) → gs ++ xs ≡ gs' ++ ys → Same g g' xs ys)
    → (fs ++ (gs ++ Close ∷ [])) ++ xs ≡ (fs' ++ (gs' ++ Close ∷ [])) ++ ys → Same (join f g) (join f' g') xs ys
same_two join f g f' g' fs gs fs' gs' xs ys first second h =
    let r = first (gs ++ Close ∷ xs) (gs' ++ Close ∷ ys)
    (sym (regrouped fs gs (Close ∷ []) xs) ∙ h ∙ regrouped fs' gs' (Close ∷ []) ys) in
    let q = second (Close ∷ xs) (Close ∷ ys) r.1 in
    let e = q.1 in
    (ap (λ z. join z g) r.0 ∙ ap (join f') q.0, cc)

same_reading : (f g : Tree) (fs gs xs ys : List Token) → Spells f fs → Spells g gs → fs ++ xs ≡ gs ++ ys → Same f g xs ys
same_reading (Passes t) (Passes u) fs gs xs ys s r h = same_test t u s.0 r.0 xs ys s.1 r.1 (both_ways xs ys s.2 r.2 h)
same_reading (Passes t) (Negated g) fs gs xs ys s r h = absurd (word_is_no_open _ _ _ (both_ways xs ys s.2 r.2 h))
same_reading (Passes t) (Both g g') fs gs xs ys s r h = absurd (word_is_no_open _ _ _ (both_ways xs ys s.2 r.4 h))
same_reading (Passes t) (Either g g') fs gs xs ys s r h = absurd (word_is_no_open _ _ _ (both_ways xs ys s.2 r.4 h))
same_reading (Negated f) (Passes u) fs gs xs ys s r h = absurd (word_is_no_open _ _ _ (sym (both_ways xs ys s.2 r.2 h)))
same_reading (Both f f') (Passes u) fs gs xs ys s r h = absurd (word_is_no_open _ _ _ (sym (both_ways xs ys s.4 r.2 h)))
same_reading (Either f f') (Passes u) fs gs xs ys s r h = absurd (word_is_no_open _ _ _ (sym (both_ways xs ys s.4 r.2 h)))
same_reading (Negated f) (Negated g) fs gs xs ys s r h =
    same_one f g s.0 r.0 xs ys (λ us vs e. same_reading f g s.0 r.0 us vs s.1 r.1 e)
    (behind_word _ _ _ _ (both_ways xs ys s.2 r.2 h))
same_reading (Both f f') (Both g g') fs gs xs ys s r h =
    same_two Both f f' g g' s.0 s.1 r.0 r.1 xs ys (λ us vs e. same_reading f g s.0 r.0 us vs s.2 r.2 e)
    (λ us vs e. same_reading f' g' s.1 r.1 us vs s.3 r.3 e) (behind_word _ _ _ _ (both_ways xs ys s.4 r.4 h))
same_reading (Either f f') (Either g g') fs gs xs ys s r h =
    same_two Either f f' g g' s.0 s.1 r.0 r.1 xs ys (λ us vs e. same_reading f g s.0 r.0 us vs s.2 r.2 e)
    (λ us vs e. same_reading f' g' s.1 r.1 us vs s.3 r.3 e) (behind_word _ _ _ _ (both_ways xs ys s.4 r.4 h))
same_reading (Negated f) (Both g g') fs gs xs ys s r h =
    let e : 110 ≡ 97 = first_byte _ _ _ _ (both_ways xs ys s.2 r.4 h) in absurd (omega (arith, e))
same_reading (Negated f) (Either g g') fs gs xs ys s r h =
    let e : 110 ≡ 111 = first_byte _ _ _ _ (both_ways xs ys s.2 r.4 h) in absurd (omega (arith, e))
same_reading (Both f f') (Negated g) fs gs xs ys s r h =
    let e : 97 ≡ 110 = first_byte _ _ _ _ (both_ways xs ys s.4 r.2 h) in absurd (omega (arith, e))
same_reading (Both f f') (Either g g') fs gs xs ys s r h =
    let e : 97 ≡ 111 = first_byte _ _ _ _ (both_ways xs ys s.4 r.4 h) in absurd (omega (arith, e))
same_reading (Either f f') (Negated g) fs gs xs ys s r h =
    let e : 111 ≡ 110 = first_byte _ _ _ _ (both_ways xs ys s.4 r.2 h) in absurd (omega (arith, e))
same_reading (Either f f') (Both g g') fs gs xs ys s r h =
    let e : 111 ≡ 97 = first_byte _ _ _ _ (both_ways xs ys s.4 r.4 h) in absurd (omega (arith, e))

-- ---- answers

same_by : (text : List ℕ) (a b : Result Tree FilterError) → IsAnswer text a → IsAnswer text b → refusal_of a ≡ refusal_of b → a ≡ b
same_by text (Ok f) (Ok g) h k e =
    let ts = bare (tokens text) in ap Ok (same_reading f g ts ts [] [] h.0 k.0 refl).0
same_by text (Ok f) (Err d) h k e = absurd (cc)
same_by text (Err d) (Ok g) h k e = absurd (cc)
same_by text (Err d) (Err d') h k e = let same : d ≡ d' = cc in ap Err same

pub answer_is_read : (text : List ℕ) (a : Result Tree FilterError) → IsAnswer text a → a ≡ reading text
answer_is_read text a h = same_by text a (reading text) h (reading_is_answer text) (same_refusal text a h)
