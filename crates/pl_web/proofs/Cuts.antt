-- A text is cut at its first slash as its segments are.
use Rattle.std.proofs.Common.{◌≡◌, ℕ, ◌+◌, ◌<◌, List, [], ◌∷◌, Bool, true, false, cond, length}
use Rattle.std.proofs.Common.{suc, take, drop, refl, ap, subst, arith}
use Rattle.std.specs.Prelude.{◌==◌, not}
use Rattle.std.specs.List.{position_or_len, before_first, after_first}
use Rattle.pl_web.specs.Paths.{slash, segments_of, onto_first}

abbrev place_by : Bool → ℕ → ℕ
place_by here below = cond (not here) (1 + below) 0

whole_step : (c : ℕ) (text : List ℕ) (here : Bool)
    → (position_or_len (λ b. b == slash) text ≡ length text → segments_of text ≡ text ∷ [])
    → place_by here (position_or_len (λ b. b == slash) text) ≡ length (c ∷ text)
    → cond here ([] ∷ segments_of text) (onto_first c (segments_of text)) ≡ (c ∷ text) ∷ []
whole_step c text true below at_end = absurd (omega arith)
whole_step c text false below at_end = ap (onto_first c) (below (omega arith))

whole : (text : List ℕ) → position_or_len (λ b. b == slash) text ≡ length text
    → segments_of text ≡ text ∷ []
whole [] at_end = refl
whole (c ∷ text) at_end = whole_step c text (c == slash) (whole text) at_end

parted_step : (c : ℕ) (text : List ℕ) (here : Bool)
    → (position_or_len (λ b. b == slash) text < length text
    → segments_of text ≡ take (position_or_len (λ b. b == slash) text) text
    ∷ segments_of (drop (position_or_len (λ b. b == slash) text + 1) text))
    → place_by here (position_or_len (λ b. b == slash) text) < length (c ∷ text)
    → cond here ([] ∷ segments_of text) (onto_first c (segments_of text))
    ≡ take (place_by here (position_or_len (λ b. b == slash) text)) (c ∷ text)
    ∷ segments_of (drop (place_by here (position_or_len (λ b. b == slash) text) + 1) (c ∷ text))
parted_step c text true below within = refl
parted_step c text false below within =
    let n = position_or_len (λ b. b == slash) text in
    let behind : n + 1 ≡ suc n = omega arith in
    let one_more : suc n ≡ 1 + n = omega arith in
    let two_more : suc (suc n) ≡ 1 + n + 1 = omega arith in
    let here : segments_of text ≡ take n text ∷ segments_of (drop (suc n) text) =
    subst (λ k. segments_of text ≡ take n text ∷ segments_of (drop k text)) behind
    (below (omega arith)) in
    subst (λ k. onto_first c (segments_of text)
    ≡ take k (c ∷ text) ∷ segments_of (drop (1 + n + 1) (c ∷ text))) one_more
    (subst (λ k. onto_first c (segments_of text)
    ≡ take (suc n) (c ∷ text) ∷ segments_of (drop k (c ∷ text))) two_more
    (ap (onto_first c) here))

parted : (text : List ℕ) → position_or_len (λ b. b == slash) text < length text
    → segments_of text ≡ before_first (λ b. b == slash) text
    ∷ segments_of (after_first (λ b. b == slash) text)
parted [] within = absurd (omega arith)
parted (c ∷ text) within = parted_step c text (c == slash) (parted text) within

-- both cases
pub cuts : ((text : List ℕ) → position_or_len (λ b. b == slash) text ≡ length text
    → segments_of text ≡ text ∷ [])
    × ((text : List ℕ) → position_or_len (λ b. b == slash) text < length text
    → segments_of text ≡ before_first (λ b. b == slash) text
    ∷ segments_of (after_first (λ b. b == slash) text))
cuts = (whole, parted)
