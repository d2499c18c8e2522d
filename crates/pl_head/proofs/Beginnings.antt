-- In how many of the four ways a text begins.
use Rattle.std.proofs.Common.{◌≡◌, ℕ, ◌<◌, ◌≤◌, List, [], ◌∷◌, ◌++◌, ◌⊎◌, inl, inr, length, take}
use Rattle.std.proofs.Common.{drop, get_or, append-nil, arith, ap, refl, sym, ◌∙◌}
use Rattle.std.proofs.Common.{subst}
use Rattle.std.proofs.lemmas.List.{take_all}
use Rattle.httparse.specs.Grammar.{RequestHead, ReadsRequest, HasNoRequest, NeverHasRequest}
use Rattle.httparse.specs.Grammar.{MayBecomeRequest, print_request}
use Rattle.httparse.proofs.GrammarLemmas.{request_unique}
use Rattle.pl_head.specs.Front.{Front, IsFront, whole, bad, long, short, head_limit}

-- of two ways to cut one text, one cut is no later than the other
two_cuts : (a b c d : List ℕ) → a ++ b ≡ c ++ d →
    ((m : List ℕ) × (a ≡ c ++ m)) ⊎ ((m : List ℕ) × (b ≡ m ++ d) × (c ≡ a ++ m))
two_cuts a b [] d same = inl (a, refl)
two_cuts [] b (x ∷ c) d same = inr (x ∷ c, same, refl)
two_cuts (y ∷ a) b (x ∷ c) d same =
    let heads : y ≡ x = ap (λ l. get_or l 0 0) same in
    let tails : a ++ b ≡ c ++ d = ap (drop 1) same in
    elim (two_cuts a b c d tails) [
      | inl w ↦ (let rest : a ≡ c ++ w.0 = w.1 in inl (w.0, cc))
      | inr w ↦ (let rest : c ≡ a ++ w.0 = w.2 in inr (w.0, w.1, cc))
    ]

-- a text with no head that no bytes complete to a head has none, whatever follows
never_or_may : (text : List ℕ) → HasNoRequest text → ¬ (MayBecomeRequest text) →
    NeverHasRequest text
never_or_may text none may more h rest reads =
    elim (two_cuts text more (print_request h) rest reads.1) [
      | inl w ↦ none h w.0 (reads.0, w.1)
      | inr w ↦ may (inl (
        w.0,
        h,
        (reads.0, sym w.2 ∙ sym (append-nil (print_request h))),
      ))
    ]

never_none : (text : List ℕ) → NeverHasRequest text → HasNoRequest text
never_none text never h rest reads =
    never [] h rest (subst (λ t. ReadsRequest t h rest) (sym (append-nil text)) reads)

-- a whole head excludes every other beginning
pub one_beginning : (text : List ℕ) (head : RequestHead) (other : Front) →
    IsFront text (whole head) → IsFront text other → other ≡ whole head
one_beginning text head (whole h) a b =
    ap whole (request_unique (take head_limit text) h head b.0 a.0 b.1 a.1).0
one_beginning text head bad a b = absurd (never_none (take head_limit text) b head a.0 a.1)
one_beginning text head long a b = absurd (b.1 head a.0 a.1)
one_beginning text head short a b = absurd (
    b.1 head a.0 (subst (λ t. ReadsRequest t head a.0) (take_all head_limit text (omega arith)) a.1)
    )

-- no text begins in none of the four
pub some_beginning : (text : List ℕ) → ((front : Front) → ¬ (IsFront text front)) → ⊥
some_beginning text none =
    let no_head : HasNoRequest (take head_limit text)
    = λ h rest reads. none (whole h) (rest, reads) in
    let not_long : head_limit ≤ length text → ⊥ = λ full. none long (full, no_head) in
    let small : length text < head_limit = omega (arith, not_long) in
    let same : take head_limit text ≡ text = take_all head_limit text (omega arith) in
    let no : HasNoRequest text = subst HasNoRequest same no_head in
    let never : NeverHasRequest text = never_or_may text no (λ may. none short (small, no, may)) in
    none bad (subst NeverHasRequest (sym same) never)
