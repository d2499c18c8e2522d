-- A text up to its first slash, and what stands behind that.
use Rattle.std.proofs.Common.{◌≡◌, ℕ, List, [], ◌∷◌, ◌++◌, Bool, true, false, cond}
use Rattle.std.proofs.Common.{refl, ap, arith, ltb}
use Rattle.std.specs.Prelude.{Option, Some, None, ◌==◌, ⊤}
use Rattle.std.specs.List.{list_all}
use Rattle.std.proofs.lemmas.Bool.Decides.{nat_tests, Decides-eqb}
use Rattle.matchit.specs.Seek.{segment, has_slash}
use Rattle.pl_web.specs.Paths.{slash, segments_of, segments_behind, onto_first}

-- the first segment, and what follows its slash, where it has one: of a byte and what is behind it
abbrev pub part_by : Bool → ℕ → List ℕ → List ℕ × Option (List ℕ) → List ℕ × Option (List ℕ)
part_by true c text below = ([], Some text)
part_by false c text below = (c ∷ below.0, below.1)

abbrev pub first_part : List ℕ → List ℕ × Option (List ℕ)
first_part [] = ([], None)
first_part (c ∷ text) = part_by (c == slash) c text (first_part text)

pub segments_by_part : (text : List ℕ)
    → segments_of text ≡ (first_part text).0 ∷ segments_behind (first_part text).1
segments_by_part [] = refl
segments_by_part (c ∷ text) = elim (c == slash) as (λ here.
    cond here ([] ∷ segments_of text) (onto_first c (segments_of text))
    ≡ (part_by here c text (first_part text)).0
    ∷ segments_behind (part_by here c text (first_part text)).1)
    [ true ↦ refl | false ↦ ap (onto_first c) (segments_by_part text) ]

-- every code is that of a byte
abbrev pub AreBytes : List ℕ → Type 0
AreBytes text = list_all (λ x. ltb x 256) text ≡ true

abbrev pub AreBytesIfAny : Option (List ℕ) → Type 0
AreBytesIfAny None = ⊤
AreBytesIfAny (Some text) = AreBytes text

pub bytes_behind : (c : ℕ) (text : List ℕ) → AreBytes (c ∷ text) → AreBytes text
bytes_behind c text all = grind (arith, nat_tests)

pub more_are_bytes : (text : List ℕ) → AreBytes text → AreBytesIfAny (first_part text).1
more_are_bytes [] all = tt
more_are_bytes (c ∷ text) all = elim (c == slash) as (λ here.
    AreBytesIfAny (part_by here c text (first_part text)).1)
    [ true ↦ bytes_behind c text all | false ↦ more_are_bytes text (bytes_behind c text all) ]

-- how the router sees a text, by what follows its first slash
abbrev pub Seen : List ℕ → List ℕ → Option (List ℕ) → Type 0
Seen text first None =
    (text ≡ first) × (segment text ≡ first) × (has_slash text ≡ false)
Seen text first (Some rest) =
    (text ≡ first ++ slash ∷ rest) × (segment text ≡ first ++ slash ∷ []) × (has_slash text ≡ true)

seen_step : (c : ℕ) (text first : List ℕ) (rest : Option (List ℕ)) → (c == slash) ≡ false
    → Seen text first rest → Seen (c ∷ text) (c ∷ first) rest
seen_step c text first None other seen =
    (ap (λ t. c ∷ t) seen.0, rw other (ap (λ t. c ∷ t) seen.1), rw other seen.2)
seen_step c text first (Some rest) other seen =
    (ap (λ t. c ∷ t) seen.0, rw other (ap (λ t. c ∷ t) seen.1), rw other seen.2)

seen_case : (c : ℕ) (text : List ℕ) (here : Bool) → (c == slash) ≡ here
    → Seen text (first_part text).0 (first_part text).1
    → Seen (c ∷ text) (part_by here c text (first_part text)).0
    (part_by here c text (first_part text)).1
seen_case c text true is below =
    let same : c ≡ slash = (Decides-eqb c slash).0 is in
    (ap (λ x. x ∷ text) same, rw is (ap (λ x. x ∷ []) same), rw is refl)
seen_case c text false is below = seen_step c text _ _ is below

pub seen_so : (text : List ℕ) → Seen text (first_part text).0 (first_part text).1
seen_so [] = (refl, refl, refl)
seen_so (c ∷ text) = seen_case c text (c == slash) refl (seen_so text)
