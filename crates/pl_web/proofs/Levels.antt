-- What the router finds behind a segment that stands in the route, and behind one that is a name.
use Rattle.std.proofs.Common.{◌≡◌, ℕ, ◌+◌, ◌-◌, ◌<◌, List, [], ◌∷◌, ◌++◌, Bool, true, false}
use Rattle.std.proofs.Common.{cond, length, length-append, drop, refl, ap, sym, ◌∙◌, subst, arith}
use Rattle.std.proofs.Common.{ltb}
use Rattle.std.specs.Prelude.{Option, Some, None, ◌==◌, ◌&&◌, not, bytes_eq, nat_eq}
use Rattle.std.specs.List.{list_all}
use Rattle.std.proofs.lemmas.Bool.Decides.{nat_tests, Decides-eqb}
use Rattle.std.proofs.lemmas.List.{drop_at}
use Rattle.std.specs.Cmp.Lexicographic.{pointwise}
use Rattle.matchit.specs.Rows.{RowsOf, param_token, catch_all_token}
use Rattle.matchit.specs.Seek.{segment, has_slash, cuts, longest_from, longest_suffix, with_suffix}
use Rattle.matchit.specs.Seek.{step, param_step, seek}
use Rattle.pl_web.specs.Paths.{slash, is_filled}
use Rattle.pl_web.proofs.Parts.{part_by, first_part, AreBytes, Seen, seen_so}
use Rattle.pl_web.proofs.Steps.{under, level, under_nothing, step_same, step_other, own_under}
use Rattle.pl_web.proofs.Steps.{own_level, step_slash, step_level, seek_nothing, seek_end}
use Rattle.pl_web.proofs.Steps.{seek_byte, seek_param, seek_skip, seek_all}

-- where the path goes on behind a segment
abbrev pub goes_on : {K : Type 0} → Option K → RowsOf K → Option (List ℕ) → Option K
goes_on end rows None = end
goes_on end rows (Some rest) = seek 0 rows rest

-- ---- a segment of the route itself

-- bytes, and no slash among them
abbrev pub IsWord : List ℕ → Type 0
IsWord word = list_all (λ x. ltb x 256 && not (x == slash)) word ≡ true

abbrev on_word : {K : Type 0} → Option K → RowsOf K → List ℕ → List ℕ × Option (List ℕ)
    → Option K
on_word end rows word part = cond (bytes_eq part.0 word) (goes_on end rows part.1) None

no_word_left : {K : Type 0} (end : Option K) (rows : RowsOf K) (b : ℕ) (path : List ℕ) (here : Bool)
    → (b == slash) ≡ here
    → seek 0 (step b (level end rows)) path
    ≡ on_word end rows [] (part_by here b path (first_part path))
no_word_left end rows b path true is =
    let same : slash ≡ b = sym ((Decides-eqb b slash).0 is) in
    subst (λ x. seek 0 (step x (level end rows)) path ≡ seek 0 rows path) same
    (ap (λ found. seek 0 found path) (step_slash end rows))
no_word_left end rows b path false is =
    ap (λ found. seek 0 found path) (step_level b end rows (grind (arith, nat_tests)))
    ∙ seek_nothing 0 path

other_byte : {K : Type 0} (end : Option K) (rows : RowsOf K) (x b : ℕ) (word path : List ℕ)
    → (b == x) ≡ false
    → on_word end rows (x ∷ word) (first_part (b ∷ path)) ≡ None
other_byte end rows x b word path other = elim (b == slash) as (λ here.
    on_word end rows (x ∷ word)
    (part_by here b path (first_part path)) ≡ None)
    [ true ↦ refl | false ↦ rw other refl ]

word_byte : {K : Type 0} (end : Option K) (rows : RowsOf K) (x b : ℕ) (word path : List ℕ)
    (same : Bool) → (x == b) ≡ same → (x == slash) ≡ false
    → seek 0 (under word (level end rows)) path ≡ on_word end rows word (first_part path)
    → seek 0 (step b (under (x ∷ word) (level end rows))) path
    ≡ on_word end rows (x ∷ word) (first_part (b ∷ path))
word_byte end rows x b word path true is no_slash below =
    let it : x ≡ b = (Decides-eqb x b).0 is in
    let self : (x == x) ≡ true = grind (arith, nat_tests) in
    subst (λ y. seek 0 (step y (under (x ∷ word) (level end rows))) path
    ≡ on_word end rows (x ∷ word) (first_part (y ∷ path))) it
    (ap (λ found. seek 0 found path) (step_same x word (level end rows)) ∙ below
    ∙ rw (no_slash, self) refl)
word_byte end rows x b word path false is no_slash below =
    ap (λ found. seek 0 found path) (step_other b x word (level end rows) is)
    ∙ seek_nothing 0 path ∙ sym (other_byte end rows x b word path (grind (arith, nat_tests)))

pub seek_word : {K : Type 0} (end : Option K) (rows : RowsOf K) (word text : List ℕ) → IsWord word
    → seek 0 (under word (level end rows)) text
    ≡ cond (bytes_eq (first_part text).0 word) (goes_on end rows (first_part text).1) None
seek_word end rows [] [] plain =
    ap (λ found. seek 0 found []) (under_nothing (level end rows)) ∙ seek_end (level end rows)
    ∙ own_level end rows
seek_word end rows [] (b ∷ path) plain =
    ap (λ found. seek 0 found (b ∷ path)) (under_nothing (level end rows))
    ∙ seek_byte (level end rows) b path (step_level param_token end rows refl)
    (step_level catch_all_token end rows refl)
    ∙ no_word_left end rows b path (b == slash) refl
seek_word end rows (x ∷ word) [] plain =
    seek_end (under (x ∷ word) (level end rows)) ∙ own_under x word (level end rows)
seek_word end rows (x ∷ word) (b ∷ path) plain =
    let small : ltb x 256 ≡ true = grind (arith, nat_tests) in
    let no_slash : (x == slash) ≡ false = grind (arith, nat_tests) in
    let rest : IsWord word = grind (arith, nat_tests) in
    seek_byte (under (x ∷ word) (level end rows)) b path
    (step_other param_token x word (level end rows) (grind (arith, nat_tests)))
    (step_other catch_all_token x word (level end rows) (grind (arith, nat_tests)))
    ∙ word_byte end rows x b word path (x == b) refl no_slash (seek_word end rows word path rest)

-- ---- a name

-- a parameter's rows go on by a slash, or end
longest_slash : {K : Type 0} (seg : List ℕ) (end : Option K) (rows : RowsOf K)
    → longest_from seg (slash ∷ []) (level end rows) ≡ slash ∷ []
longest_slash seg None [] = refl
longest_slash seg (Some e) [] = refl
longest_slash seg None ((t, k) ∷ rows) = longest_slash seg None rows
longest_slash seg (Some e) ((t, k) ∷ rows) = longest_slash seg (Some e) rows

suffix_is_slash : {K : Type 0} (seg : List ℕ) (end : Option K) (t : List ℕ) (k : K)
    (rows : RowsOf K) → cuts seg (slash ∷ []) ≡ true
    → longest_suffix seg (level end ((t, k) ∷ rows)) ≡ slash ∷ []
suffix_is_slash seg None t k rows ends =
    ap (λ b. longest_from seg (cond b (slash ∷ []) []) (level None rows)) ends
    ∙ longest_slash seg None rows
suffix_is_slash seg (Some e) t k rows ends =
    ap (λ b. longest_from seg (cond b (slash ∷ []) []) (level (Some e) rows)) ends
    ∙ longest_slash seg (Some e) rows

no_suffix : {K : Type 0} (seg : List ℕ) (end : Option K) (rows : RowsOf K)
    → cuts seg (slash ∷ []) ≡ false → longest_suffix seg (level end rows) ≡ []
no_suffix seg None [] ends = refl
no_suffix seg (Some e) [] ends = refl
no_suffix seg None ((t, k) ∷ rows) ends =
    ap (λ b. longest_from seg (cond b (slash ∷ []) []) (level None rows)) ends
    ∙ no_suffix seg None rows ends
no_suffix seg (Some e) ((t, k) ∷ rows) ends =
    ap (λ b. longest_from seg (cond b (slash ∷ []) []) (level (Some e) rows)) ends
    ∙ no_suffix seg (Some e) rows ends

no_suffix_at_end : {K : Type 0} (seg : List ℕ) (end : Option K)
    → longest_suffix seg (level end []) ≡ []
no_suffix_at_end seg None = refl
no_suffix_at_end seg (Some e) = refl

slash_rows : {K : Type 0} (end : Option K) (rows : RowsOf K)
    → with_suffix (slash ∷ []) (level end rows) ≡ level None rows
slash_rows None [] = refl
slash_rows (Some e) [] = refl
slash_rows None ((t, k) ∷ rows) = ap (λ rest. (slash ∷ t, k) ∷ rest) (slash_rows None rows)
slash_rows (Some e) ((t, k) ∷ rows) = ap (λ rest. (slash ∷ t, k) ∷ rest) (slash_rows (Some e) rows)

param_by_suffix : {K : Type 0} (rows : RowsOf K) (path suffix : List ℕ)
    → longest_suffix (segment path) rows ≡ suffix
    → param_step rows path
    ≡ cond (ltb 0 (length suffix)) (length (segment path) - length suffix, with_suffix suffix rows)
    (cond (has_slash path) (0, []) (length path, rows))
unfolding param_step
param_by_suffix rows path suffix is = rw is refl

-- a segment of a text without a slash
no_slash_ends : (text : List ℕ) (c : ℕ) → has_slash (c ∷ text) ≡ false
    → pointwise nat_eq (slash ∷ []) (drop (length text) (c ∷ text)) ≡ false
no_slash_ends [] c none = grind (arith, nat_tests)
no_slash_ends (d ∷ text) c none = no_slash_ends text d (grind (arith, nat_tests))

never : (b : Bool) → (b && false) ≡ false
never true = refl
never false = refl

-- where a walk goes that a parameter begins
abbrev taken : {K : Type 0} → RowsOf K → List ℕ → List ℕ → Option K
taken rows text path = seek ((param_step rows text).0 - 1) (param_step rows text).1 path

name_at_end : {K : Type 0} (end : Option K) (rows : RowsOf K) (b : ℕ) (path first : List ℕ)
    → Seen (b ∷ path) first None
    → taken (level end rows) (b ∷ path) path ≡ cond (is_filled first) end None
name_at_end end rows b path first seen =
    let size : length (b ∷ path) - 1 ≡ length path = omega arith in
    let whole : segment (b ∷ path) ≡ b ∷ path = seen.1 ∙ sym seen.0 in
    let uncut : cuts (segment (b ∷ path)) (slash ∷ []) ≡ false =
    rw (whole, size, no_slash_ends path b seen.2) (never (ltb 1 (length (b ∷ path)))) in
    let way : param_step (level end rows) (b ∷ path) ≡ (length (b ∷ path), level end rows) =
    param_by_suffix (level end rows) (b ∷ path) [] (no_suffix _ end rows uncut)
    ∙ ap (λ h. cond h (0, []) (length (b ∷ path), level end rows)) seen.2 in
    ap (λ found. seek (found.0 - 1) found.1 path) way
    ∙ ap (λ n. seek n (level end rows) path) size
    ∙ seek_all (level end rows) path ∙ own_level end rows
    ∙ ap (λ word. cond (is_filled word) end None) seen.0

-- no name stands before the slash, or no route goes on behind one
dead_end : {K : Type 0} (end : Option K) (rows : RowsOf K) (text path : List ℕ)
    → longest_suffix (segment text) (level end rows) ≡ [] → has_slash text ≡ true
    → taken (level end rows) text path ≡ None
dead_end {K = K} end rows text path none has =
    ap (λ found. seek (found.0 - 1) found.1 path)
    (param_by_suffix (level end rows) text [] none
    ∙ ap (λ h. cond h (0, []) (length text, level end rows)) has)
    ∙ seek_nothing {K = K} _ path

slash_ends : (name : List ℕ) → 0 < length name → cuts (name ++ slash ∷ []) (slash ∷ []) ≡ true
slash_ends name some =
    let size : length (name ++ slash ∷ []) ≡ length name + 1 = length-append name (slash ∷ []) in
    let long : ltb 1 (length (name ++ slash ∷ [])) ≡ true = grind (arith, nat_tests) in
    let place : length name ≡ length (name ++ slash ∷ []) - 1 = omega arith in
    rw (long, drop_at name (slash ∷ []) (length (name ++ slash ∷ []) - 1) place) refl

name_before : {K : Type 0} (end : Option K) (rows : RowsOf K) (b : ℕ) (path first rest : List ℕ)
    → Seen (b ∷ path) first (Some rest)
    → taken (level end rows) (b ∷ path) path ≡ cond (is_filled first) (seek 0 rows rest) None
name_before end rows b path [] rest seen =
    dead_end end rows (b ∷ path) path
    (no_suffix _ end rows (ap (λ s. cuts s (slash ∷ [])) seen.1)) seen.2
name_before {K = K} end [] b path (c ∷ name) rest seen =
    dead_end end [] (b ∷ path) path (no_suffix_at_end _ end) seen.2
    ∙ sym (seek_nothing {K = K} 0 rest)
name_before end ((t, k) ∷ rows) b path (c ∷ name) rest seen =
    let R = (t, k) ∷ rows in
    let ends : cuts (segment (b ∷ path)) (slash ∷ []) ≡ true =
    ap (λ s. cuts s (slash ∷ [])) seen.1 ∙ slash_ends (c ∷ name) (omega arith) in
    let size : length (segment (b ∷ path)) - 1 - 1 ≡ length name =
    rw seen.1 (omega (arith, length-append (c ∷ name) (slash ∷ []))) in
    let same : path ≡ name ++ slash ∷ rest = ap (drop 1) seen.0 in
    let way : param_step (level end R) (b ∷ path)
    ≡ (length (segment (b ∷ path)) - 1, level None R) =
    param_by_suffix (level end R) (b ∷ path) (slash ∷ [])
    (suffix_is_slash (segment (b ∷ path)) end t k rows ends)
    ∙ ap (λ found. (length (segment (b ∷ path)) - 1, found)) (slash_rows end R) in
    ap (λ found. seek (found.0 - 1) found.1 path) way
    ∙ ap (λ n. seek n (level None R) path) size
    ∙ ap (seek (length name) (level None R)) same
    ∙ seek_skip (level None R) name (slash ∷ rest)
    ∙ seek_byte (level None R) slash rest (step_level param_token None R refl)
    (step_level catch_all_token None R refl)
    ∙ ap (λ found. seek 0 found rest) (step_slash None R)

name_so : {K : Type 0} (end : Option K) (rows : RowsOf K) (b : ℕ) (path first : List ℕ)
    (rest : Option (List ℕ)) → Seen (b ∷ path) first rest
    → taken (level end rows) (b ∷ path) path ≡ cond (is_filled first) (goes_on end rows rest) None
name_so end rows b path first None seen = name_at_end end rows b path first seen
name_so end rows b path first (Some rest) seen = name_before end rows b path first rest seen

pub seek_name : {K : Type 0} (end : Option K) (rows : RowsOf K) (text : List ℕ) → AreBytes text
    → seek 0 (under (param_token ∷ []) (level end rows)) text
    ≡ cond (is_filled (first_part text).0) (goes_on end rows (first_part text).1) None
seek_name end rows [] all =
    seek_end (under (param_token ∷ []) (level end rows)) ∙ own_under param_token [] (level end rows)
seek_name end rows (b ∷ path) all =
    let small : b < 256 = grind (arith, nat_tests) in
    seek_param (level end rows) b path small
    ∙ name_so end rows b path _ _ (seen_so (b ∷ path))
