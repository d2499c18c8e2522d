-- What a page holds once bytes are put behind those that it held.
use Rattle.std.proofs.Common.{◌≡◌, ℕ, ◌+◌, ◌≤◌, List, [], ◌++◌, length, take, drop, ap, ◌∙◌}
use Rattle.std.proofs.Common.{refl, sym, subst, arith, append_assoc, append-nil, length-append}
use Rattle.std.proofs.lemmas.List.{take_at, length-take-le}
use borrow.Rule.Slice.PartMut.{put_mid, post_of}
use Rattle.pl_page.specs.Gathers.{Gathers, Tells}
use Rattle.pl_page.proofs.Gathered.{line_behind}

put_behind : (n k m : ℕ) (buf bytes rest : List ℕ) → n ≤ length buf → k ≡ length bytes
    → take (n + k) (put_mid n m buf (bytes ++ rest)) ≡ take n buf ++ bytes
put_behind n k m buf bytes rest le size =
    let post = post_of n m buf in
    let before = length-take-le n buf le in
    ap (λ (p : List ℕ). take (n + k) (take n buf ++ p)) (append_assoc bytes rest post)
    ∙ ap (take (n + k)) (sym (append_assoc (take n buf) bytes (rest ++ post)))
    ∙ take_at (take n buf ++ bytes) (rest ++ post) (n + k)
    (length-append (take n buf) bytes ∙ (omega arith))

-- a text that a writer put at the front of what was free
pub written_behind : (h h1 : List ℕ) (n k m : ℕ) (buf new bytes : List ℕ) (l : ℕ) (rest : List ℕ)
    {t t1 : Tells} → Gathers h h1 [] t t1 → take n buf ≡ h1 → n ≤ length buf
    → (k ≡ length bytes) × (k ≤ l) × (new ≡ bytes ++ rest)
    → Gathers h (take (n + k) (put_mid n m buf new)) bytes t t1
written_behind h h1 n k m buf new bytes l rest f held le (size, fits, same) =
    line_behind h h1 _ bytes f
    (ap (λ (p : List ℕ). take (n + k) (put_mid n m buf p)) same
    ∙ put_behind n k m buf bytes rest le size
    ∙ ap (λ (p : List ℕ). p ++ bytes) held)

-- bytes that fill the part that was free for them
pub copied_behind : (h h1 : List ℕ) (n m : ℕ) (buf new bytes : List ℕ) {t t1 : Tells}
    → Gathers h h1 [] t t1 → take n buf ≡ h1 → n ≤ length buf → new ≡ bytes
    → Gathers h (take (n + length bytes) (put_mid n m buf new)) bytes t t1
copied_behind h h1 n m buf new bytes f held le same =
    written_behind h h1 n (length bytes) m buf new bytes (length bytes) [] f held le
    (refl, (omega arith), same ∙ sym (append-nil bytes))
