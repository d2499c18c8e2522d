-- What stands at the front of bytes in which a part was put at a place.
use Rattle.std.proofs.Common.{◌≡◌, ℕ, ◌+◌, ◌-◌, ◌≤◌, List, ◌++◌, length, take, drop, sym, ap, ◌∙◌}
use Rattle.std.proofs.Common.{arith, append_assoc}
use Rattle.std.proofs.lemmas.List.{take_at, take-append-drop, length-take-le, length-append}
use borrow.Rule.Slice.PartMut.{put_mid, post_of}

-- a part that is put at a place, and its front
pub front_put : (at size width : ℕ) (xs part : List ℕ) → at ≤ length xs → size ≤ length part
    → take (at + size) (put_mid at width xs part) ≡ take at xs ++ take size part
front_put at size width xs part le len =
    let before = length-take-le at xs le in
    let inside = length-take-le size part len in
    let all : length (take at xs ++ take size part) ≡ at + size =
    length-append (take at xs) (take size part) ∙ (omega arith) in
    let split : part ≡ take size part ++ drop size part = sym (take-append-drop size part) in
    ap (λ (p : List ℕ). take (at + size) (take at xs ++ (p ++ post_of at width xs))) split
    ∙ ap (λ (p : List ℕ). take (at + size) (take at xs ++ p))
    (append_assoc (take size part) (drop size part) (post_of at width xs))
    ∙ ap (take (at + size)) (sym
    (append_assoc (take at xs) (take size part) (drop size part ++ post_of at width xs)))
    ∙ take_at (take at xs ++ take size part) (drop size part ++ post_of at width xs) (at + size) all

-- a number of two bytes, and the front of what is put behind it
pub behind_number : (number tlp out written : List ℕ) (size : ℕ) → length number ≡ 2
    → size ≤ length written → take size written ≡ tlp
    → take (2 + size) (put_mid 2 80 (number ++ post_of 0 2 out) written) ≡ number ++ tlp
behind_number number tlp out written size two le front =
    let start : take 2 (number ++ post_of 0 2 out) ≡ number =
    take_at number (post_of 0 2 out) 2 two in
    let long : 2 ≤ length (number ++ post_of 0 2 out) =
    omega (arith, length-append number (post_of 0 2 out)) in
    front_put 2 size 80 (number ++ post_of 0 2 out) written long le
    ∙ ap (λ (t : List ℕ). t ++ take size written) start ∙ ap (λ (t : List ℕ). number ++ t) front
