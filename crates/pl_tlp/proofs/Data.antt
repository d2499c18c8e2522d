-- A slice from one place to another.
use Rattle.std.proofs.Common.{◌≡◌, ℕ, ◌+◌, ◌-◌, ◌≤◌, List, take, drop, sym, ap, ◌∙◌, arith}
use Rattle.std.proofs.lemmas.List.{drop-take}

pub between : (start end : ℕ) (bytes : List ℕ) → start ≤ end
    → take (end - start) (drop start bytes) ≡ drop start (take end bytes)
between start end bytes ordered =
    let whole : start + (end - start) ≡ end = omega arith in
    sym (drop-take start (end - start) bytes) ∙ ap (λ (n : ℕ). drop start (take n bytes)) whole
