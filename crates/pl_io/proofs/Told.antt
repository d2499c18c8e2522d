-- Two writes or two reads one after another, as one.
use Rattle.std.proofs.Common.{◌≡◌, ℕ, ◌+◌, ◌-◌, List, ◌++◌, take, drop, Option, Some, None, arith, ap, refl, sym, ◌∙◌, append_assoc}
use Rattle.std.proofs.Math.Seq.{take-add}
use Rattle.std.proofs.lemmas.List.{take-append-drop}
use Rattle.pl_io.specs.Told.{plus, ahead, Lowered, Partly}

pub plus-plus : (told : Option (List ℕ)) (a b : List ℕ) → plus (plus told a) b ≡ plus told (a ++ b)
plus-plus None a b = refl
plus-plus (Some bytes) a b = ap Some (append_assoc bytes a b)

pub ahead-ahead : (told : Option (List ℕ)) (a b : List ℕ) → ahead a (ahead b told) ≡ ahead (a ++ b) told
ahead-ahead None a b = refl
ahead-ahead (Some bytes) a b = ap Some (sym (append_assoc a b bytes))

-- the first n bytes, and then m of those that are left
pub plus_more : (old mid new : Option (List ℕ)) (bytes : List ℕ) (n m : ℕ) →
    mid ≡ plus old (take n bytes) → new ≡ plus mid (take m (drop n bytes)) → new ≡ plus old (take (n + m) bytes)
plus_more old mid new bytes n m first second =
    second ∙ ap (λ told. plus told (take m (drop n bytes))) first
    ∙ plus-plus old (take n bytes) (take m (drop n bytes)) ∙ ap (plus old) (sym (take-add n m bytes))

pub Lowered_more : (old mid new : Option ℕ) (n m : ℕ) → Lowered old n mid → Lowered mid m new → Lowered old (n + m) new
Lowered_more None mid new n m first second = tt
Lowered_more (Some room) None new n m first second = cc (first.1)
Lowered_more (Some room) (Some left) new n m first second =
    let same : left ≡ room - n = cc (first.1) in
    let rest : left - m ≡ room - (n + m) = omega arith in
    (omega (arith, first.0, second.0), second.1 ∙ ap Some rest)

-- the first n bytes are a prefix
pub Partly-take : (old new : Option (List ℕ)) (bytes : List ℕ) (n : ℕ) → new ≡ plus old (take n bytes) → Partly old new bytes
Partly-take old new bytes n h =
    record { part = take n bytes; missing = drop n bytes; whole = take-append-drop n bytes; written = h }
