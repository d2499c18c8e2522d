-- One read after another into a buffer.
use Rattle.std.proofs.Common.{◌≡◌, ℕ, suc, zero, ◌+◌, ◌≤◌, List, [], ◌∷◌, ◌++◌, length, take, ap}
use Rattle.std.proofs.Common.{arith, ◌∙◌}
use Rattle.std.specs.Prelude.{Option}
use Rattle.std.proofs.lemmas.List.{take-append-le}
use Rattle.pl_io.specs.Told.{ahead}
use Rattle.pl_io.proofs.Told.{ahead-ahead}
use borrow.Rule.Slice.PartMut.{put_mid, post_of}

pub take_behind : (front more : List ℕ) (n k : ℕ) → length front ≡ n →
    take (n + k) (front ++ more) ≡ front ++ take k more
take_behind [] more zero k size =
    let none : 0 + k ≡ k = omega arith in
    ap (λ m. take m more) none
take_behind [] more (suc n) k size = absurd (omega arith)
take_behind (x ∷ front) more zero k size = absurd (omega arith)
take_behind (x ∷ front) more (suc n) k size =
    let step : suc n + k ≡ suc (n + k) = omega arith in
    rw step (ap (λ rest. x ∷ rest) (take_behind front more n k (omega arith)))

-- n bytes were read before, and now k behind them
take_read : (buf got : List ℕ) (n m k : ℕ) → length (take n buf) ≡ n → k ≤ length got →
    take (n + k) (put_mid n m buf got) ≡ take n buf ++ take k got
take_read buf got n m k full fits =
    take_behind (take n buf) (got ++ post_of n m buf) n k full
    ∙ ap (λ rest. take n buf ++ rest) (take-append-le k got (post_of n m buf) fits)

pub ahead_read : (old mid new : Option (List ℕ)) (buf got : List ℕ) (n m k : ℕ) →
    length (take n buf) ≡ n → k ≤ length got →
    old ≡ ahead (take n buf) mid → mid ≡ ahead (take k got) new →
    old ≡ ahead (take (n + k) (put_mid n m buf got)) new
ahead_read old mid new buf got n m k full fits first second =
    first ∙ ap (ahead (take n buf)) second
    ∙ rw (take_read buf got n m k full fits) (ahead-ahead new (take n buf) (take k got))
