-- The first bytes of a longer text are a proper prefix.
use Rattle.std.proofs.Common.{◌≡◌, ℕ, ◌<◌, List, length, take, drop, Option, arith, ap, length-drop}
use Rattle.std.proofs.lemmas.List.{take-append-drop}
use Rattle.pl_io.specs.Told.{plus}
use Rattle.pl_io.specs.CutShort.{CutShort}

pub CutShort-take : (old new : Option (List ℕ)) (bytes : List ℕ) (n : ℕ) → n < length bytes
    → new ≡ plus old (take n bytes) → CutShort old new bytes
CutShort-take old new bytes n more h = record {
  part = take n bytes;
  missing = drop n bytes;
  some = λ none. absurd (omega (arith, length-drop n bytes, ap length none));
  whole = take-append-drop n bytes;
  written = h;
}
