-- What a generated capture is to its reading.
use Rattle.std.specs.Prelude.{◌≡◌, ℕ, ◌≤◌}
use Rattle.pl_capture.specs.Reading.{reading, Ended}
use Rattle.pl_make.specs.Generated.{Gen, items}

-- its bytes are read as its items, and end with the right end record
abbrev pub IsReadAsItems : Type 0
IsReadAsItems = (number count : ℕ) → count ≤ 1000000
    → reading (Gen number count) ≡ record { items = items number count; ending = Ended }
