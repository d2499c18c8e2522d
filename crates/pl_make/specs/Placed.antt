-- Bytes from the fields of a packet: the bits of each number stand at the places of its field.
use Rattle.std.specs.Prelude.{ℕ, zero, suc, ◌+◌, ◌*◌, ◌^◌, ◌==◌, List, [], ◌∷◌, length}
use Rattle.std.specs.Prelude.{if◌then◌else◌}
use Rattle.std.specs.Int.{bit_at}
use Rattle.pl_base.specs.Bits.{Place}

-- the places of a field, the highest first, and the number that stands there
pub record Field : Type 0 where
  pub places : List Place
  pub number : ℕ

abbrev pub field : List Place → ℕ → Field
field places number = record { places = places; number = number }

-- what the bits of a number add to a byte of the packet
unfoldable pub share : ℕ → List Place → ℕ → ℕ
share byte [] number = 0
share byte (place ∷ places) number =
    (if place.byte == byte then bit_at number (length places) * 2 ^ place.bit else 0)
    + share byte places number

-- a byte of the packet
unfoldable pub byte_of : List Field → ℕ → ℕ
byte_of [] byte = 0
byte_of (f ∷ fields) byte = share byte f.places f.number + byte_of fields byte

-- `count` bytes of the packet from the byte `first` on
unfoldable pub placed : ℕ → ℕ → List Field → List ℕ
placed first zero fields = []
placed first (suc count) fields = byte_of fields first ∷ placed (suc first) count fields
