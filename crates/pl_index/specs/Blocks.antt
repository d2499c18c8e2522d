-- Items in blocks of 16. Each block has a number: how many blocks lie before it. A block of which no
-- item was written yet has number 0, and so shares the first one, whose items stay blank.
use Rattle.std.specs.Prelude.{◌≡◌, ℕ, ◌+◌, ◌*◌, ◌/◌, ◌%◌, ◌^◌, ◌<◌, ◌≤◌, nat_lt, List, length, map, get_or}
use Rattle.std.specs.List.{count_by, range_with_len}
use Rattle.std.specs.Vec.{vec_capacity}
use Rattle.std.specs.Global.{Vec}

-- the numbers, where the items of each block lie so far on from their own numbers
unfoldable pub numbers : List ℕ → List ℕ
numbers shifts = map (λ block. (16 * block + get_or shifts block 0) % 2 ^ 32 / 16) (range_with_len 0 (length shifts))

-- .. by whole blocks
pub record AreShifts (shifts : List ℕ) : Type 0 where
  pub few : length shifts ≤ 32768
  pub whole : (block : ℕ) → get_or shifts block 0 % 16 ≡ 0

-- .. of so many blocks, each of which shares the first one
pub record AreUnbegun (shifts : List ℕ) (blocks : ℕ) : Type 0 where
  pub count : length shifts ≡ blocks
  pub first : (block : ℕ) → block < blocks → (16 * block + get_or shifts block 0) % 2 ^ 32 ≡ 0

-- where an item lies
abbrev pub place : List ℕ → ℕ → ℕ
place numbers at = 16 * get_or numbers (at / 16) 0 + at % 16

module _ {X : Type 0} where
  -- an item
  abbrev pub item_at : X → List X → List ℕ → ℕ → X
  item_at blank items numbers at = get_or items (place numbers at) blank

  -- so many items in their order
  unfoldable pub laid_out : X → List X → List ℕ → ℕ → List X
  laid_out blank items numbers count = map (item_at blank items numbers) (range_with_len 0 count)

  -- each item that was written has a place of its own
  pub record AreBlocks (blank : X) (items : List X) (numbers : List ℕ) : Type 0 where
    pub begun : length items ≡ 16 * (1 + count_by (λ number. nat_lt 0 number) numbers)
    pub inside : (block : ℕ) → 16 * get_or numbers block 0 + 16 ≤ length items
    pub own : (i j : ℕ) → 0 < get_or numbers i 0 → get_or numbers i 0 ≡ get_or numbers j 0 → i ≡ j
    pub first : (i : ℕ) → i < 16 → get_or items i blank ≡ blank

  -- so many items are in blocks, and there is room for all blocks
  pub record IsReserved (blank : X) (items : Vec X) (shifts : List ℕ) (count : ℕ) : Type 0 where
    pub blocks : AreBlocks blank items.items (numbers shifts)
    pub aligned : AreShifts shifts
    pub covered : count ≤ 16 * length shifts
    pub room : 16 * (1 + length shifts) ≤ vec_capacity items
