-- What items in blocks are.
use Rattle.std.proofs.Common.{◌≡◌, ℕ, zero, suc, ◌+◌, ◌-◌, ◌*◌, ◌/◌, ◌%◌, ◌^◌, ◌<◌, ◌≤◌, cond, nat_lt, List, length, get_or, set, replicate, ◌++◌, refl, sym, ap, ap₂, ◌∙◌, arith}
use native.Mathlib.Decide.{ℕ_discrete}
use Rattle.std.specs.List.{count_by}
use Rattle.std.proofs.lemmas.Bool.{lt-ltb}
use Rattle.std.proofs.lemmas.List.{length-set, length-append, length-replicate, get_or-set_same, get_or-set_other, get_or-replicate, get_or_append_left, get_or-append_right, get_or_default, get_or_past, same_lists}
use Rattle.std.proofs.lemmas.List.FromFn.{length-map-range_with_len, get_or-map-range_with_len}
use Rattle.std.proofs.lemmas.List.Sums.{sum_by-set, sum_by-cons, count_by-le-length}
use Rattle.pl_index.specs.Blocks.{numbers, place, item_at, laid_out, AreShifts, AreBlocks, AreUnbegun}

-- ---- how many blocks were begun
abbrev one : ℕ → ℕ
one number = cond (nat_lt 0 number) 1 0

abbrev begun : List ℕ → ℕ
begun numbers = count_by (λ number. nat_lt 0 number) numbers

begun_none : (n : ℕ) → begun (replicate n 0) ≡ 0
begun_none zero = refl
begun_none (suc n) = omega (arith, sum_by-cons one 0 (replicate n 0), begun_none n)

begun_more : (numbers : List ℕ) (block number : ℕ) → block < length numbers → get_or numbers block 0 ≡ 0 → 0 < number → begun (set numbers block number) ≡ 1 + begun numbers
begun_more numbers block number within none some =
    let before : one (get_or numbers block 0) ≡ 0 = ap one none in
    let after : one number ≡ 1 = ap (λ b. cond b 1 0) (lt-ltb 0 number some) in
    omega (arith, sum_by-set one numbers block number 0 within, before, after)

-- there is room for one more where one has no number
pub room_for : (numbers : List ℕ) (block : ℕ) → block < length numbers → get_or numbers block 0 ≡ 0 → 1 + begun numbers ≤ length numbers
room_for numbers block within none = omega (arith, begun_more numbers block 1 within none (omega arith), count_by-le-length (λ number. nat_lt 0 number) (set numbers block 1), length-set numbers block 1)

-- all alike, past the end too
alike : {X : Type 0} (n i : ℕ) (d : X) → get_or (replicate n d) i d ≡ d
alike zero i d = refl
alike (suc n) zero d = refl
alike (suc n) (suc i) d = alike n i d

module _ {X : Type 0} (blank : X) where
  pub laid_length : (items : List X) (numbers : List ℕ) (count : ℕ) → length (laid_out blank items numbers count) ≡ count
  unfolding laid_out
  laid_length items numbers count = length-map-range_with_len (item_at blank items numbers) 0 count

  pub laid_at : (items : List X) (numbers : List ℕ) (count at : ℕ) (d : X) → at < count → get_or (laid_out blank items numbers count) at d ≡ item_at blank items numbers at
  unfolding laid_out
  laid_at items numbers count at d within = get_or-map-range_with_len (item_at blank items numbers) 0 count at at d within (omega arith)

  -- ---- a place
  pub place_within : (items : List X) (numbers : List ℕ) (at : ℕ) → AreBlocks blank items numbers → place numbers at < length items
  place_within items numbers at blocks = let inside = blocks.inside (at / 16) in omega arith

  -- .. seen as the list t
  pub seen_within : (items : List X) (numbers : List ℕ) (count : ℕ) (t : List X) (i : ℕ) → laid_out blank items numbers count ≡ t → i < length t → i < count
  seen_within items numbers count t i view within = omega (arith, laid_length items numbers count, ap length view)

  pub seen_at : (items : List X) (numbers : List ℕ) (count : ℕ) (t : List X) (i : ℕ) (x : X) → laid_out blank items numbers count ≡ t → i < length t → AreBlocks blank items numbers → x ≡ get_or items (place numbers i) x → x ≡ get_or t i x
  seen_at items numbers count t i x view within blocks read =
      read
      ∙ get_or_default items (place numbers i) x blank (place_within items numbers i blocks)
      ∙ sym (laid_at items numbers count i x (seen_within items numbers count t i view within))
      ∙ ap (λ l. get_or l i x) view

  -- however the same items lie
  pub laid_same : (items others : List X) (numbers these : List ℕ) (count : ℕ) → ((i : ℕ) → item_at blank items numbers i ≡ item_at blank others these i) → laid_out blank items numbers count ≡ laid_out blank others these count
  laid_same items others numbers these count same =
      same_lists _ _ (laid_length items numbers count ∙ sym (laid_length others these count)) (λ k d within.
      let here : k < count = omega (arith, laid_length items numbers count) in
      laid_at items numbers count k d here ∙ same k ∙ sym (laid_at others these count k d here))

  -- ---- just opened: the first block alone
  module _ (items : List X) (size : length items ≡ 16) (all : (i : ℕ) → get_or items i blank ≡ blank) where
    pub opened : (n : ℕ) → AreBlocks blank items (replicate n 0)
    opened n = record {
      begun = omega (arith, begun_none n);
      inside = λ block. omega (arith, alike {X = ℕ} n block 0);
      own = λ i j more same. absurd (omega (arith, alike {X = ℕ} n i 0));
      first = λ i within. all i;
    }

    pub laid_opened : (n count : ℕ) → laid_out blank items (replicate n 0) count ≡ replicate count blank
    laid_opened n count =
        same_lists _ _ (laid_length items (replicate n 0) count ∙ sym (length-replicate count blank)) (λ k d within.
        let here : k < count = omega (arith, laid_length items (replicate n 0) count) in
        laid_at items (replicate n 0) count k d here ∙ all (place (replicate n 0) k) ∙ sym (get_or-replicate count k blank d here))

  -- ---- a write to an item whose block was begun
  module _ (items : List X) (numbers : List ℕ) (at : ℕ) (x : X) (blocks : AreBlocks blank items numbers) (own : 0 < get_or numbers (at / 16) 0) where
    other_place : (i : ℕ) → (i ≡ at → ⊥) → (place numbers i ≡ place numbers at → ⊥)
    other_place i differs same = omega (arith, differs, blocks.own (at / 16) (i / 16) own (omega arith))

    pub written_blocks : AreBlocks blank (set items (place numbers at) x) numbers
    written_blocks = record {
      begun = length-set items (place numbers at) x ∙ blocks.begun;
      inside = λ block. let inside = blocks.inside block in omega (arith, length-set items (place numbers at) x);
      own = blocks.own;
      first = λ i within. get_or-set_other items (place numbers at) i x blank (λ is. omega arith) ∙ blocks.first i within;
    }

    written_at : (count k : ℕ) (d : X) → at < count → k < count → get_or (laid_out blank (set items (place numbers at) x) numbers count) k d ≡ get_or (set (laid_out blank items numbers count) at x) k d
    written_at count k d within here =
        laid_at (set items (place numbers at) x) numbers count k d here ∙ (elim (ℕ_discrete k at) [
          | yes is ↦
              ap (λ i. get_or (set items (place numbers at) x) (place numbers i) blank) is
              ∙ get_or-set_same items (place numbers at) x blank (place_within items numbers at blocks)
              ∙ sym (get_or-set_same (laid_out blank items numbers count) at x d (omega (arith, laid_length items numbers count)))
              ∙ ap (λ i. get_or (set (laid_out blank items numbers count) at x) i d) (sym is)
          | no differs ↦
              get_or-set_other items (place numbers at) (place numbers k) x blank (other_place k differs)
              ∙ sym (laid_at items numbers count k d here)
              ∙ sym (get_or-set_other (laid_out blank items numbers count) at k x d differs)
        ])

    pub laid_written : (count : ℕ) → at < count → laid_out blank (set items (place numbers at) x) numbers count ≡ set (laid_out blank items numbers count) at x
    laid_written count within =
        same_lists _ _ (laid_length (set items (place numbers at) x) numbers count ∙ sym (length-set (laid_out blank items numbers count) at x ∙ laid_length items numbers count)) (λ k d here.
        written_at count k d within (omega (arith, laid_length (set items (place numbers at) x) numbers count)))

  -- ---- a block more
  module _ (items fresh : List X) (numbers : List ℕ) (block : ℕ) (size : length fresh ≡ 16) (all : (i : ℕ) → get_or fresh i blank ≡ blank) (blocks : AreBlocks blank items numbers) (within : block < length numbers) (none : get_or numbers block 0 ≡ 0) where
    pub its_number : get_or (set numbers block (length items / 16)) block 0 ≡ length items / 16
    its_number = get_or-set_same numbers block (length items / 16) 0 within

    other_number : (j : ℕ) → (j ≡ block → ⊥) → get_or (set numbers block (length items / 16)) j 0 ≡ get_or numbers j 0
    other_number j differs = get_or-set_other numbers block j (length items / 16) 0 differs

    pub added_blocks : AreBlocks blank (items ++ fresh) (set numbers block (length items / 16))
    added_blocks = record {
      begun = omega (arith, length-append items fresh, size, blocks.begun, begun_more numbers block (length items / 16) within none (omega (arith, blocks.begun)));
      inside = λ j. elim (ℕ_discrete j block) [
        | yes is ↦ omega (arith, ap (λ k. get_or (set numbers block (length items / 16)) k 0) is, its_number, length-append items fresh, size)
        | no differs ↦ omega (arith, other_number j differs, blocks.inside j, length-append items fresh)
      ];
      own = λ i j more same. elim (ℕ_discrete i block) [
        | yes a ↦ elim (ℕ_discrete j block) [
          | yes b ↦ a ∙ sym b
          | no b ↦ absurd (omega (arith, ap (λ k. get_or (set numbers block (length items / 16)) k 0) a, its_number, other_number j b, blocks.inside j, same))
        ]
        | no a ↦ elim (ℕ_discrete j block) [
          | yes b ↦ absurd (omega (arith, ap (λ k. get_or (set numbers block (length items / 16)) k 0) b, its_number, other_number i a, blocks.inside i, same))
          | no b ↦ blocks.own i j (omega (arith, more, other_number i a)) (sym (other_number i a) ∙ same ∙ other_number j b)
        ]
      ];
      first = λ i few. get_or_append_left items fresh blank i (omega (arith, blocks.inside block)) ∙ blocks.first i few;
    }

    pub added_same : (i : ℕ) → item_at blank (items ++ fresh) (set numbers block (length items / 16)) i ≡ item_at blank items numbers i
    added_same i = elim (ℕ_discrete (i / 16) block) [
      | yes is ↦
          let number = ap (λ k. get_or (set numbers block (length items / 16)) k 0) is ∙ its_number in
          let before = ap (λ k. get_or numbers k 0) is ∙ none in
          get_or-append_right items fresh (length items) (place (set numbers block (length items / 16)) i) blank refl (omega (arith, number, blocks.begun))
          ∙ all _
          ∙ sym (ap (λ n. get_or items (16 * n + i % 16) blank) before ∙ blocks.first (16 * 0 + i % 16) (omega arith))
      | no differs ↦
          ap (λ n. get_or (items ++ fresh) (16 * n + i % 16) blank) (other_number (i / 16) differs)
          ∙ get_or_append_left items fresh blank (place numbers i) (place_within items numbers i blocks)
    ]

-- ---- .. where the block is one of blank items
module _ {X : Type 0} (blank : X) where
  blank_length : length (replicate 16 blank) ≡ 16
  blank_length = length-replicate 16 blank

  blank_at : (i : ℕ) → get_or (replicate 16 blank) i blank ≡ blank
  blank_at i = alike 16 i blank

  pub laid_fresh : (items : List X) (numbers : List ℕ) (n count : ℕ) → items ≡ replicate 16 blank → numbers ≡ replicate n 0 → laid_out blank items numbers count ≡ replicate count blank
  laid_fresh items numbers n count items_are numbers_are =
      ap₂ (λ these those. laid_out blank these those count) items_are numbers_are ∙ laid_opened blank (replicate 16 blank) blank_length blank_at n count

  pub fresh_blocks : (items : List X) (numbers : List ℕ) (n : ℕ) → items ≡ replicate 16 blank → numbers ≡ replicate n 0 → AreBlocks blank items numbers
  fresh_blocks items numbers n items_are numbers_are =
      rw items_are (rw numbers_are (opened blank (replicate 16 blank) blank_length blank_at n))

  module _ (items these : List X) (numbers those : List ℕ) (block : ℕ) (blocks : AreBlocks blank items numbers) (within : block < length numbers) (none : get_or numbers block 0 ≡ 0) (items_are : these ≡ items ++ replicate 16 blank) (numbers_are : those ≡ set numbers block (length items / 16)) where
    pub begun_blocks : AreBlocks blank these those
    begun_blocks = rw items_are (rw numbers_are (added_blocks blank items (replicate 16 blank) numbers block blank_length blank_at blocks within none))

    pub begun_same : (i : ℕ) → item_at blank these those i ≡ item_at blank items numbers i
    begun_same i = ap₂ (λ all n. item_at blank all n i) items_are numbers_are ∙ added_same blank items (replicate 16 blank) numbers block blank_length blank_at blocks within none i

    pub begun_number : 0 < get_or those block 0
    begun_number = omega (arith, ap (λ n. get_or n block 0) numbers_are, its_number blank items (replicate 16 blank) numbers block blank_length blank_at blocks within none, blocks.begun)

-- ---- the numbers that shifts give
pub numbers_length : (shifts : List ℕ) → length (numbers shifts) ≡ length shifts
unfolding numbers
numbers_length shifts = length-map-range_with_len (λ block. (16 * block + get_or shifts block 0) % 2 ^ 32 / 16) 0 (length shifts)

pub number_at : (shifts : List ℕ) (block d : ℕ) → block < length shifts → get_or (numbers shifts) block d ≡ (16 * block + get_or shifts block 0) % 2 ^ 32 / 16
unfolding numbers
number_at shifts block d within = get_or-map-range_with_len (λ block. (16 * block + get_or shifts block 0) % 2 ^ 32 / 16) 0 (length shifts) block block d within (omega arith)

pub shifted_place : (shifts : List ℕ) (at : ℕ) → at / 16 < length shifts → AreShifts shifts → (at + get_or shifts (at / 16) 0) % 2 ^ 32 ≡ place (numbers shifts) at
shifted_place shifts at within are = omega (arith, are.few, number_at shifts (at / 16) 0 within, are.whole (at / 16))

pub unbegun_numbers : (shifts : List ℕ) (blocks : ℕ) → AreUnbegun shifts blocks → numbers shifts ≡ replicate blocks 0
unbegun_numbers shifts blocks are =
    same_lists _ _ (numbers_length shifts ∙ are.count ∙ sym (length-replicate blocks 0)) (λ k d within.
    let here : k < blocks = omega (arith, numbers_length shifts, are.count) in
    omega (arith, number_at shifts k d (omega (arith, are.count)), are.first k here, get_or-replicate blocks k 0 d here))

pub unbegun_shifts : (shifts : List ℕ) (blocks : ℕ) → blocks ≤ 32768 → AreUnbegun shifts blocks → AreShifts shifts
unbegun_shifts shifts blocks few are = record {
  few = omega (arith, are.count);
  whole = λ block. elim (ℕ_discrete (length shifts - block) 0) [
    | yes past ↦ omega (arith, get_or_past shifts block 0 (omega arith))
    | no inside ↦ omega (arith, are.first block (omega (arith, are.count)))
  ];
}

module _ (shifts : List ℕ) (block shift number : ℕ) (within : block < length shifts) (is : (16 * block + shift) % 2 ^ 32 ≡ 16 * number) where
  pub set_numbers : numbers (set shifts block shift) ≡ set (numbers shifts) block number
  set_numbers =
      same_lists _ _ (numbers_length (set shifts block shift) ∙ length-set shifts block shift ∙ sym (length-set (numbers shifts) block number ∙ numbers_length shifts)) (λ k d here.
      let inside : k < length shifts = omega (arith, here, numbers_length (set shifts block shift), length-set shifts block shift) in
      number_at (set shifts block shift) k d (omega (arith, inside, length-set shifts block shift))
      ∙ (elim (ℕ_discrete k block) [
        | yes same ↦
            omega (
              arith,
              is,
              ap (λ j. get_or (set shifts block shift) j 0) same,
              get_or-set_same shifts block shift 0 within,
              ap (λ j. get_or (set (numbers shifts) block number) j d) same,
              get_or-set_same (numbers shifts) block number d (omega (arith, within, numbers_length shifts)),
            )
        | no differs ↦
            omega (arith, get_or-set_other shifts block k shift 0 differs, get_or-set_other (numbers shifts) block k number d differs, number_at shifts k d inside)
      ]))

  pub set_shifts : AreShifts shifts → AreShifts (set shifts block shift)
  set_shifts are = record {
    few = omega (arith, are.few, length-set shifts block shift);
    whole = λ j. elim (ℕ_discrete j block) [
      | yes same ↦ omega (arith, is, ap (λ k. get_or (set shifts block shift) k 0) same, get_or-set_same shifts block shift 0 within)
      | no differs ↦ omega (arith, get_or-set_other shifts block j shift 0 differs, are.whole j)
    ];
  }

-- ---- .. of blocks of which none was begun
module _ {X : Type 0} (blank : X) (items : List X) (shifts : List ℕ) (blocks count : ℕ) (items_are : items ≡ replicate 16 blank) (are : AreUnbegun shifts blocks) where
  pub laid_unbegun : laid_out blank items (numbers shifts) count ≡ replicate count blank
  laid_unbegun = laid_fresh blank items (numbers shifts) blocks count items_are (unbegun_numbers shifts blocks are)

  pub unbegun_blocks : AreBlocks blank items (numbers shifts)
  unbegun_blocks = fresh_blocks blank items (numbers shifts) blocks items_are (unbegun_numbers shifts blocks are)

-- ---- .. where one more block is begun after so many items
module _ {X : Type 0} (blank : X) (items these : List X) (shifts : List ℕ) (block count : ℕ) (blocks : AreBlocks blank items (numbers shifts)) (are : AreShifts shifts) (within : block < length shifts) (none : get_or (numbers shifts) block 0 ≡ 0) (items_are : these ≡ items ++ replicate 16 blank) (count_is : count ≡ length items) where
  abbrev shift : ℕ
  shift = (count + (2 ^ 32 - 16 * block)) % 2 ^ 32

  number_within : block < length (numbers shifts)
  number_within = omega (arith, within, numbers_length shifts)

  its_shift : (16 * block + shift) % 2 ^ 32 ≡ 16 * (length items / 16)
  its_shift = omega (arith, count_is, within, are.few, blocks.begun, numbers_length shifts, room_for (numbers shifts) block number_within none)

  pub shifted_blocks : AreBlocks blank these (numbers (set shifts block shift))
  shifted_blocks = begun_blocks blank items these (numbers shifts) (numbers (set shifts block shift)) block blocks number_within none items_are (set_numbers shifts block shift (length items / 16) within its_shift)

  pub shifted_same : (i : ℕ) → item_at blank these (numbers (set shifts block shift)) i ≡ item_at blank items (numbers shifts) i
  shifted_same = begun_same blank items these (numbers shifts) (numbers (set shifts block shift)) block blocks number_within none items_are (set_numbers shifts block shift (length items / 16) within its_shift)

  pub shifted_number : 0 < get_or (numbers (set shifts block shift)) block 0
  shifted_number = begun_number blank items these (numbers shifts) (numbers (set shifts block shift)) block blocks number_within none items_are (set_numbers shifts block shift (length items / 16) within its_shift)

  pub shifted_shifts : AreShifts (set shifts block shift)
  shifted_shifts = set_shifts shifts block shift (length items / 16) within its_shift are

  pub shifted_count : count < 2 ^ 32
  shifted_count = omega (arith, count_is, are.few, blocks.begun, numbers_length shifts, room_for (numbers shifts) block number_within none)

  pub shifted_room : (capacity : ℕ) → 16 * (1 + length shifts) ≤ capacity → count + 16 ≤ capacity
  shifted_room capacity room = omega (arith, count_is, blocks.begun, numbers_length shifts, room_for (numbers shifts) block number_within none)
