-- TLP prefixes: local ones stand before End-End ones.
-- PCI Express Base Specification 5.0, chapter 2: TLP prefix rules.
use Rattle.std.specs.Prelude.{ℕ, Bool, false, not, ◌&&◌, ◌||◌, ◌==◌, nat_lt, List, [], ◌∷◌}
use Rattle.std.specs.Prelude.{count_by}
use Rattle.std.specs.Int.{bit_at}
use Rattle.pl_tlp.specs.Fields.{Fields}

-- bit 4 of its Type, which stands in byte 0 of a prefix
abbrev pub is_end_end : ℕ → Bool
is_end_end byte = bit_at byte 4 == 1

-- of each prefix whether it is End-End
abbrev pub end_ends : List ℕ → List Bool
end_ends (a ∷ b ∷ c ∷ d ∷ rest) = is_end_end a ∷ end_ends rest
end_ends cut = []

-- whether a local prefix stands after an End-End one; `seen` is whether one stood before these
abbrev pub has_late_local : Bool → List Bool → Bool
has_late_local seen [] = false
has_late_local seen (end_end ∷ rest) =
    (seen && not end_end) || has_late_local (seen || end_end) rest

abbrev pub end_end_count : List Bool → ℕ
end_end_count prefixes = count_by (λ end_end. end_end) prefixes

-- a local prefix stands after an End-End one, or there are more than four End-End ones
abbrev pub are_misplaced : List Bool → Bool
are_misplaced prefixes = has_late_local false prefixes || nat_lt 4 (end_end_count prefixes)

-- M19: its prefixes stand in a wrong order, or there are too many
abbrev pub breaks_m19 : Fields → Bool
breaks_m19 x = are_misplaced (end_ends x.prefixes)
