-- The names of benches, profiles and captures.
use Rattle.std.specs.Prelude.{ℕ, List, length, Bool, ◌&&◌, ◌||◌, ◌==◌, nat_lt, nat_le}
use Rattle.std.specs.List.{list_all}

-- `a` to `z`, `0` to `9`, `_` and `-`
abbrev pub is_name_byte : ℕ → Bool
is_name_byte b = (nat_le 97 b && nat_le b 122) || (nat_le 48 b && nat_le b 57) || b == 95 || b == 45

-- 1 to 64 of them
abbrev pub is_name : List ℕ → Bool
is_name text = nat_lt 0 (length text) && nat_lt (length text) 65 && list_all is_name_byte text
