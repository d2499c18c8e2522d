-- The bytes of the first DW of a header that several fields share, with LN 0.
use Rattle.std.specs.Prelude.{ℕ, ◌+◌, ◌*◌, ◌/◌, ◌%◌, is_some}
use Rattle.std.specs.Int.{from_bool}
use Rattle.pl_tlp.specs.Fields.{Fields}

-- byte 1: Tag[9], TC, Tag[8], Attr[2] and TH
abbrev pub byte_one : Fields → ℕ
byte_one x =
    x.tag / 256 / 2 * 128 + (x.tc * 16 + (x.tag / 256 % 2 * 8 + (x.attr / 4 * 4 + from_bool x.th)))

-- byte 2: TD, EP, Attr[1:0], AT and the two high bits of the Length
abbrev pub byte_two : Fields → ℕ
byte_two x =
    from_bool (is_some x.digest) * 128
    + (from_bool x.ep * 64 + (x.attr % 4 * 16 + (x.at * 4 + x.length / 256 % 4)))
