-- What the fields of a head say of the body (RFC 9112, chapter 6).
use Rattle.std.specs.Prelude.{ℕ, ◌+◌, ◌-◌, ◌*◌, List, [], ◌∷◌, length, map, codes, Bool, ◌&&◌}
use Rattle.std.specs.Prelude.{nat_lt, bytes_eq, Option, Some, None, if◌then◌else◌}
use Rattle.std.specs.Char.{is_ascii_digit, to_ascii_lowercase}
use Rattle.pl_head.specs.declared.form.Form.{Form}
use Rattle.pl_head.specs.declared.form.Form.TheVariants.{Refused, Without, Length}

-- a field's name, whatever the case of its letters
abbrev pub is_named : List ℕ → List ℕ → Bool
is_named wanted name = bytes_eq (map to_ascii_lowercase name) wanted

-- the values of the fields with this name, of names and values
abbrev pub values_of : List ℕ → List (List ℕ × List ℕ) → List (List ℕ)
values_of wanted [] = []
values_of wanted (field ∷ fields) =
    if is_named wanted field.0 then field.1 ∷ values_of wanted fields else values_of wanted fields

-- the number that digits write behind those of n, if all are digits
abbrev pub digits_after : ℕ → List ℕ → Option ℕ
digits_after n [] = Some n
digits_after n (c ∷ cs) =
    if is_ascii_digit c then digits_after (n * 10 + (c - 48)) cs else None

-- the number of one to nineteen digits
abbrev pub number_of : List ℕ → Option ℕ
number_of value =
    if nat_lt 0 (length value) && nat_lt (length value) 20 then digits_after 0 value else None

abbrev pub form_by_number : Option ℕ → Form
form_by_number None = Refused
form_by_number (Some n) = Length n

-- by the values of all fields Content-Length
abbrev pub form_by_lengths : List (List ℕ) → Form
form_by_lengths [] = Without
form_by_lengths (value ∷ []) = form_by_number (number_of value)
form_by_lengths (value ∷ another ∷ others) = Refused

-- by the values of all fields Transfer-Encoding, and what the lengths give
abbrev pub form_by_codings : List (List ℕ) → Form → Form
form_by_codings [] form = form
form_by_codings (coding ∷ others) form = Refused

-- by the names and values of all fields
abbrev pub form_of : List (List ℕ × List ℕ) → Form
form_of fields = form_by_codings
    (values_of (codes "transfer-encoding") fields)
    (form_by_lengths (values_of (codes "content-length") fields))
