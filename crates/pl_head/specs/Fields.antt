-- The form as one field after another gives it. The functions inside speak of it; `form_of` is the
-- same without a walk.
use Rattle.std.specs.Prelude.{ℕ, List, [], ◌∷◌, codes, Option, if◌then◌else◌}
use Rattle.pl_head.specs.Form.{form_by_number, is_named, number_of}
use Rattle.pl_head.specs.declared.form.Form.{Form}
use Rattle.pl_head.specs.declared.form.Form.TheVariants.{Refused, Without, Length}

-- a length more: only the first counts, and only where it is a number
abbrev pub with_number : Form → Option ℕ → Form
with_number Without number = form_by_number number
with_number (Length n) number = Refused
with_number Refused number = Refused

-- a field more
abbrev pub with_field : Form → (List ℕ × List ℕ) → Form
with_field form field =
    if is_named (codes "transfer-encoding") field.0 then Refused
    else (if is_named (codes "content-length") field.0 then with_number form (number_of field.1)
    else form)

-- all of them
abbrev pub with_fields : Form → List (List ℕ × List ℕ) → Form
with_fields form [] = form
with_fields form (field ∷ fields) = with_fields (with_field form field) fields
