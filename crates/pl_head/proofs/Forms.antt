-- One field after another gives the form of all.
use Rattle.std.proofs.Common.{◌≡◌, ℕ, List, [], ◌∷◌, ap, refl, ◌∙◌}
use Rattle.std.specs.Prelude.{Bool, true, false, Option, Some, None, codes, if◌then◌else◌}
use Rattle.pl_head.specs.Fields.{with_number, with_fields}
use Rattle.pl_head.specs.Form.{is_named, values_of, number_of, form_by_number, form_by_lengths}
use Rattle.pl_head.specs.Form.{form_by_codings, form_of}
use Rattle.pl_head.specs.declared.form.Form.{Form}
use Rattle.pl_head.specs.declared.form.Form.TheVariants.{Refused, Without}

-- what lengths give behind those that gave form
abbrev with_lengths : Form → List (List ℕ) → Form
with_lengths form [] = form
with_lengths form (value ∷ values) = with_lengths (with_number form (number_of value)) values

refused_stays : (values : List (List ℕ)) → with_lengths Refused values ≡ Refused
refused_stays [] = refl
refused_stays (value ∷ values) = refused_stays values

coding_refuses : (codings : List (List ℕ)) → form_by_codings codings Refused ≡ Refused
coding_refuses [] = refl
coding_refuses (coding ∷ codings) = refl

second_refuses : (a b : Option ℕ) → with_number (form_by_number a) b ≡ Refused
second_refuses None b = refl
second_refuses (Some n) b = refl

one_length : (values : List (List ℕ)) → with_lengths Without values ≡ form_by_lengths values
one_length [] = refl
one_length (value ∷ []) = refl
one_length (value ∷ another ∷ values) =
    ap (λ form. with_lengths form values) (second_refuses (number_of value) (number_of another))
    ∙ refused_stays values

-- a field whose name is that of a coding or of a length, or neither
one_field : (coding sized : Bool) (form : Form) (value : List ℕ) (fields : List (List ℕ × List ℕ))
    (codings lengths : List (List ℕ)) →
    ((f : Form) → with_fields f fields ≡ form_by_codings codings (with_lengths f lengths)) →
    with_fields
    (if coding then Refused
    else (if sized then with_number form (number_of value) else form))
    fields
    ≡ form_by_codings
    (if coding then value ∷ codings else codings)
    (with_lengths form (if sized then value ∷ lengths else lengths))
one_field true sized form value fields codings lengths rest =
    rest Refused ∙ ap (form_by_codings codings) (refused_stays lengths) ∙ coding_refuses codings
one_field false true form value fields codings lengths rest =
    rest (with_number form (number_of value))
one_field false false form value fields codings lengths rest = rest form

fields_after : (form : Form) (fields : List (List ℕ × List ℕ)) → with_fields form fields
    ≡ form_by_codings
    (values_of (codes "transfer-encoding") fields)
    (with_lengths form (values_of (codes "content-length") fields))
fields_after form [] = refl
fields_after form (field ∷ fields) = one_field
    (is_named (codes "transfer-encoding") field.0)
    (is_named (codes "content-length") field.0)
    form field.1 fields
    (values_of (codes "transfer-encoding") fields)
    (values_of (codes "content-length") fields)
    (λ f. fields_after f fields)

pub with_all_fields : (fields : List (List ℕ × List ℕ))
    → with_fields Without fields ≡ form_of fields
with_all_fields fields = fields_after Without fields
    ∙ ap (form_by_codings (values_of (codes "transfer-encoding") fields))
    (one_length (values_of (codes "content-length") fields))
