-- How many fields a head can have.
use Rattle.std.proofs.Common.{◌≡◌, ℕ, ◌+◌, ◌*◌, ◌≤◌, List, [], ◌∷◌, ◌++◌, length}
use Rattle.std.proofs.Common.{length-append, arith, ap, ◌∙◌}
use Rattle.std.specs.List.{flat_map}
use Rattle.httparse.specs.Grammar.{LineEnd, crlf, lf, print_end, Field, print_field, print_request}
use Rattle.httparse.specs.Grammar.{RequestHead}
use Rattle.httparse.specs.Spans.{RequestExceeds}

end_length : (e : LineEnd) → 1 ≤ length (print_end e)
end_length crlf = omega arith
end_length lf = omega arith

-- a colon and a line end at least
field_length : (f : Field) → 2 ≤ length (print_field f)
field_length f = simp (length-append) (omega (arith, end_length f.end))

fields_length : (fields : List Field) → 2 * length fields ≤ length (flat_map print_field fields)
fields_length [] = omega arith
fields_length (f ∷ fields) = omega (
  arith,
  fields_length fields,
  field_length f,
  length-append (print_field f) (flat_map print_field fields),
)

head_length : (h : RequestHead) → 2 * length h.fields ≤ length (print_request h)
unfolding print_request
head_length h = simp (length-append) (omega (arith, fields_length h.fields))

-- so no bytes within the limit pass the room
pub fields_fit : (room : ℕ) (bytes : List ℕ) →
    length bytes ≤ 16384 → 8192 ≤ room → RequestExceeds room bytes → ⊥
fields_fit room bytes short many exceeds =
    let front = exceeds.0 in
    let cut : length bytes ≡ length front + length exceeds.1 =
    ap length exceeds.2 ∙ length-append front exceeds.1 in
    let printed : length (front ++ print_end lf) ≡ length (print_request exceeds.3 ++ []) =
    ap length exceeds.4.1 in
    omega (
      arith,
      head_length exceeds.3,
      length-append front (print_end lf),
      length-append (print_request exceeds.3) [],
    )
