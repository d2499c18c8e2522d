-- The six bytes that are read as a packet are those that its fields place.
use Rattle.std.proofs.Common.{◌≡◌, ℕ, ◌+◌, ◌-◌, ◌/◌, ◌%◌, ◌^◌, ◌<◌, ◌≤◌, List, [], ◌∷◌, ◌++◌}
use Rattle.std.proofs.Common.{length, take, drop, get_or, Option, Some, None, refl, sym, ap, ◌∙◌}
use Rattle.std.proofs.Common.{arith, inl, inr, eq-eqb, lit<}
use Rattle.std.specs.Prelude.{◌==◌}
use Rattle.std.specs.List.{find, AllByRecursion}
use Rattle.std.specs.Option.{option_map, IfSome}
use Rattle.std.specs.Str.{bytes_eq}
use Rattle.std.proofs.lemmas.Bool.{cases_Bool, cases_eq, ne_eqb}
use Rattle.std.proofs.lemmas.List.{take-append-drop, length-take-le, get_or-take}
use Rattle.std.proofs.lemmas.Slice.Eq.{text_from_reads, bytes_eq-Decides}
use Rattle.pl_base.specs.declared.link.Class.{Class}
use Rattle.pl_base.specs.declared.link.Class.TheVariants.{P, Np, Cpl}
use Rattle.pl_base.specs.Bits.{bits, value}
use Rattle.pl_base.proofs.Bits.{value-bits}
use Rattle.pl_crc.specs.Remainder.{crc16_of}
use Rattle.pl_dllp.specs.declared.packet.Stage.{Stage}
use Rattle.pl_dllp.specs.declared.packet.Stage.TheVariants.{Init1, Init2, Update}
use Rattle.pl_dllp.specs.declared.packet.Fc.{Fc}
use Rattle.pl_dllp.specs.declared.packet.Dllp.{Dllp}
use Rattle.pl_dllp.specs.declared.packet.Dllp.TheVariants as dllp
use Rattle.pl_dllp.specs.declared.packet.Decoded.TheVariants.{Ok, BadCrc}
use Rattle.pl_dllp.specs.Frame.{number_bits, reserved_bits, fc_of, packet_of, read_as}
use Rattle.pl_dllp.specs.Frame.{content_frame, frame}
use Rattle.pl_dllp.specs.Types.{Row, types, type_with, layout_in, code_in, flow_code}
use Rattle.pl_make.specs.Placed.{placed}
use Rattle.pl_make.specs.Packets.{ack_bytes, ack_fields, credit_bytes, credit_fields, with_crc}
use Rattle.pl_make.proofs.Placing.{IsBytes, IsReadAs, own, owns, byte_of-owns, take_bytes}

-- what holds of every row of the table of types holds of the one that a code finds
found : (Q : Row → Type 0) (code : ℕ) (rows : List Row) → AllByRecursion Q rows
    → IfSome (find (λ r. r.code == code) rows) (λ r. Q r × (r.code ≡ code))
found Q code [] all = tt
found Q code (r ∷ rows) all = elim (cases_eq r.code code) [
  | inl same ↦ rw (eq-eqb r.code code same) (all.0, same)
  | inr other ↦ rw (ne_eqb r.code code other) (found Q code rows all.1)
]

-- a row as which a content is read as this Ack
AckRow : List ℕ → ℕ → Row → Type 0
AckRow content n r = Ok (packet_of content r.means.layout) ≡ Ok (dllp.Ack n) → (r.code ≡ 0x00)
    × (value number_bits content ≡ n)

ack_rows : (content : List ℕ) (n : ℕ) → AllByRecursion (AckRow content n) types
unfolding AckRow
ack_rows content n = ((λ e. (refl, let f = e in cc)), ((λ e. absurd (let f = e in cc)), ((λ e. absurd (let f = e in cc)), ((λ e. absurd (let f = e in cc)), ((λ e. absurd (let f = e in cc)), ((λ e. absurd (let f = e in cc)), ((λ e. absurd (let f = e in cc)), ((λ e. absurd (let f = e in cc)), ((λ e. absurd (let f = e in cc)), ((λ e. absurd (let f = e in cc)), ((λ e. absurd (let f = e in cc)), ((λ e. absurd (let f = e in cc)), ((λ e. absurd (let f = e in cc)), ((λ e. absurd (let f = e in cc)), ((λ e. absurd (let f = e in cc)), ((λ e. absurd (let f = e in cc)), ((λ e. absurd (let f = e in cc)), ((λ e. absurd (let f = e in cc)), ((λ e. absurd (let f = e in cc)), ((λ e. absurd (let f = e in cc)), ((λ e. absurd (let f = e in cc)), ((λ e. absurd (let f = e in cc)), tt))))))))))))))))))))))

read_ack : (content : List ℕ) (n code : ℕ) (row : Option Row)
    → IfSome row (λ r. AckRow content n r × (r.code ≡ code))
    → read_as content (layout_in (option_map (λ r. r.means) row)) ≡ Ok (dllp.Ack n) → (code ≡ 0x00)
    × (value number_bits content ≡ n)
unfolding AckRow
read_ack content n code None h e = absurd (let f = e in cc)
read_ack content n code (Some r) h e = let both = h.0 e in (sym h.1 ∙ both.0, both.1)

ack_read : (content : List ℕ) (n : ℕ) → content_frame content ≡ Ok (dllp.Ack n)
    → (code_in (get_or content 0 0) ≡ 0x00) × (value number_bits content ≡ n)
unfolding type_with
ack_read content n e = read_ack content n (code_in (get_or content 0 0)) _
    (found (AckRow content n) (code_in (get_or content 0 0)) types (ack_rows content n)) e

-- a row as which a content is read as these credits
FlowRow : List ℕ → Fc → Row → Type 0
FlowRow content fc r = Ok (packet_of content r.means.layout) ≡ Ok (dllp.Flow fc) → (stage : Stage)
    × (class : Class) × (r.code ≡ flow_code stage class) × (fc_of stage class content ≡ fc)

flow_rows : (content : List ℕ) (fc : Fc) → AllByRecursion (FlowRow content fc) types
unfolding FlowRow
flow_rows content fc = ((λ e. absurd (let f = e in cc)), ((λ e. absurd (let f = e in cc)), ((λ e. absurd (let f = e in cc)), ((λ e. absurd (let f = e in cc)), ((λ e. absurd (let f = e in cc)), ((λ e. absurd (let f = e in cc)), ((λ e. absurd (let f = e in cc)), ((λ e. absurd (let f = e in cc)), ((λ e. absurd (let f = e in cc)), ((λ e. absurd (let f = e in cc)), ((λ e. (Init1, P, refl, let f = e in cc)), ((λ e. (Init1, Np, refl, let f = e in cc)), ((λ e. (Init1, Cpl, refl, let f = e in cc)), ((λ e. absurd (let f = e in cc)), ((λ e. (Update, P, refl, let f = e in cc)), ((λ e. (Update, Np, refl, let f = e in cc)), ((λ e. (Update, Cpl, refl, let f = e in cc)), ((λ e. absurd (let f = e in cc)), ((λ e. (Init2, P, refl, let f = e in cc)), ((λ e. (Init2, Np, refl, let f = e in cc)), ((λ e. (Init2, Cpl, refl, let f = e in cc)), ((λ e. absurd (let f = e in cc)), tt))))))))))))))))))))))

read_flow : (content : List ℕ) (fc : Fc) (code : ℕ) (row : Option Row)
    → IfSome row (λ r. FlowRow content fc r × (r.code ≡ code))
    → read_as content (layout_in (option_map (λ r. r.means) row)) ≡ Ok (dllp.Flow fc)
    → (stage : Stage) × (class : Class) × (code ≡ flow_code stage class)
    × (fc_of stage class content ≡ fc)
unfolding FlowRow
read_flow content fc code None h e = absurd (let f = e in cc)
read_flow content fc code (Some r) h e = let all = h.0 e in (all.0, all.1, sym h.1 ∙ all.2, all.3)

flow_read : (content : List ℕ) (fc : Fc) → content_frame content ≡ Ok (dllp.Flow fc)
    → (stage : Stage) × (class : Class) × (code_in (get_or content 0 0) ≡ flow_code stage class)
    × (fc_of stage class content ≡ fc)
unfolding type_with
flow_read content fc e = read_flow content fc (code_in (get_or content 0 0)) _
    (found (FlowRow content fc) (code_in (get_or content 0 0)) types (flow_rows content fc)) e

-- a frame that is read has the right CRC
right_crc : (bytes : List ℕ) (d : Dllp) → frame bytes ≡ Ok d
    → (crc16_of (take 4 bytes) ≡ drop 4 bytes) × (content_frame (take 4 bytes) ≡ Ok d)
unfolding frame
right_crc bytes d e = elim (cases_Bool (bytes_eq (crc16_of (take 4 bytes)) (drop 4 bytes))) [
  | inl right ↦ ((bytes_eq-Decides (crc16_of (take 4 bytes)) (drop 4 bytes)).0 right, rw right at e)
  | inr wrong ↦ absurd (let f : BadCrc ≡ Ok d = rw wrong at e in cc)
]

-- a content and its CRC
whole : (bytes content : List ℕ) → take 4 bytes ≡ content → crc16_of (take 4 bytes) ≡ drop 4 bytes
    → bytes ≡ with_crc content
unfolding with_crc
whole bytes content front crc =
    sym (take-append-drop 4 bytes) ∙ ap (λ (xs : List ℕ). take 4 bytes ++ xs) (sym crc)
    ∙ ap (λ (xs : List ℕ). xs ++ crc16_of xs) front

four : (bytes : List ℕ) → length bytes ≡ 6 → length (take 4 bytes) ≡ 4
four bytes six = length-take-le 4 bytes (omega arith)

-- ---- an Ack

zero_code : (byte : ℕ) → code_in byte ≡ 0 → byte ≡ 0
zero_code byte e = grind arith

ack_covers : (n : ℕ) (xs : List ℕ) → IsBytes xs →
    (owns 0 (ack_fields n) xs ≡ get_or xs 0 0) × (owns 1 (ack_fields n) xs ≡ get_or xs 1 0)
    × (owns 2 (ack_fields n) xs ≡ get_or xs 2 0) × (owns 3 (ack_fields n) xs ≡ get_or xs 3 0)
unfolding owns own bits
ack_covers n xs below =
    let b0 = below 0 in let b1 = below 1 in let b2 = below 2 in let b3 = below 3 in
    (omega arith, omega arith, omega arith, omega arith)

ack_content : (n : ℕ) (xs : List ℕ) → length xs ≡ 4 → IsBytes xs → get_or xs 0 0 ≡ 0
    → value number_bits xs ≡ n → value reserved_bits xs ≡ 0
    → xs ≡ placed 0 4 (ack_fields n)
unfolding placed
ack_content n xs len below zero number reserved =
    let type : value (bits 0 7 0) xs ≡ 0 = value-bits 0 7 0 xs ∙ rw zero (omega arith) in
    let all : AllByRecursion (IsReadAs xs) (ack_fields n) = (type, (number, (reserved, tt))) in
    let covers = ack_covers n xs below in
    text_from_reads xs _ len (
      sym (byte_of-owns 0 (ack_fields n) xs all ∙ covers.0),
      (
        sym (byte_of-owns 1 (ack_fields n) xs all ∙ covers.1),
        (
          sym (byte_of-owns 2 (ack_fields n) xs all ∙ covers.2),
          (sym (byte_of-owns 3 (ack_fields n) xs all ∙ covers.3), tt),
        ),
      ),
    )

-- the reserved bits stand before the CRC
pub reserved_front : (bytes : List ℕ) → value reserved_bits bytes ≡ 0
    → value reserved_bits (take 4 bytes) ≡ 0
unfolding bits
reserved_front bytes e =
    let first : get_or (take 4 bytes) 1 0 ≡ get_or bytes 1 0 = get_or-take 4 bytes 1 0 (lit< tt) in
    let second : get_or (take 4 bytes) 2 0 ≡ get_or bytes 2 0 = get_or-take 4 bytes 2 0 (lit< tt) in
    rw (first, second) e

pub ack_placed : (n : ℕ) (bytes : List ℕ) → length bytes ≡ 6 → IsBytes bytes → frame bytes
    ≡ Ok (dllp.Ack n) → value reserved_bits (take 4 bytes) ≡ 0 → bytes ≡ ack_bytes n
unfolding ack_bytes
ack_placed n bytes six below e reserved =
    let right = right_crc bytes (dllp.Ack n) e in
    let content = take 4 bytes in
    let read = ack_read (take 4 bytes) n right.1 in
    whole bytes (placed 0 4 (ack_fields n))
    (ack_content n (take 4 bytes) (four bytes six) (take_bytes 4 bytes below) (zero_code _ read.0)
    read.1 reserved) right.0

-- ---- a flow-control DLLP

code_high : (stage : Stage) (class : Class) → (64 ≤ flow_code stage class)
    × (flow_code stage class % 8 ≡ 0)
code_high Init1 P = (omega arith, refl)
code_high Init1 Np = (omega arith, refl)
code_high Init1 Cpl = (omega arith, refl)
code_high Init2 P = (omega arith, refl)
code_high Init2 Np = (omega arith, refl)
code_high Init2 Cpl = (omega arith, refl)
code_high Update P = (omega arith, refl)
code_high Update Np = (omega arith, refl)
code_high Update Cpl = (omega arith, refl)

type_bits : (byte code : ℕ) → byte < 256 → 64 ≤ code → code % 8 ≡ 0 → code_in byte ≡ code
    → byte / 2 ^ 3 % 2 ^ 5 ≡ code / 8
type_bits byte code lt high whole e = grind arith

credit_covers : (fc : Fc) (xs : List ℕ) → IsBytes xs →
    (owns 0 (credit_fields fc) xs ≡ get_or xs 0 0) × (owns 1 (credit_fields fc) xs ≡ get_or xs 1 0)
    × (owns 2 (credit_fields fc) xs ≡ get_or xs 2 0)
    × (owns 3 (credit_fields fc) xs ≡ get_or xs 3 0)
unfolding owns own bits
credit_covers fc xs below =
    let b0 = below 0 in let b1 = below 1 in let b2 = below 2 in let b3 = below 3 in
    (omega arith, omega arith, omega arith, omega arith)

credit_content : (fc : Fc) (xs : List ℕ) (stage : Stage) (class : Class) → length xs ≡ 4
    → IsBytes xs
    → code_in (get_or xs 0 0) ≡ flow_code stage class → fc_of stage class xs ≡ fc → xs
    ≡ placed 0 4 (credit_fields fc)
unfolding placed fc_of
credit_content fc xs stage class len below code fields =
    let first : stage ≡ fc.stage = ap (λ (f : Fc). f.stage) fields in
    let second : class ≡ fc.class = ap (λ (f : Fc). f.class) fields in
    let same : code_in (get_or xs 0 0) ≡ flow_code fc.stage fc.class = rw (first, second) at code in
    let high = code_high fc.stage fc.class in
    let type : value (bits 0 7 3) xs ≡ flow_code fc.stage fc.class / 8 =
    value-bits 0 7 3 xs ∙ type_bits _ _ (below 0) high.0 high.1 same in
    let all : AllByRecursion (IsReadAs xs) (credit_fields fc) = (
      type,
      (
        ap (λ (f : Fc). f.vc) fields,
        (
          ap (λ (f : Fc). f.hdr_scale) fields,
          (
            ap (λ (f : Fc). f.hdr) fields,
            (ap (λ (f : Fc). f.data_scale) fields, (ap (λ (f : Fc). f.units) fields, tt)),
          ),
        ),
      ),
    ) in
    let covers = credit_covers fc xs below in
    text_from_reads xs _ len (
      sym (byte_of-owns 0 (credit_fields fc) xs all ∙ covers.0),
      (
        sym (byte_of-owns 1 (credit_fields fc) xs all ∙ covers.1),
        (
          sym (byte_of-owns 2 (credit_fields fc) xs all ∙ covers.2),
          (sym (byte_of-owns 3 (credit_fields fc) xs all ∙ covers.3), tt),
        ),
      ),
    )

pub credit_placed : (fc : Fc) (bytes : List ℕ) → length bytes ≡ 6 → IsBytes bytes → frame bytes
    ≡ Ok (dllp.Flow fc) → bytes ≡ credit_bytes fc
unfolding credit_bytes
credit_placed fc bytes six below e =
    let right = right_crc bytes (dllp.Flow fc) e in
    let read = flow_read (take 4 bytes) fc right.1 in
    whole bytes (placed 0 4 (credit_fields fc))
    (credit_content fc (take 4 bytes) read.0 read.1 (four bytes six) (take_bytes 4 bytes below)
    read.2 read.3) right.0
