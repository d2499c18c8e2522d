-- The bytes that are seen as a TLP are those that its fields place.
use Rattle.std.proofs.Common.{◌≡◌, ◌⊎◌, ℕ, zero, suc, ◌+◌, ◌-◌, ◌*◌, ◌/◌, ◌%◌, ◌<◌, ◌≤◌, Bool, true}
use Rattle.std.proofs.Common.{false, List, [], ◌∷◌, ◌++◌, length, take, drop, Option, Some, None}
use Rattle.std.proofs.Common.{refl, sym, ap, subst, ◌∙◌, arith, inl, inr, eq-eqb, lit<}
use Rattle.std.proofs.Math.Nat.{mod_self, mod-eq_of_lt}
use Rattle.std.specs.Prelude.{◌==◌, ◌&&◌, nat_le, is_some, if◌then◌else◌}
use Rattle.std.specs.Int.{from_bool}
use Rattle.std.specs.List.{find, AllByRecursion}
use Rattle.std.proofs.lemmas.Bool.{cases_Bool, cases_eq, ne_eqb}
use Rattle.std.proofs.lemmas.Bool.Decides.{nat_tests}
use Rattle.std.proofs.lemmas.List.{take-append-drop, length-take-le, get_or-take, take_all}
use Rattle.std.proofs.lemmas.List.{append-nil}
use Rattle.pl_base.specs.Bits.{Place, bits, value, is_set}
use Rattle.pl_base.proofs.Bits.{value_lt, value-bits, length-bits}
use Rattle.pl_tlp.specs.declared.kind.Kind.{Kind}
use Rattle.pl_tlp.specs.declared.kind.Kind.TheVariants.{MRd, CplD}
use Rattle.pl_tlp.specs.declared.kind.Layout.{Layout}
use Rattle.pl_tlp.specs.declared.kind.Layout.TheVariants.{Addressed, Configuration, Message}
use Rattle.pl_tlp.specs.declared.kind.Layout.TheVariants.{Completion}
use Rattle.pl_tlp.specs.Header.{wide_bits, td_bits, length_bits, address_bits, address_unit}
use Rattle.pl_tlp.specs.Header.{status_bits, bcm_bits, byte_count_bits, spare_bits}
use Rattle.pl_tlp.specs.Kinds.{fmts, types, has, kinds, kind_at, kind_of, fmt_of, type_of}
use Rattle.pl_tlp.specs.Kinds.{layout_of}
use Rattle.pl_tlp.specs.Fields.{Fields, Whole, WrongSize, or_most, byte_count_of, header_size}
use Rattle.pl_tlp.specs.Fields.{data_size, digest_size, length_of, fields_of, prefix_count, view_of}
use Rattle.pl_tlp.specs.Fields.{view_of_kind}
use Rattle.pl_tlp.specs.Encoding.{IsSeenAs, digest_bytes}
use Rattle.pl_make.specs.Packets.{IsPlain, header_fields, header_bytes, tlp_bytes}
use Rattle.pl_make.proofs.Placing.{IsBytes, IsReadAs}
use Rattle.pl_make.proofs.Headers.{covers, header_placed}

-- ---- what is seen, where no prefixes stand before the header

-- the parts of a view
pub record Parts (tlp : List ℕ) (y : Fields) : Type 0 where
  pub kind : kind_of tlp ≡ Some y.kind
  pub size : length tlp ≡ header_size tlp + data_size tlp + digest_size tlp
  pub fields : fields_of y.kind [] tlp ≡ y

by_kind : (known : Option Kind) (prefixes tlp : List ℕ) (y : Fields)
    → view_of_kind known prefixes tlp ≡ Whole y
    → (known ≡ Some y.kind) × (length tlp ≡ header_size tlp + data_size tlp + digest_size tlp)
    × (fields_of y.kind prefixes tlp ≡ y)
by_kind None prefixes tlp y e = absurd (let f = e in cc)
by_kind (Some kind) prefixes tlp y e =
    elim (cases_eq (length tlp) (header_size tlp + data_size tlp + digest_size tlp)) [
      | inl size ↦
          let whole : Whole (fields_of kind prefixes tlp) ≡ Whole y =
          rw (eq-eqb (length tlp) (header_size tlp + data_size tlp + digest_size tlp) size) at e in
          let all : fields_of kind prefixes tlp ≡ y = cc in
          let same : kind ≡ y.kind = ap (λ (f : Fields). f.kind) all in (
            ap (λ (k : Kind). Some k) same,
            size,
            subst (λ (k : Kind). fields_of k prefixes tlp ≡ y) same all,
          )
      | inr other ↦
          let wrong : WrongSize ≡ Whole y =
          rw (ne_eqb (length tlp) (header_size tlp + data_size tlp + digest_size tlp) other) at e in
          absurd (let f = wrong in cc)
    ]

by_count : (n : ℕ) (bytes : List ℕ) (y : Fields) →
    (if nat_le (length bytes) (4 * n) then WrongSize else view_of_kind
    (kind_of (drop (4 * n) bytes)) (take (4 * n) bytes) (drop (4 * n) bytes)) ≡ Whole y
    → y.prefixes ≡ [] → Parts bytes y
by_count zero bytes y e none = elim (cases_Bool (nat_le (length bytes) 0)) [
  | inl short ↦ absurd (let f : WrongSize ≡ Whole y = rw short at e in cc)
  | inr long ↦
      let seen : view_of_kind (kind_of bytes) [] bytes ≡ Whole y = rw long at e in
      let parts = by_kind (kind_of bytes) [] bytes y seen in
      record { kind = parts.0; size = parts.1; fields = parts.2 }
]
by_count (suc n) bytes y e none = elim (cases_Bool (nat_le (length bytes) (4 * suc n))) [
  | inl short ↦ absurd (let f : WrongSize ≡ Whole y = rw short at e in cc)
  | inr long ↦
      let seen : view_of_kind (kind_of (drop (4 * suc n) bytes)) (take (4 * suc n) bytes)
      (drop (4 * suc n) bytes) ≡ Whole y = rw long at e in
      let parts = by_kind (kind_of (drop (4 * suc n) bytes)) (take (4 * suc n) bytes)
      (drop (4 * suc n) bytes) y seen in
      let front : take (4 * suc n) bytes ≡ [] = ap (λ (f : Fields). f.prefixes) parts.2 ∙ none in
      let more : 4 * suc n ≤ length bytes = grind (arith, nat_tests) in
      let size : length (take (4 * suc n) bytes) ≡ 4 * suc n =
      length-take-le (4 * suc n) bytes more in
      absurd (let empty : 0 ≡ 4 * suc n = ap length (sym front) ∙ size in omega arith)
]

seen_parts : (bytes : List ℕ) (y : Fields) → view_of bytes ≡ Whole y → y.prefixes ≡ []
    → Parts bytes y
unfolding view_of
seen_parts bytes y e none = by_count (prefix_count bytes) bytes y e none

-- ---- each field is read as its number

found : (test : Kind → Bool) (all : List Kind) (kind : Kind) → find test all ≡ Some kind → test kind
    ≡ true
found test [] kind e = absurd (let f = e in cc)
found test (k ∷ all) kind e = elim (cases_Bool (test k)) [
  | inl passes ↦ (let first : Some k ≡ Some kind = rw passes at e in let same : k ≡ kind = cc in
      subst (λ (x : Kind). test x ≡ true) same passes)
  | inr fails ↦ found test all kind (let rest : find test all ≡ Some kind = rw fails at e in rest)
]

and_both : (a b : Bool) → (a && b) ≡ true → (a ≡ true) × (b ≡ true)
and_both true b e = (refl, e)
and_both false b e = absurd (let f = e in cc)

one_of : (a n : ℕ) → has (a ∷ []) n ≡ true → n ≡ a
one_of a n e = grind (arith, nat_tests)

two_of : (a b n : ℕ) → has (a ∷ b ∷ []) n ≡ true → (n ≡ a) ⊎ (n ≡ b)
two_of a b n e = grind (arith, nat_tests)

kind_tests : (bytes : List ℕ) (kind : Kind) → kind_of bytes ≡ Some kind
    → (has (fmts kind) (value (bits 0 7 5) bytes) ≡ true)
    × (has (types kind) (value (bits 0 4 0) bytes) ≡ true)
unfolding kind_of kind_at
kind_tests bytes kind e =
    and_both _ _ (found (λ k. has (fmts k) (value (bits 0 7 5) bytes) && has (types k)
    (value (bits 0 4 0) bytes)) kinds kind e)

narrow : (bytes : List ℕ) → is_set wide_bits bytes ≡ false → (value (bits 0 7 5) bytes ≡ 0)
    ⊎ (value (bits 0 7 5) bytes ≡ 1) → value (bits 0 7 5) bytes ≡ 0
narrow bytes short e =
    let all = value-bits 0 7 5 bytes in
    let wide = value-bits 0 5 5 bytes in
    grind (arith, nat_tests)

kind_fields : (bytes : List ℕ) (kind : Kind) → (kind ≡ MRd) ⊎ (kind ≡ CplD) → kind_of bytes
    ≡ Some kind → is_set wide_bits bytes ≡ false
    → (value (bits 0 7 5) bytes ≡ fmt_of kind false) × (value (bits 0 4 0) bytes ≡ type_of kind)
kind_fields bytes kind (inl read) e short =
    let tests = kind_tests bytes MRd (e ∙ ap (λ (k : Kind). Some k) read) in
    rw read (narrow bytes short (two_of 0 1 _ tests.0), one_of 0 _ tests.1)
kind_fields bytes kind (inr completion) e short =
    let tests = kind_tests bytes CplD (e ∙ ap (λ (k : Kind). Some k) completion) in
    rw completion (one_of 2 _ tests.0, one_of 10 _ tests.1)

flag : (n : ℕ) (set : Bool) → n < 2 → (n == 1) ≡ set → n ≡ from_bool set
flag n true lt e = grind (arith, nat_tests)
flag n false lt e = grind (arith, nat_tests)

flag_at : (byte bit : ℕ) (bytes : List ℕ) (set : Bool) → is_set (bits byte bit bit) bytes ≡ set
    → value (bits byte bit bit) bytes ≡ from_bool set
flag_at byte bit bytes set e =
    let lt = value_lt (bits byte bit bit) bytes in
    let width = length-bits byte bit bit in
    let one : bit + 1 - bit ≡ 1 = omega arith in
    flag (value (bits byte bit bit) bytes) set (rw (width, one) at lt) e

-- a field that counts, of which 0 is the largest
counts : (most v n : ℕ) → 0 < most → v < most → or_most most v ≡ n → v ≡ n % most
counts most v n some lt e = elim (cases_eq v 0) [
  | inl none ↦ (let all : most ≡ n = rw (eq-eqb v 0 none) at e in
      rw (none, ← all) (sym (mod_self most)))
  | inr more ↦ (let same : v ≡ n = rw (ne_eqb v 0 more) at e in rw (← same) (sym (mod-eq_of_lt lt)))
]

digest_flag : (set : Bool) (d : List ℕ) → (if set then Some d else None) ≡ None → set ≡ false
digest_flag true d e = absurd (let f = e in cc)
digest_flag false d e = refl

address_read : (layout : Layout) (v address : ℕ) → address_unit layout * v ≡ address → v
    ≡ address / address_unit layout
address_read Addressed v address e = omega arith
address_read Configuration v address e = omega arith
address_read Message v address e = omega arith
address_read Completion v address e = omega arith

byte_count_read : (layout : Layout) (bytes : List ℕ) (n : ℕ) → byte_count_of layout bytes ≡ n
    → value (byte_count_bits layout) bytes ≡ n % 4096
unfolding bits
byte_count_read Addressed bytes n e = rw (← e) refl
byte_count_read Configuration bytes n e = rw (← e) refl
byte_count_read Message bytes n e = rw (← e) refl
byte_count_read Completion bytes n e =
    counts 4096 (value (byte_count_bits Completion) bytes) n (omega arith)
    (value_lt (byte_count_bits Completion) bytes) e

bcm_read : (layout : Layout) (bytes : List ℕ) (set : Bool) → is_set (bcm_bits layout) bytes ≡ set
    → value (bcm_bits layout) bytes ≡ from_bool set
bcm_read Addressed bytes set e = rw (← e) refl
bcm_read Configuration bytes set e = rw (← e) refl
bcm_read Message bytes set e = rw (← e) refl
bcm_read Completion bytes set e = flag_at 6 4 bytes set e

length_read : (bytes : List ℕ) (n : ℕ) → length_of bytes ≡ n → value length_bits bytes ≡ n % 1024
unfolding bits
length_read bytes n e = counts 1024 (value length_bits bytes) n (omega arith)
    (value_lt length_bits bytes) e

-- a field in the first 12 bytes
value-take : (ps : List Place) (bytes : List ℕ) → AllByRecursion (λ (p : Place). p.byte < 12) ps
    → value ps (take 12 bytes) ≡ value ps bytes
value-take [] bytes all = refl
value-take (p ∷ ps) bytes all =
    rw (get_or-take 12 bytes p.byte 0 all.0, value-take ps bytes all.1) refl

status_inside : (layout : Layout) → AllByRecursion (λ (p : Place). p.byte < 12) (status_bits layout)
unfolding bits
status_inside Addressed = tt
status_inside Configuration = tt
status_inside Message = tt
status_inside Completion = (lit< tt, (lit< tt, (lit< tt, tt)))

spare_inside : (layout : Layout)
    → AllByRecursion (λ (p : Place). p.byte < 12) (spare_bits layout false)
unfolding bits
spare_inside Addressed = (lit< tt, (lit< tt, (lit< tt, tt)))
spare_inside Configuration = (lit< tt, tt)
spare_inside Message = (lit< tt, tt)
spare_inside Completion = (lit< tt, (lit< tt, tt))

-- ---- the whole

-- what stands behind the header is the data
data_behind : (bytes payload : List ℕ) (size : ℕ) → length bytes ≡ 12 + size
    → drop 12 (take (12 + size) bytes) ≡ payload → drop 12 bytes ≡ payload
data_behind bytes payload size len e =
    let all : take (12 + size) bytes ≡ bytes = take_all (12 + size) bytes (omega arith) in
    ap (drop 12) (sym all) ∙ e

read_all : (x : Fields) (bytes header : List ℕ) → IsPlain x → fields_of x.kind [] bytes
    ≡ record x { header = header } → kind_of bytes ≡ Some x.kind
    → value (status_bits (layout_of x.kind)) bytes ≡ x.status
    → value (spare_bits (layout_of x.kind) x.wide) bytes ≡ 0
    → is_set td_bits bytes ≡ false → AllByRecursion (IsReadAs bytes) (header_fields x)
read_all x bytes header plain all kind status spare none =
    let wide : is_set wide_bits bytes ≡ x.wide = ap (λ (f : Fields). f.wide) all in
    let pair = kind_fields bytes x.kind plain.kind kind (wide ∙ plain.wide) in
    let address = ap (λ (f : Fields). f.address) all in
    let at : address_unit (layout_of x.kind) * value (address_bits (layout_of x.kind) x.wide) bytes
    ≡ x.address = rw wide at address in
    let digest : is_set td_bits bytes ≡ is_some x.digest = none ∙ sym (ap is_some plain.digest) in
    let fmt : value (bits 0 7 5) bytes ≡ fmt_of x.kind x.wide = rw plain.wide pair.0 in
    (fmt, (pair.1, (ap (λ (f : Fields). f.tc) all, (ap (λ (f : Fields). f.attr) all, (flag_at 1 0 bytes x.th (ap (λ (f : Fields). f.th) all), (flag_at 2 7 bytes (is_some x.digest) digest, (flag_at 2 6 bytes x.ep (ap (λ (f : Fields). f.ep) all), (ap (λ (f : Fields). f.at) all, (length_read bytes x.length (ap (λ (f : Fields). f.length) all), (ap (λ (f : Fields). f.requester) all, (ap (λ (f : Fields). f.tag) all, (ap (λ (f : Fields). f.first_be) all, (ap (λ (f : Fields). f.last_be) all, (address_read (layout_of x.kind) _ _ at, (ap (λ (f : Fields). f.completer) all, (status, (bcm_read (layout_of x.kind) bytes x.bcm (ap (λ (f : Fields). f.bcm) all), (byte_count_read (layout_of x.kind) bytes x.byte_count (ap (λ (f : Fields). f.byte_count) all), (ap (λ (f : Fields). f.lower) all, (spare, tt))))))))))))))))))))

pub tlp_placed : (x : Fields) (bytes : List ℕ) → IsPlain x → IsBytes bytes → IsSeenAs x bytes
    → bytes ≡ tlp_bytes x
unfolding tlp_bytes
tlp_placed x bytes plain below seen =
    let layout = layout_of x.kind in
    let parts = seen_parts bytes (record x { header = seen.0 }) seen.1 plain.prefixes in
    let all = parts.fields in
    let short : is_set wide_bits bytes ≡ false = ap (λ (f : Fields). f.wide) all ∙ plain.wide in
    let none : is_set td_bits bytes ≡ false =
    digest_flag (is_set td_bits bytes) _ (ap (λ (f : Fields). f.digest) all ∙ plain.digest) in
    let size : length bytes ≡ 12 + data_size bytes + 0 = rw (short, none) at parts.size in
    let front : take 12 bytes ≡ seen.0 = rw short at (ap (λ (f : Fields). f.header) all) in
    let payload : drop 12 (take (12 + data_size bytes) bytes) ≡ x.payload =
    rw short at (ap (λ (f : Fields). f.payload) all) in
    let spare_short : value (spare_bits (layout_of x.kind) false) seen.0 ≡ 0 =
    rw plain.wide at seen.2 in
    let spare : value (spare_bits (layout_of x.kind) x.wide) bytes ≡ 0 =
    rw plain.wide (sym (value-take (spare_bits (layout_of x.kind) false) bytes
    (spare_inside (layout_of x.kind))) ∙ ap (value (spare_bits (layout_of x.kind) false)) front
    ∙ spare_short) in
    let status : value (status_bits (layout_of x.kind)) bytes ≡ x.status =
    sym (value-take (status_bits (layout_of x.kind)) bytes (status_inside (layout_of x.kind)))
    ∙ ap (value (status_bits (layout_of x.kind))) front ∙ seen.3 in
    let read = read_all x bytes seen.0 plain all parts.kind status spare none in
    let header : take 12 bytes ≡ header_bytes x =
    header_placed x bytes (omega arith) plain.wide (covers x bytes plain.kind plain.wide below) read
    in
    let behind : drop 12 bytes ≡ x.payload =
    data_behind bytes x.payload (data_size bytes) (omega arith) payload in
    let whole : bytes ≡ header_bytes x ++ x.payload =
    sym (take-append-drop 12 bytes) ∙ ap (λ (t : List ℕ). t ++ drop 12 bytes) header
    ∙ ap (λ (t : List ℕ). header_bytes x ++ t) behind in
    whole ∙ sym (append-nil (header_bytes x ++ x.payload))
    ∙ ap (λ (d : Option (List ℕ)). header_bytes x ++ x.payload ++ digest_bytes d) (sym plain.digest)
    ∙ ap (λ (t : List ℕ). t ++ header_bytes x ++ x.payload
    ++ digest_bytes x.digest) (sym plain.prefixes)
