-- The items of a capture are lawful, and so its bytes are read as these.
use Rattle.std.proofs.Common.{◌≡◌, ℕ, zero, suc, ◌+◌, ◌-◌, ◌^◌, ◌<◌, ◌≤◌, List, [], ◌∷◌, ◌++◌}
use Rattle.std.proofs.Common.{length, refl, ap, arith}
use Rattle.std.specs.List.{AllByRecursion}
use Rattle.std.proofs.lemmas.List.{length-append}
use Rattle.byteorder.specs.Endian.{big_bytes}
use Rattle.pl_base.specs.declared.link.Dir.{Dir}
use Rattle.pl_capture.specs.Entry.{Entry, IsLawfulIn}
use Rattle.pl_crc.specs.Remainder.{crc16_of, crc32_of}
use Rattle.pl_crc.proofs.Lengths.{length-crc16_of, length-crc32_of}
use Rattle.pl_dllp.specs.declared.packet.Fc.{Fc}
use Rattle.pl_dllp.specs.declared.packet.Stage.{Stage}
use Rattle.pl_dllp.specs.declared.packet.Stage.TheVariants.{Init1, Init2}
use Rattle.pl_tlp.specs.Encoding.{digest_bytes}
use Rattle.pl_tlp.specs.Fields.{Fields}
use Rattle.pl_make.specs.Placed.{Field, placed}
use Rattle.pl_make.specs.Packets.{IsPlain, ack_bytes, ack_fields, credit_bytes, credit_fields}
use Rattle.pl_make.specs.Packets.{with_crc, framed, header_bytes, tlp_bytes}
use Rattle.pl_make.specs.Generated.{bring_up, dllp, drawn, items, round, rounds, step, tlp}
use Rattle.pl_make.proofs.Lawful.{completion_plain, read_plain}

placed_length : (first count : ℕ) (fields : List Field) → length (placed first count fields) ≡ count
unfolding placed
placed_length first zero fields = refl
placed_length first (suc count) fields = let rest = placed_length (suc first) count fields in
    omega arith

with_crc_length : (content : List ℕ) → length content ≡ 4 → length (with_crc content) ≡ 6
unfolding with_crc
with_crc_length content four =
    omega (arith, length-append content (crc16_of content), length-crc16_of content)

ack_length : (n : ℕ) → length (ack_bytes n) ≡ 6
unfolding ack_bytes
ack_length n = with_crc_length _ (placed_length 0 4 (ack_fields n))

credit_length : (fc : Fc) → length (credit_bytes fc) ≡ 6
unfolding credit_bytes
credit_length fc = with_crc_length _ (placed_length 0 4 (credit_fields fc))

dllp_lawful : (time : ℕ) (dir : Dir) (bytes : List ℕ) → length bytes ≡ 6 → time < 2 ^ 64
    → IsLawfulIn 1 (dllp time dir bytes)
dllp_lawful time dir bytes size lt =
    record {
      lawful = record {
        tlp = λ e. absurd (let f = e in cc);
        dllp = λ e. (size, refl);
        link_down = λ e. absurd (let f = e in cc);
        gap = λ e. absurd (let f = e in cc);
        time = lt;
      };
      allowed = λ e. absurd (let f = e in cc);
    }

framed_length : (number : ℕ) (bytes : List ℕ) → length (framed number bytes) ≡ 6 + length bytes
unfolding framed
framed_length number bytes =
    let all = length-append (big_bytes 2 number
    ++ bytes) (crc32_of (big_bytes 2 number ++ bytes)) in
    let crc = length-crc32_of (big_bytes 2 number ++ bytes) in
    omega arith

header_length : (x : Fields) → IsPlain x → length (header_bytes x) ≡ 12
header_length x plain = rw plain.wide (placed_length 0 12 _)

tlp_length : (x : Fields) → IsPlain x → length (tlp_bytes x) ≡ 12 + length x.payload
unfolding tlp_bytes
tlp_length x plain =
    let prefixes : length x.prefixes ≡ 0 = ap length plain.prefixes in
    let digest : length (digest_bytes x.digest) ≡ 0 = rw plain.digest refl in
    let header = header_length x plain in
    let a = length-append x.prefixes (header_bytes x) in
    let b = length-append (x.prefixes ++ header_bytes x) x.payload in
    let c = length-append (x.prefixes ++ header_bytes x ++ x.payload) (digest_bytes x.digest) in
    omega arith

tlp_lawful : (time : ℕ) (dir : Dir) (number : ℕ) (x : Fields) → IsPlain x → time < 2 ^ 64
    → IsLawfulIn 1 (tlp time dir number x)
tlp_lawful time dir number x plain lt =
    let whole = framed_length number (tlp_bytes x) in
    let size = tlp_length x plain in
    let payload = plain.payload in
    record {
      lawful = record {
        tlp = λ e. (omega arith, omega arith);
        dllp = λ e. absurd (let f = e in cc);
        link_down = λ e. absurd (let f = e in cc);
        gap = λ e. absurd (let f = e in cc);
        time = lt;
      };
      allowed = λ e. absurd (let f = e in cc);
    }

all_append : (xs ys : List Entry) → AllByRecursion (IsLawfulIn 1) xs → AllByRecursion (IsLawfulIn 1) ys
    → AllByRecursion (IsLawfulIn 1) (xs ++ ys)
all_append [] ys a b = b
all_append (x ∷ xs) ys a b = (a.0, all_append xs ys a.1 b)

bring_up_lawful : (stage : Stage) (first : ℕ) → first ≤ 7
    → AllByRecursion (IsLawfulIn 1) (bring_up stage first)
bring_up_lawful stage first le = (
  dllp_lawful _ _ _ (credit_length _) (omega arith),
  (
    dllp_lawful _ _ _ (credit_length _) (omega arith),
    (
      dllp_lawful _ _ _ (credit_length _) (omega arith),
      (
        dllp_lawful _ _ _ (credit_length _) (omega arith),
        (
          dllp_lawful _ _ _ (credit_length _) (omega arith),
          (dllp_lawful _ _ _ (credit_length _) (omega arith), tt),
        ),
      ),
    ),
  ),
)

lengths_drawn : (x : ℕ) → ((drawn x).before ≤ 16) × ((drawn x).behind ≤ 16)
unfolding drawn
lengths_drawn x = (omega arith, omega arith)

round_lawful : (k x : ℕ) → k < 1000000 → AllByRecursion (IsLawfulIn 1) (round k x)
unfolding round
round_lawful k x lt =
    let most = lengths_drawn x in (
      tlp_lawful _ _ _ _ (read_plain k (drawn x)) (omega arith),
      (
        dllp_lawful _ _ _ (ack_length _) (omega arith),
        (
          tlp_lawful _ _ _ _ (completion_plain k _ _ _ most.0) (omega arith),
          (
            tlp_lawful _ _ _ _ (completion_plain k _ _ _ most.1) (omega arith),
            (
              dllp_lawful _ _ _ (ack_length _) (omega arith),
              (dllp_lawful _ _ _ (credit_length _) (omega arith), tt),
            ),
          ),
        ),
      ),
    )

rounds_lawful : (x k n : ℕ) → k + n ≤ 1000000 → AllByRecursion (IsLawfulIn 1) (rounds x k n)
unfolding rounds
rounds_lawful x k zero le = tt
rounds_lawful x k (suc n) le =
    all_append (round k (step x)) (rounds (step x) (suc k) n)
    (round_lawful k (step x) (omega arith)) (rounds_lawful (step x) (suc k) n (omega arith))

pub items_lawful : (number count : ℕ) → count ≤ 1000000
    → AllByRecursion (IsLawfulIn 1) (items number count)
unfolding items
items_lawful number count most =
    all_append (bring_up Init1 1 ++ bring_up Init2 7) (rounds number 0 count)
    (all_append (bring_up Init1 1) (bring_up Init2 7) (bring_up_lawful Init1 1 (omega arith))
    (bring_up_lawful Init2 7 (omega arith)))
    (rounds_lawful number 0 count (omega arith))
