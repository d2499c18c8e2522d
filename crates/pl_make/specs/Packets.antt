-- The bytes of a packet from its fields, by the tables of fields that the packets are read by.
-- PCI Express Base Specification 5.0, chapter 2 (TLP headers) and chapter 3 (framing, DLLP formats,
-- CRCs).
use Rattle.std.specs.Prelude.{◌≡◌, ◌⊎◌, ◌≤◌, ℕ, ◌/◌, ◌%◌, false, None, List, [], ◌∷◌, ◌++◌, length}
use Rattle.std.specs.Prelude.{is_some, if◌then◌else◌}
use Rattle.std.specs.Int.{from_bool}
use Rattle.byteorder.specs.Endian.{big_bytes}
use Rattle.pl_base.specs.Bits.{bits}
use Rattle.pl_crc.specs.Remainder.{crc16_of, crc32_of}
use Rattle.pl_dllp.specs.declared.packet.Fc.{Fc}
use Rattle.pl_dllp.specs.Frame as dllp
use Rattle.pl_dllp.specs.Types.{flow_code}
use Rattle.pl_tlp.specs.declared.kind.Kind.TheVariants.{MRd, CplD}
use Rattle.pl_tlp.specs.Encoding.{digest_bytes}
use Rattle.pl_tlp.specs.Fields.{Fields}
use Rattle.pl_tlp.specs.Header as tlp
use Rattle.pl_tlp.specs.Kinds.{fmt_of, layout_of, type_of}
use Rattle.pl_make.specs.Placed.{Field, field, placed}

-- ---- DLLPs

-- four bytes and their CRC
unfoldable pub with_crc : List ℕ → List ℕ
with_crc content = content ++ crc16_of content

-- the fields of an Ack: its type is byte 0, and its reserved bits are 0
abbrev pub ack_fields : ℕ → List Field
ack_fields number =
    field (bits 0 7 0) 0x00 ∷ field dllp.number_bits number ∷ field dllp.reserved_bits 0 ∷ []

-- the six bytes of an Ack
unfoldable pub ack_bytes : ℕ → List ℕ
ack_bytes number = with_crc (placed 0 4 (ack_fields number))

-- the fields of a flow-control DLLP: its type is bits 7:3 of byte 0
abbrev pub credit_fields : Fc → List Field
credit_fields fc =
    field (bits 0 7 3) (flow_code fc.stage fc.class / 8)
    ∷ field dllp.vc_bits fc.vc
    ∷ field dllp.hdr_scale_bits fc.hdr_scale
    ∷ field dllp.hdr_bits fc.hdr
    ∷ field dllp.data_scale_bits fc.data_scale
    ∷ field dllp.units_bits fc.units
    ∷ []

-- the six bytes of a flow-control DLLP
unfoldable pub credit_bytes : Fc → List ℕ
credit_bytes fc = with_crc (placed 0 4 (credit_fields fc))

-- ---- TLPs

-- The fields of a header that isn't a message's. In a field that counts, the largest number is 0;
-- the lowest place of an address is worth 4 bytes; the spare bits are 0.
abbrev pub header_fields : Fields → List Field
header_fields x =
    let layout = layout_of x.kind in
    field (bits 0 7 5) (fmt_of x.kind x.wide)
    ∷ field (bits 0 4 0) (type_of x.kind)
    ∷ field tlp.tc_bits x.tc
    ∷ field tlp.attr_bits x.attr
    ∷ field tlp.th_bits (from_bool x.th)
    ∷ field tlp.td_bits (from_bool (is_some x.digest))
    ∷ field tlp.ep_bits (from_bool x.ep)
    ∷ field tlp.at_bits x.at
    ∷ field tlp.length_bits (x.length % 1024)
    ∷ field (tlp.requester_bits layout) x.requester
    ∷ field (tlp.tag_bits layout) x.tag
    ∷ field (tlp.first_be_bits layout) x.first_be
    ∷ field (tlp.last_be_bits layout) x.last_be
    ∷ field (tlp.address_bits layout x.wide) (x.address / tlp.address_unit layout)
    ∷ field (tlp.completer_bits layout) x.completer
    ∷ field (tlp.status_bits layout) x.status
    ∷ field (tlp.bcm_bits layout) (from_bool x.bcm)
    ∷ field (tlp.byte_count_bits layout) (x.byte_count % 4096)
    ∷ field (tlp.lower_bits layout) x.lower
    ∷ field (tlp.spare_bits layout x.wide) 0
    ∷ []

abbrev pub header_bytes : Fields → List ℕ
header_bytes x = placed 0 (if x.wide then 16 else 12) (header_fields x)

-- the bytes of a TLP that isn't a message
unfoldable pub tlp_bytes : Fields → List ℕ
tlp_bytes x = x.prefixes ++ header_bytes x ++ x.payload ++ digest_bytes x.digest

-- a memory read or a completion with at most 16 DW of data, a header of 3 DW and nothing else
pub record IsPlain (x : Fields) : Type 0 where
  pub kind : (x.kind ≡ MRd) ⊎ (x.kind ≡ CplD)
  pub wide : x.wide ≡ false
  pub prefixes : x.prefixes ≡ []
  pub payload : length x.payload ≤ 64
  pub digest : x.digest ≡ None

-- a TLP as the data link layer sends it: its sequence number before it, the LCRC of both behind it
unfoldable pub framed : ℕ → List ℕ → List ℕ
framed number tlp = big_bytes 2 number ++ tlp ++ crc32_of (big_bytes 2 number ++ tlp)
