-- The capture that two numbers make. Two ends bring up virtual channel 0; then in each round the
-- device at the lower end reads memory, and the Root Complex answers with two completions.
use Rattle.std.specs.Prelude.{◌≡◌, ◌<◌, ◌≤◌, ℕ, zero, suc, ◌+◌, ◌-◌, ◌*◌, ◌/◌, ◌%◌, ◌^◌, false}
use Rattle.std.specs.Prelude.{None, List, [], ◌∷◌, ◌++◌, length, replicate}
use Rattle.std.specs.List.{flat_map}
use Rattle.pl_base.specs.declared.link.Class.{Class}
use Rattle.pl_base.specs.declared.link.Class.TheVariants.{P, Np, Cpl}
use Rattle.pl_base.specs.declared.link.Dir.{Dir}
use Rattle.pl_base.specs.declared.link.Dir.TheVariants.{Down, Up}
use Rattle.pl_capture.specs.declared.item.ItemKind.TheVariants.{Tlp, Dllp}
use Rattle.pl_capture.specs.Entry.{Entry}
use Rattle.pl_capture.specs.Record.{header_of, record_of, end_of}
use Rattle.pl_dllp.specs.declared.packet.Fc.{Fc}
use Rattle.pl_dllp.specs.declared.packet.Stage.{Stage}
use Rattle.pl_dllp.specs.declared.packet.Stage.TheVariants.{Init1, Init2, Update}
use Rattle.pl_tlp.specs.declared.kind.Kind.{Kind}
use Rattle.pl_tlp.specs.declared.kind.Kind.TheVariants.{MRd, CplD}
use Rattle.pl_tlp.specs.Fields.{Fields}
use Rattle.pl_make.specs.declared.draw.Draw.{Draw}
use Rattle.pl_make.specs.Packets.{ack_bytes, credit_bytes, tlp_bytes, framed}

-- ---- items

-- an item; its time in picoseconds is its number, counted from 1
abbrev pub dllp : ℕ → Dir → List ℕ → Entry
dllp time dir bytes =
    record { kind = Dllp; dir = dir; bad_end = false; time = time; body = bytes }

abbrev pub tlp : ℕ → Dir → ℕ → Fields → Entry
tlp time dir number x = record {
  kind = Tlp;
  dir = dir;
  bad_end = false;
  time = time;
  body = framed number (tlp_bytes x);
}

-- credits on virtual channel 0, not scaled
abbrev pub credits : Stage → Class → ℕ → ℕ → Fc
credits stage class header units = record {
  stage = stage;
  class = class;
  vc = 0;
  hdr_scale = 0;
  hdr = header;
  data_scale = 0;
  units = units;
}

-- ---- the bring-up

-- Both ends advertise P, NP and Cpl credits; the Root Complex takes any number of completions. The
-- first of the six items has this number.
abbrev pub bring_up : Stage → ℕ → List Entry
bring_up stage first =
    dllp first Down (credit_bytes (credits stage P 32 64))
    ∷ dllp (first + 1) Down (credit_bytes (credits stage Np 32 32))
    ∷ dllp (first + 2) Down (credit_bytes (credits stage Cpl 32 64))
    ∷ dllp (first + 3) Up (credit_bytes (credits stage P 32 64))
    ∷ dllp (first + 4) Up (credit_bytes (credits stage Np 32 32))
    ∷ dllp (first + 5) Up (credit_bytes (credits stage Cpl 0 0))
    ∷ []

-- ---- the rounds

-- the next number of the generator, a linear congruence modulo 2^64
abbrev pub step : ℕ → ℕ
step x = (6364136223846793005 * x + 1442695040888963407) % 2 ^ 64

-- What a round takes from the generator's number x: the lengths in DW of the two parts of its read,
-- and the address in bytes at which the parts meet.
unfoldable pub drawn : ℕ → Draw
drawn x =
    let y = x / 2 ^ 32 in
    let u = y / 256 % 62 in
    let page = y / 16384 % 65536 in
    record {
      before = 1 + y % 16;
      behind = 1 + y / 16 % 16;
      boundary = 4096 * page + 64 * (1 + u);
    }

-- the bounds of these
pub record IsDraw (draw : Draw) : Type 0 where
  pub before : (1 ≤ draw.before) × (draw.before ≤ 16)
  pub behind : (1 ≤ draw.behind) × (draw.behind ≤ 16)
  pub boundary : (64 ≤ draw.boundary) × (draw.boundary < 2 ^ 28)
  pub unit : draw.boundary % 64 ≡ 0

-- where the read begins
abbrev pub start : Draw → ℕ
start draw = draw.boundary - 4 * draw.before

-- a TLP from or to the requester 0100 whose other fields are 0
abbrev pub plain : Kind → ℕ → ℕ → Fields
plain kind length tag = record {
  kind = kind;
  wide = false;
  tc = 0;
  attr = 0;
  at = 0;
  ep = false;
  th = false;
  length = length;
  requester = 0x0100;
  tag = tag;
  first_be = 0;
  last_be = 0;
  address = 0;
  code = 0;
  routing = 0;
  completer = 0;
  status = 0;
  bcm = false;
  byte_count = 0;
  lower = 0;
  prefixes = [];
  payload = [];
  digest = None;
  header = [];
}

-- the read of a round, with all bytes enabled
abbrev pub read : ℕ → Draw → Fields
read k draw = record (plain MRd (draw.before + draw.behind) (k % 256)) {
  first_be = 0xF;
  last_be = 0xF;
  address = start draw;
}

-- a completion of `part` DW from this address on, where `left` DW of the read are to be answered
-- yet
abbrev pub completion : ℕ → ℕ → ℕ → ℕ → Fields
completion k left address part = record (plain CplD part (k % 256)) {
  byte_count = 4 * left;
  lower = address % 128;
  payload = replicate (4 * part) (k % 256);
}

-- the six items of round k, counted from 0: they stand behind twelve items and the rounds before
unfoldable pub round : ℕ → ℕ → List Entry
round k x =
    let draw = drawn x in
    let first = 13 + 6 * k in
    tlp first Up (k % 4096) (read k draw)
    ∷ dllp (first + 1) Down (ack_bytes (k % 4096))
    ∷ tlp (first + 2) Down (2 * k % 4096)
    (completion k (draw.before + draw.behind) (start draw) draw.before)
    ∷ tlp (first + 3) Down ((2 * k + 1) % 4096)
    (completion k draw.behind draw.boundary draw.behind)
    ∷ dllp (first + 4) Up (ack_bytes ((2 * k + 1) % 4096))
    ∷ dllp (first + 5) Down (credit_bytes (credits Update Np ((33 + k) % 256) 32))
    ∷ []

-- this many rounds from round k on, before which the generator stands at x
unfoldable pub rounds : ℕ → ℕ → ℕ → List Entry
rounds x k zero = []
rounds x k (suc more) = round k (step x) ++ rounds (step x) (suc k) more

-- ---- the capture

unfoldable pub items : ℕ → ℕ → List Entry
items number count = bring_up Init1 1 ++ bring_up Init2 7 ++ rounds number 0 count

-- The capture's bytes: the end record's time is 0.
unfoldable pub Gen : ℕ → ℕ → List ℕ
Gen number count =
    header_of 1 0 ++ flat_map record_of (items number count)
    ++ end_of (length (items number count)) 0
