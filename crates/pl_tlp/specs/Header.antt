-- Where the fields of a header are. A field that a layout doesn't have has no places, and so its
-- value is 0.
use Rattle.std.specs.Prelude.{ℕ, Bool, true, false, List, [], ◌++◌, if◌then◌else◌}
use Rattle.pl_tlp.specs.declared.kind.Layout.{Layout}
use Rattle.pl_tlp.specs.declared.kind.Layout.TheVariants.{Addressed, Configuration, Message}
use Rattle.pl_tlp.specs.declared.kind.Layout.TheVariants.{Completion}
use Rattle.pl_base.specs.Bits.{Place, bits, octets}

-- The first DW, which is the same in every header. Of the Fmt, bit 5 is a header of 4 DW and bit 6
-- data behind it.
abbrev pub wide_bits : List Place
wide_bits = bits 0 5 5

abbrev pub data_bits : List Place
data_bits = bits 0 6 6

abbrev pub tc_bits : List Place
tc_bits = bits 1 6 4

abbrev pub attr_bits : List Place
attr_bits = bits 1 2 2 ++ bits 2 5 4

abbrev pub th_bits : List Place
th_bits = bits 1 0 0

abbrev pub td_bits : List Place
td_bits = bits 2 7 7

abbrev pub ep_bits : List Place
ep_bits = bits 2 6 6

abbrev pub at_bits : List Place
at_bits = bits 2 3 2

abbrev pub length_bits : List Place
length_bits = bits 2 1 0 ++ bits 3 7 0

-- Requests, and the IDs of completions. T9 and T8 are the highest bits of a tag.
abbrev pub requester_bits : Layout → List Place
requester_bits Completion = octets 8 2
requester_bits request = octets 4 2

abbrev pub tag_bits : Layout → List Place
tag_bits Completion = bits 1 7 7 ++ bits 1 3 3 ++ bits 10 7 0
tag_bits request = bits 1 7 7 ++ bits 1 3 3 ++ bits 6 7 0

abbrev pub first_be_bits : Layout → List Place
first_be_bits Addressed = bits 7 3 0
first_be_bits Configuration = bits 7 3 0
first_be_bits other = []

abbrev pub last_be_bits : Layout → List Place
last_be_bits Addressed = bits 7 7 4
last_be_bits Configuration = bits 7 7 4
last_be_bits other = []

-- whether it is the header of a request for memory, I/O or configuration space, or of an AtomicOp,
-- which have an address and byte enables
abbrev pub is_access : Layout → Bool
is_access Addressed = true
is_access Configuration = true
is_access other = false

-- The address, by whether the header has 4 DW: the two lowest bits of a memory or I/O address are
-- taken as 0.
abbrev pub address_bits : Layout → Bool → List Place
address_bits Addressed false = octets 8 3 ++ bits 11 7 2
address_bits Addressed true = octets 8 7 ++ bits 15 7 2
address_bits Completion wide = []
address_bits other wide = if wide then octets 8 8 else octets 8 4

-- what the lowest place of an address is worth
abbrev pub address_unit : Layout → ℕ
address_unit Addressed = 4
address_unit other = 1

-- Messages.
abbrev pub code_bits : Layout → List Place
code_bits Message = bits 7 7 0
code_bits other = []

abbrev pub routing_bits : Layout → List Place
routing_bits Message = bits 0 2 0
routing_bits other = []

-- Completions.
abbrev pub completer_bits : Layout → List Place
completer_bits Completion = octets 4 2
completer_bits other = []

abbrev pub status_bits : Layout → List Place
status_bits Completion = bits 6 7 5
status_bits other = []

abbrev pub bcm_bits : Layout → List Place
bcm_bits Completion = bits 6 4 4
bcm_bits other = []

abbrev pub byte_count_bits : Layout → List Place
byte_count_bits Completion = bits 6 3 0 ++ bits 7 7 0
byte_count_bits other = []

abbrev pub lower_bits : Layout → List Place
lower_bits Completion = bits 11 6 0
lower_bits other = []

-- The places that no field has: LN, the reserved bits, and the two bits below the address of a
-- memory or I/O request. They are not looked at, and written as 0.
abbrev pub spare_bits : Layout → Bool → List Place
spare_bits Addressed wide = bits 1 1 1 ++ (if wide then bits 15 1 0 else bits 11 1 0)
spare_bits Completion wide = bits 1 1 1 ++ bits 11 7 7
spare_bits other wide = bits 1 1 1
