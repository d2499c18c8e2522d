-- The lines that the program writes. Each ends with LF.
use Rattle.std.specs.Prelude.{ℕ, List, [], ◌++◌, Option, Some, None, codes, decimal}
use Rattle.pl_base.specs.declared.link.Body.{Body}
use Rattle.pl_base.specs.declared.link.Body.TheVariants.{Whole, Nullified, Spoiled}
use Rattle.pl_base.specs.declared.link.Dir.{Dir}
use Rattle.pl_base.specs.declared.link.Dir.TheVariants.{Down, Up}
use Rattle.pl_base.specs.Rule.{name_of}
use Rattle.pl_base.specs.Stop.{form_number, malformed_number}
use Rattle.pl_base.specs.declared.stop.Stop.{Stop}
use Rattle.pl_base.specs.declared.stop.Stop.TheVariants.{Malformed, Unsupported, Outstanding}
use Rattle.pl_base.specs.declared.stop.Stop.TheVariants.{Unacknowledged, Memory}
use Rattle.pl_base.specs.declared.verdict.Verdict.{Verdict}
use Rattle.pl_capture.specs.Entry.{Entry}
use Rattle.pl_capture.specs.declared.item.ItemKind.{ItemKind}
use Rattle.pl_capture.specs.declared.item.ItemKind.TheVariants.{Tlp, Dllp, LinkDown, Gap}
use Rattle.pl_engine.specs.Packets.{sequence_number}
use Rattle.pl_engine.specs.State.{state_of}
use Rattle.pl_filter.specs.Answers.{number_of}
use Rattle.pl_filter.specs.Items.{item_name}
use Rattle.pl_filter.specs.Names.{text_of}
use Rattle.pl_filter.specs.declared.error.FilterError.{FilterError}
use Rattle.pl_filter.specs.declared.error.FilterError.TheVariants.{Syntax, TooDeep}
use Rattle.pl_filter.specs.declared.error.FilterError.TheVariants as filter
use Rattle.pl_filter.specs.declared.name.Name.{Name}

-- a cited item: its number, or a dash where none is cited
abbrev pub cited : Option ℕ → List ℕ
cited None = codes "-"
cited (Some item) = decimal item

unfoldable pub verdict_text : Verdict → List ℕ
verdict_text v =
    codes "item " ++ decimal v.at ++ codes " rule " ++ name_of v.rule
    ++ codes " first " ++ cited v.first ++ codes " second " ++ cited v.second ++ codes "\n"

-- a name, where there is one
abbrev pub name_text : Option Name → List ℕ
name_text None = []
name_text (Some name) = text_of name

-- what a TLP carries, by how it arrived: only a whole one has a name
abbrev pub tlp_text : Body → Option Name → List ℕ
tlp_text Whole name = name_text name
tlp_text Nullified name = codes "nullified"
tlp_text Spoiled name = codes "spoiled"

abbrev pub direction_text : Dir → List ℕ
direction_text Down = codes " down"
direction_text Up = codes " up"

-- a packet: its direction, of a TLP its sequence number, and what it carries
abbrev pub packet_text : ItemKind → Entry → List ℕ
packet_text Tlp x =
    direction_text x.dir ++ codes " tlp " ++ decimal (sequence_number x.body)
    ++ codes " " ++ tlp_text (state_of x) (item_name x)
packet_text Dllp x = direction_text x.dir ++ codes " dllp " ++ name_text (item_name x)
packet_text LinkDown x = codes " link down"
packet_text Gap x = codes " gap"

-- an item, with its time in picoseconds
unfoldable pub item_text : ℕ → Entry → List ℕ
item_text number x =
    codes "item " ++ decimal number ++ packet_text x.kind x
    ++ codes " " ++ decimal x.time ++ codes "\n"

-- after a capture that was read to its end
unfoldable pub closing_text : ℕ → ℕ → List ℕ
closing_text items verdicts =
    codes "end items " ++ decimal items ++ codes " verdicts " ++ decimal verdicts ++ codes "\n"

-- after a list of items; the verdicts are those of all items, shown or not
unfoldable pub list_closing_text : ℕ → ℕ → ℕ → List ℕ
list_closing_text items shown verdicts =
    codes "end items " ++ decimal items ++ codes " shown " ++ decimal shown
    ++ codes " verdicts " ++ decimal verdicts ++ codes "\n"

abbrev pub refusal_text : List ℕ → ℕ → ℕ → List ℕ
refusal_text name number item =
    name ++ codes " " ++ decimal number ++ codes " at item " ++ decimal item ++ codes "\n"

-- a refusal in the capture; nothing is written for want of memory
unfoldable pub stop_text : Stop → List ℕ
stop_text (Malformed kind item) = refusal_text (codes "malformed") (malformed_number kind) item
stop_text (Unsupported form item) = refusal_text (codes "unsupported") (form_number form) item
stop_text (Outstanding limit item) = refusal_text (codes "limit outstanding") limit item
stop_text (Unacknowledged limit item) = refusal_text (codes "limit unacknowledged") limit item
stop_text Memory = []

unfoldable pub profile_error_text : ℕ → List ℕ
profile_error_text number = codes "profile error " ++ decimal number ++ codes "\n"

abbrev pub placed_text : ℕ → ℕ → List ℕ
placed_text number at =
    codes "filter error " ++ decimal number ++ codes " at " ++ decimal at ++ codes "\n"

-- a refusal of a filter's text; nothing is written for want of memory
unfoldable pub filter_error_text : FilterError → List ℕ
filter_error_text (Syntax at) = placed_text (number_of (Syntax at)) at
filter_error_text (TooDeep at) = placed_text (number_of (TooDeep at)) at
filter_error_text filter.Memory = []

-- a capture longer than 2^40 bytes
unfoldable pub length_text : List ℕ
length_text = codes "limit length 1099511627776\n"

unfoldable pub read_fault_text : List ℕ
read_fault_text = codes "read fault\n"

unfoldable pub usage_text : List ℕ
usage_text =
    codes "usage: check PROFILE CAPTURE | list PROFILE CAPTURE FILTER"
    ++ codes " | report PROFILE CAPTURE | trial NUMBER COUNT | serve ADDRESS STORE TURNS\n"
