-- What was read of a request when it is known how it begins.
use Rattle.std.specs.Prelude.{ℕ, ◌<◌, ◌≤◌, List, take}
use Rattle.httparse.specs.Grammar.{RequestHead, HasNoRequest, NeverHasRequest, MayBecomeRequest}
use Rattle.httparse.specs.Spans.{IsRequestAt, IsRequestOf, IsRequestWithin}
use Rattle.httparse.specs.declared.spans.HeaderSpan.{HeaderSpan}
use Rattle.pl_head.specs.Front.{head_limit, IsFront, whole, bad, long, short}
use Rattle.pl_head.specs.declared.front.Look.{Look}
use Rattle.pl_head.specs.declared.front.Opening.{Opening}
use Rattle.pl_head.specs.declared.front.Opening.TheVariants.{Whole, Bad, Long, Short}

-- what a look at the bytes so far says of them
abbrev pub Looks : List ℕ → List HeaderSpan → Look → Type 0
Looks bytes fields (Look.Whole head) =
    IsRequestWithin bytes fields head × IsRequestOf bytes fields head
Looks bytes fields Look.Unfinished = HasNoRequest bytes × MayBecomeRequest bytes
Looks bytes fields Look.Bad = NeverHasRequest bytes

-- how many bytes were read
abbrev pub filled_of : Opening → ℕ
filled_of (Whole head filled) = filled
filled_of (Bad filled) = filled
filled_of Long = head_limit
filled_of (Short filled) = filled

-- the bytes that were read are as the answer says
abbrev pub OpeningReads : List ℕ → List HeaderSpan → Opening → Type 0
OpeningReads buf fields (Whole head n) =
    (n ≤ head_limit) × IsRequestWithin (take n buf) fields head
    × IsRequestOf (take n buf) fields head
OpeningReads buf fields (Bad n) = (n ≤ head_limit) × NeverHasRequest (take n buf)
OpeningReads buf fields Long = HasNoRequest (take head_limit buf)
OpeningReads buf fields (Short n) =
    (n < head_limit) × HasNoRequest (take n buf) × MayBecomeRequest (take n buf)

-- all that comes begins as the answer says, a whole head with that of the spans
abbrev pub BeginsAs : List ℕ → List ℕ → List HeaderSpan → Opening → Type 0
BeginsAs text buf fields (Whole head n) =
    (h : RequestHead) → IsRequestAt (take n buf) fields head h → IsFront text (whole h)
BeginsAs text buf fields (Bad n) = IsFront text bad
BeginsAs text buf fields Long = IsFront text long
BeginsAs text buf fields (Short n) = IsFront text short
