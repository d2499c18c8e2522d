-- How the bytes of a request begin. It looks at all the bytes that come, whatever way they are cut.
use Rattle.std.specs.Prelude.{ℕ, ◌<◌, ◌≤◌, List, length, take}
use Rattle.httparse.specs.Grammar.{RequestHead, ReadsRequest, HasNoRequest, NeverHasRequest}
use Rattle.httparse.specs.Grammar.{MayBecomeRequest}

-- the most bytes of a head
abbrev pub head_limit : ℕ
head_limit = 16384

-- a whole head, no head, none within the limit, or an end within the head
pub data Front : Type 0 where
  whole : RequestHead → Front
  bad long short : Front

-- a head at the front ends within the limit; or no bytes can follow that make one; or the limit is
-- reached without one; or all that comes is less than that, and more could make one
abbrev pub IsFront : List ℕ → Front → Type 0
IsFront text (whole head) = (rest : List ℕ) × ReadsRequest (take head_limit text) head rest
IsFront text bad = NeverHasRequest (take head_limit text)
IsFront text long = (head_limit ≤ length text) × HasNoRequest (take head_limit text)
IsFront text short = (length text < head_limit) × HasNoRequest text × MayBecomeRequest text
