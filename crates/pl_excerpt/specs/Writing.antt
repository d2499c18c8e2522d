-- What is written behind what a sink had.
use Rattle.std.specs.Prelude.{◌≡◌, ℕ, ◌+◌, List, length, Result, IsOk, OnErr, OnOk, Bool}
use Rattle.pl_io.specs.declared.failed.Failed.{Failed}
use Rattle.pl_io.specs.declared.sink.Sink as sink
use Rattle.pl_io.specs.Faults.{HasCause}
use Rattle.pl_io.specs.Told.{plus, HasRoom, Partly}
use Rattle.pl_capture.specs.Entry.{Entry}
use Rattle.pl_excerpt.specs.Excerpt.{records_of, with_gap}

-- This text was appended. Or the sink failed, which was counted, and a part of it was, for all of
-- which it had no room.
pub record Appends {T O : Type 0} (S : sink.Ghosts O) (result : Result T Failed) (text : List ℕ)
    (old new : O) : Type 0 where
  pub appended : OnOk result (S.written new ≡ plus (S.written old) text)
  pub part : OnErr result (Partly (S.written old) (S.written new) text)
  pub fits : HasRoom (S.room old) (length text) → IsOk result
  pub room_left : OnOk result ((k : ℕ) → HasRoom (S.room old) (length text + k) →
      HasRoom (S.room new) k)
  pub cause : HasCause (S.faults old) (S.faults new) result

-- the records of an item, with a gap before it or without
abbrev pub records_with : Bool → Entry → List ℕ
records_with follows x = records_of (with_gap follows x)
