-- Bytes that are gathered before they are written.
use Rattle.std.specs.Prelude.{◌≡◌, ℕ, ◌+◌, List, ◌++◌, length, Option, Result, Ok, Err}
use Rattle.pl_io.specs.declared.failed.Failed.{Failed}
use Rattle.pl_io.specs.declared.sink.Sink as sink
use Rattle.pl_io.specs.Told.{plus, HasRoom, Partly}

-- What a sink tells of itself at a moment.
pub record Tells : Type 0 where
  pub written : Option (List ℕ)
  pub room : Option ℕ

abbrev pub tells : {O : Type 0} → sink.Ghosts O → O → Tells
tells T out = record { written = T.written out; room = T.room out }

-- These bytes came behind those that were held: so many were sent, and the others are held now.
pub record Gathers (held held' bytes : List ℕ) (old new : Tells) : Type 0 where
  pub sent : List ℕ
  pub written : new.written ≡ plus old.written sent
  pub in_order : sent ++ held' ≡ held ++ bytes
  pub room_left : (k : ℕ) → HasRoom old.room (length (held ++ bytes) + k) →
      HasRoom new.room (length held' + k)

-- Or the sink failed within this text, for which it had no room.
pub record Fails (text : List ℕ) (old new : Tells) : Type 0 where
  pub part : Partly old.written new.written text
  pub no_room : HasRoom old.room (length text) → ⊥

abbrev pub AreGathered : {T : Type 0} → Result T Failed → List ℕ → List ℕ → List ℕ →
    Tells → Tells → Type 0
AreGathered (Ok value) held held' bytes old new = Gathers held held' bytes old new
AreGathered (Err failed) held held' bytes old new = Fails (held ++ bytes) old new
