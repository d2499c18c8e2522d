-- What serving one link of a door did.
use Rattle.std.specs.Prelude.{◌≡◌, ◌≢◌, ℕ, ◌<◌, List, [], ◌++◌, length, Bool, true, false, Option}
use Rattle.std.specs.Prelude.{Some, if◌then◌else◌}
use Rattle.pl_head.specs.Front.{Front, IsFront}
use Rattle.pl_head.specs.Reply.{code_of, reply_bytes}
use Rattle.pl_head.specs.declared.status.Status.{Status}
use Rattle.pl_head.specs.declared.reply.Media.{Media}
use Rattle.pl_io.specs.Faults.{Rose}
use Rattle.pl_io.specs.Links.{Coming, Closed}
use Rattle.pl_keeper.specs.Archive.{Archive}
use Rattle.pl_web.specs.Answers.{SaysSome}
use Rattle.pl_web.specs.Outcome.{outcome}
use Rattle.pl_web.specs.Served.{EndsEarly, memory_reply, store_reply}
use Rattle.pl_web.specs.declared.serve.Served.{Served}

-- the status of the reply, or 0 where none was sent whole
abbrev pub line_of : Served → ℕ
line_of served = if served.sent then served.status else 0

-- a text was written whole, or, only where it is longer than the room, a proper prefix of it
abbrev pub Fills : ℕ → Bool → List ℕ → List ℕ → Type 0
Fills room true written text = written ≡ text
Fills room false written text =
    (room < length text) × (missing : List ℕ) × (missing ≢ []) × (written ++ missing ≡ text)

-- Over an archive, one of these: the link was answered from the request and the rows; its peer
-- ended within the request; a call of the keeper failed; memory was wanting.
pub data Turn (link : Coming) (a after : Archive) (before now : ℕ) (written : List ℕ)
    (served : Served) : Type 0 where
  answered : (front : Front) (status : Status) (media : Media) (body : List ℕ)
      → IsFront link.incoming front
      → SaysSome (outcome a link.incoming front).answer status media body
      → after ≡ (outcome a link.incoming front).rows
      → served.status ≡ code_of status
      → Fills link.room served.sent written (reply_bytes status media body)
      → Turn link a after before now written served
  ended : EndsEarly link.incoming a → after ≡ a → written ≡ []
      → served.status ≡ 0 → served.sent ≡ false
      → Turn link a after before now written served
  failed : Rose before now → after ≡ a → served.status ≡ 503
      → Fills link.room served.sent written store_reply
      → Turn link a after before now written served
  wanting : after ≡ a → served.status ≡ 500
      → Fills link.room served.sent written memory_reply
      → Turn link a after before now written served

-- the keeper tells the rows behind it
pub record Turned (link : Coming) (a : Archive) (Tells : Archive → Type 0) (before now : ℕ)
    (written : List ℕ) (served : Served) : Type 0 where
  pub after : Archive
  pub turn : Turn link a after before now written served
  pub rows : Tells after

-- A link was served: the door's replies have what it had written, and over each archive that the
-- keeper told the turn is as it should be, where the keeper lives.
pub record Serves (link : Coming) (Lives : Type 0) (Told Tells : Archive → Type 0)
    (before now : ℕ) (old new : Option (List (List ℕ))) (served : Served) : Type 0 where
  pub written : List ℕ
  pub closed : Closed old (Some written) new
  pub turned : Lives → (a : Archive) → Told a → Turned link a Tells before now written served
