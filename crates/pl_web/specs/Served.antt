-- What serving one request did.
use Rattle.std.specs.Prelude.{◌≡◌, ℕ, List, length, Bool, true, false, Option, None, codes}
use Rattle.pl_head.specs.Front.{Front, IsFront}
use Rattle.pl_head.specs.Reply.{code_of, reply_bytes}
use Rattle.pl_head.specs.declared.status.Status.{Status}
use Rattle.pl_head.specs.declared.status.Status.TheVariants.{InternalServerError}
use Rattle.pl_head.specs.declared.status.Status.TheVariants.{ServiceUnavailable}
use Rattle.pl_head.specs.declared.reply.Media.{Media}
use Rattle.pl_head.specs.declared.reply.Media.TheVariants.{Json}
use Rattle.pl_io.specs.CutShort.{CutShort}
use Rattle.pl_io.specs.Told.{plus, HasRoom}
use Rattle.pl_keeper.specs.Archive.{Archive}
use Rattle.pl_web.specs.Answers.{SaysSome}
use Rattle.pl_web.specs.Outcome.{outcome}
use Rattle.pl_web.specs.declared.serve.Served.{Served}

-- the text was written, or a proper prefix of it
abbrev pub IsSent : Bool → Option (List ℕ) → Option (List ℕ) → List ℕ → Type 0
IsSent true old new text = new ≡ plus old text
IsSent false old new text = CutShort old new text

-- and all of it where the room was told and long enough
pub record Sends (room : Option ℕ) (old new : Option (List ℕ)) (sent : Bool) (text : List ℕ)
    : Type 0 where
  pub bytes : IsSent sent old new text
  pub fits : HasRoom room (length text) → sent ≡ true

-- some bytes were appended, or none
abbrev pub Grew : Option (List ℕ) → Option (List ℕ) → Type 0
Grew old new = (part : List ℕ) × (new ≡ plus old part)

-- the reply and the rows are those of the outcome of the text that came
pub record Replies (text : List ℕ) (a : Archive) (Tells : Archive → Type 0) (room : Option ℕ)
    (old new : Option (List ℕ)) (served : Served) : Type 0 where
  pub front : Front
  pub begins : IsFront text front
  pub status : Status
  pub media : Media
  pub body : List ℕ
  pub is : SaysSome (outcome a text front).answer status media body
  pub code : served.status ≡ code_of status
  pub sends : Sends room old new served.sent (reply_bytes status media body)
  pub rows : Tells (outcome a text front).rows

-- the peer ended within its request
pub record EndsEarly (text : List ℕ) (a : Archive) : Type 0 where
  pub front : Front
  pub begins : IsFront text front
  pub none : (outcome a text front).answer ≡ None

-- the two replies that are constants
abbrev pub memory_reply : List ℕ
memory_reply = reply_bytes InternalServerError Json (codes "{\"error\":\"memory\"}")

abbrev pub store_reply : List ℕ
store_reply = reply_bytes ServiceUnavailable Json (codes "{\"error\":\"store\"}")
