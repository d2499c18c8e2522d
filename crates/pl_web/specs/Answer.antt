-- A reply to a request, and the archive after it.
use Rattle.std.specs.Prelude.{◌≡◌, ℕ, List, Option, Some, None}
use Rattle.pl_head.specs.declared.status.Status.{Status}
use Rattle.pl_head.specs.declared.reply.Media.{Media}
use Rattle.pl_head.specs.declared.reply.Media.TheVariants.{Json}
use Rattle.pl_keeper.specs.Archive.{Archive, Capture}
use Rattle.pl_keeper.specs.Listing.{Line, Lists, Ascends}
use Rattle.pl_web.specs.Bodies.{list_body}

-- The body of a reply: these bytes, or the list of these captures of a bench, by key.
pub data Content : Type 0 where
  exactly : List ℕ → Content
  listing : (bench : List ℕ) (captures : List Capture) → Content

-- a list of the captures by key; no bench has two captures of one key, so there is one such list
pub record IsListing (bench : List ℕ) (captures : List Capture) (body : List ℕ) : Type 0 where
  pub lines : List Line
  pub one_each : Lists captures lines
  pub by_key : Ascends lines
  pub printed : body ≡ list_body bench lines

abbrev pub IsContent : Content → List ℕ → Type 0
IsContent (exactly bytes) body = body ≡ bytes
IsContent (listing bench captures) body = IsListing bench captures body

pub record Answer : Type 0 where
  pub status : Status
  pub media : Media
  pub content : Content

-- the reply, or none where the peer ended within its request; and the archive behind it
pub record Outcome : Type 0 where
  pub answer : Option Answer
  pub rows : Archive

-- a reply in JSON
abbrev pub json : Status → List ℕ → Answer
json status body = record { status = status; media = Json; content = exactly body }

-- a reply that leaves the archive as it is
abbrev pub leaves : Archive → Answer → Outcome
leaves a answer = record { answer = Some answer; rows = a }

abbrev pub unanswered : Archive → Outcome
unanswered a = record { answer = None; rows = a }
