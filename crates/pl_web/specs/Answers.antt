-- The reply of a call that answers a request, and what the keeper tells after it.
use Rattle.std.specs.Prelude.{◌≡◌, ℕ, List, Option, Some, None, Result, Ok, Err}
use Rattle.std.specs.Prelude.{Vec}
use Rattle.std.specs.declared.alloc.Global.{Global}
use Rattle.pl_head.specs.Front.{Front, IsFront}
use Rattle.pl_head.specs.declared.status.Status.{Status}
use Rattle.pl_head.specs.declared.reply.Media.{Media}
use Rattle.pl_keeper.specs.Archive.{Archive}
use Rattle.pl_keeper.specs.declared.error.KeepError.{KeepError}
use Rattle.pl_keeper.specs.declared.error.KeepError.TheVariants.{Failed as KeeperFailed}
use Rattle.pl_keeper.specs.declared.error.KeepError.TheVariants.{Memory as KeeperMemory}
use Rattle.pl_web.specs.Answer.{Answer, Outcome, IsContent, json}
use Rattle.pl_web.specs.Outcome.{outcome}
use Rattle.pl_web.specs.declared.reply.Reply.{Reply}
use Rattle.pl_web.specs.declared.ended.Ended.{Ended}
use Rattle.pl_web.specs.declared.ended.Ended.TheVariants.{Gone, Lost, Store, Memory}

-- it is this answer
abbrev pub Says : Answer → Status → Media → List ℕ → Type 0
Says answer status media body =
    (status ≡ answer.status) × (media ≡ answer.media) × IsContent answer.content body

-- there is an answer, and it is this one
abbrev pub SaysSome : Option Answer → Status → Media → List ℕ → Type 0
SaysSome None status media body = ⊥
SaysSome (Some answer) status media body = Says answer status media body

abbrev pub IsAnswer : Answer → Reply → Type 0
IsAnswer answer reply = Says answer reply.status reply.media reply.body.items

-- this answer, or want of memory
abbrev pub AnswersWith : Answer → Result Reply Ended → Type 0
AnswersWith answer (Ok reply) = IsAnswer answer reply
AnswersWith answer (Err ended) = ended ≡ Memory

-- this answer in JSON with a body that was made, or want of memory for it
abbrev pub AnswersJson : {E : Type 0} → Status → Result (Vec ℕ Global) E → Result Reply Ended
    → Type 0
AnswersJson status (Ok body) (Ok reply) = IsAnswer (json status body.items) reply
AnswersJson status (Ok body) (Err ended) = ⊥
AnswersJson status (Err e) (Ok reply) = ⊥
AnswersJson status (Err e) (Err ended) = ended ≡ Memory

-- Of an archive, and of what the keeper tells afterwards: the reply is that of the outcome and so
-- are the rows, or the peer ended where the outcome has no reply, or there is none for another
-- cause and the rows are as before.
abbrev pub Answers : Outcome → Archive → (Archive → Type 0) → Result Reply Ended → Type 0
Answers o a Tells (Ok reply) =
    SaysSome o.answer reply.status reply.media reply.body.items × Tells o.rows
Answers o a Tells (Err Gone) = (o.answer ≡ None) × Tells a
Answers o a Tells (Err Lost) = Tells a
Answers o a Tells (Err Store) = Tells a
Answers o a Tells (Err Memory) = Tells a

-- the same of the whole text of a connection, however it begins
abbrev pub AnswersText : List ℕ → Archive → (Archive → Type 0) → Result Reply Ended → Type 0
AnswersText text a Tells (Ok reply) =
    (front : Front) × IsFront text front × Answers (outcome a text front) a Tells (Ok reply)
AnswersText text a Tells (Err Gone) =
    (front : Front) × IsFront text front × Answers (outcome a text front) a Tells (Err Gone)
AnswersText text a Tells (Err Lost) = Tells a
AnswersText text a Tells (Err Store) = Tells a
AnswersText text a Tells (Err Memory) = Tells a

-- why a keeper has no answer
abbrev pub ended_of : KeepError → Ended
ended_of KeeperFailed = Store
ended_of KeeperMemory = Memory
