-- What was sent was appended, and fits into the room that was told.
use Rattle.std.proofs.Common.{◌≡◌, List, ℕ, [], Bool, true, false, append-nil, ap, sym, refl, ◌∙◌}
use Rattle.std.proofs.Common.{subst, length, arith, ◌<◌}
use Rattle.std.specs.Prelude.{Option, Some, None, IsSome}
use Rattle.pl_io.specs.Told.{plus, HasRoom}
use Rattle.pl_head.specs.Reply.{code_of}
use Rattle.pl_head.specs.declared.status.Status.{Status}
use Rattle.pl_head.specs.declared.status.Status.TheVariants.{Success, Created, BadRequest, NotFound}
use Rattle.pl_head.specs.declared.status.Status.TheVariants.{MethodNotAllowed, Conflict}
use Rattle.pl_head.specs.declared.status.Status.TheVariants.{LengthRequired, PayloadTooLarge}
use Rattle.pl_head.specs.declared.status.Status.TheVariants.{UnprocessableEntity}
use Rattle.pl_head.specs.declared.status.Status.TheVariants.{InternalServerError}
use Rattle.pl_head.specs.declared.status.Status.TheVariants.{ServiceUnavailable}
use Rattle.pl_web.specs.Served.{Grew, IsSent, Sends}

plus_nothing : (told : Option (List ℕ)) → told ≡ plus told []
plus_nothing None = refl
plus_nothing (Some bytes) = ap Some (sym (append-nil bytes))

pub grew_none : (old new : Option (List ℕ)) → new ≡ old → Grew old new
grew_none old new same = ([], same ∙ plus_nothing old)

pub grew_sent : (sent : Bool) (old new : Option (List ℕ)) (text : List ℕ)
    → IsSent sent old new text → Grew old new
grew_sent true old new text is = (text, is)
grew_sent false old new text is = (is.part, is.written)

pub grew_from : (old mid new : Option (List ℕ)) → mid ≡ old → Grew mid new → Grew old new
grew_from old mid new same grew = subst (λ told. Grew told new) same grew

-- the room that was told is still there
pub room_left : (old mid : Option ℕ) (size : ℕ) → (IsSome old → mid ≡ old) → HasRoom old size
    → HasRoom mid size
room_left None mid size kept has = absurd has
room_left (Some room) mid size kept has =
    subst (λ told. HasRoom told size) (sym (kept refl)) has

-- so what was sent then is what the call sends
pub sends_from : (room_old room_mid : Option ℕ) (old mid new : Option (List ℕ)) (sent : Bool)
    (text : List ℕ) → (IsSome room_old → room_mid ≡ room_old) → mid ≡ old
    → Sends room_mid mid new sent text → Sends room_old old new sent text
sends_from room_old room_mid old mid new sent text kept same sends = record {
  bytes = subst (λ told. IsSent sent told new text) same sends.bytes;
  fits = λ has. sends.fits (room_left room_old room_mid (length text) kept has);
}

-- a status has three digits
pub code_small : (status : Status) → code_of status < 1000
code_small Success = omega arith
code_small Created = omega arith
code_small BadRequest = omega arith
code_small NotFound = omega arith
code_small (MethodNotAllowed method) = omega arith
code_small Conflict = omega arith
code_small LengthRequired = omega arith
code_small PayloadTooLarge = omega arith
code_small UnprocessableEntity = omega arith
code_small InternalServerError = omega arith
code_small ServiceUnavailable = omega arith

pub ruleset grows = (grew_none, grew_sent, grew_from)

pub ruleset sends = (grew_none, grew_sent, grew_from, code_small)
