-- The replies to requests that are refused before anything is looked up.
use Rattle.std.specs.Prelude.{ℕ, List, codes}
use Rattle.pl_head.specs.declared.status.Status.{Status}
use Rattle.pl_head.specs.declared.status.Status.TheVariants.{BadRequest, NotFound, MethodNotAllowed}
use Rattle.pl_head.specs.declared.status.Status.TheVariants.{LengthRequired, PayloadTooLarge}
use Rattle.pl_web.specs.Bodies.{error_body, limit_body}
use Rattle.pl_web.specs.declared.refusal.Refusal.{Refusal}
use Rattle.pl_web.specs.declared.refusal.Refusal.TheVariants.{Framing, Route, WrongMethod, Name}
use Rattle.pl_web.specs.declared.refusal.Refusal.TheVariants.{NoRule, NoLength, TooLong}

-- the most bytes of a body
abbrev pub longest_body : ℕ
longest_body = 4194304

abbrev pub status_of : Refusal → Status
status_of Framing = BadRequest
status_of Route = NotFound
status_of (WrongMethod method) = MethodNotAllowed method
status_of Name = BadRequest
status_of NoRule = NotFound
status_of NoLength = LengthRequired
status_of TooLong = PayloadTooLarge

abbrev pub body_of : Refusal → List ℕ
body_of Framing = error_body (codes "form")
body_of Route = error_body (codes "route")
body_of (WrongMethod method) = error_body (codes "method")
body_of Name = error_body (codes "name")
body_of NoRule = error_body (codes "rule")
body_of NoLength = error_body (codes "length required")
body_of TooLong = limit_body (codes "limit") longest_body
