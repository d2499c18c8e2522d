-- The statuses of replies that the request and the rows determine.
use Rattle.std.specs.Prelude.{Bool, true, false}
use Rattle.pl_head.specs.declared.status.Status.{Status}
use Rattle.pl_head.specs.declared.status.Status.TheVariants.{Success, Created, BadRequest, NotFound}
use Rattle.pl_head.specs.declared.status.Status.TheVariants.{MethodNotAllowed, Conflict}
use Rattle.pl_head.specs.declared.status.Status.TheVariants.{LengthRequired, PayloadTooLarge}
use Rattle.pl_head.specs.declared.status.Status.TheVariants.{UnprocessableEntity}
use Rattle.pl_head.specs.declared.status.Status.TheVariants.{InternalServerError}
use Rattle.pl_head.specs.declared.status.Status.TheVariants.{ServiceUnavailable}

-- neither want of memory nor a failed keeper
abbrev pub is_answer : Status → Bool
is_answer Success = true
is_answer Created = true
is_answer BadRequest = true
is_answer NotFound = true
is_answer (MethodNotAllowed method) = true
is_answer Conflict = true
is_answer LengthRequired = true
is_answer PayloadTooLarge = true
is_answer UnprocessableEntity = true
is_answer InternalServerError = false
is_answer ServiceUnavailable = false
