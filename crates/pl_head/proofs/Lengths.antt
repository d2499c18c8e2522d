-- How long the parts of a reply's lines are at most.
use Rattle.std.proofs.Common.{◌≤◌, length, arith}
use Rattle.pl_head.specs.Reply.{reason_of, media_type, allow_line}
use Rattle.pl_head.specs.declared.status.Status.{Status}
use Rattle.pl_head.specs.declared.status.Status.TheVariants.{Success, Created, BadRequest, NotFound}
use Rattle.pl_head.specs.declared.status.Status.TheVariants.{MethodNotAllowed, Conflict}
use Rattle.pl_head.specs.declared.status.Status.TheVariants.{LengthRequired, PayloadTooLarge}
use Rattle.pl_head.specs.declared.status.Status.TheVariants.{UnprocessableEntity}
use Rattle.pl_head.specs.declared.status.Status.TheVariants.{InternalServerError}
use Rattle.pl_head.specs.declared.status.Status.TheVariants.{ServiceUnavailable}
use Rattle.pl_head.specs.declared.status.Method.TheVariants.{Get, Put}
use Rattle.pl_head.specs.declared.reply.Media.{Media}
use Rattle.pl_head.specs.declared.reply.Media.TheVariants.{Json, Capture}

pub reason_most : (s : Status) → length (reason_of s) ≤ 31
unfolding reason_of
reason_most Success = omega arith
reason_most Created = omega arith
reason_most BadRequest = omega arith
reason_most NotFound = omega arith
reason_most (MethodNotAllowed method) = omega arith
reason_most Conflict = omega arith
reason_most LengthRequired = omega arith
reason_most PayloadTooLarge = omega arith
reason_most UnprocessableEntity = omega arith
reason_most InternalServerError = omega arith
reason_most ServiceUnavailable = omega arith

pub media_most : (m : Media) → length (media_type m) ≤ 24
media_most Json = omega arith
media_most Capture = omega arith

pub allow_most : (s : Status) → length (allow_line s) ≤ 12
allow_most Success = omega arith
allow_most Created = omega arith
allow_most BadRequest = omega arith
allow_most NotFound = omega arith
allow_most (MethodNotAllowed Get) = omega arith
allow_most (MethodNotAllowed Put) = omega arith
allow_most Conflict = omega arith
allow_most LengthRequired = omega arith
allow_most PayloadTooLarge = omega arith
allow_most UnprocessableEntity = omega arith
allow_most InternalServerError = omega arith
allow_most ServiceUnavailable = omega arith

pub ruleset lengths = (reason_most, media_most, allow_most)
