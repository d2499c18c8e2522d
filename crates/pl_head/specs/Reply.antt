-- The bytes of a reply, as RFC 9112 writes them: a status line, the fields, an empty line, the
-- body.
use Rattle.std.specs.Prelude.{ℕ, List, [], ◌++◌, length, codes, decimal, unwrap_or}
use Rattle.http.specs.StatusCode.{reason_phrase}
use Rattle.pl_head.specs.declared.status.Status.{Status}
use Rattle.pl_head.specs.declared.status.Status.TheVariants.{Success, Created, BadRequest, NotFound}
use Rattle.pl_head.specs.declared.status.Status.TheVariants.{MethodNotAllowed, Conflict}
use Rattle.pl_head.specs.declared.status.Status.TheVariants.{LengthRequired, PayloadTooLarge}
use Rattle.pl_head.specs.declared.status.Status.TheVariants.{UnprocessableEntity}
use Rattle.pl_head.specs.declared.status.Status.TheVariants.{InternalServerError}
use Rattle.pl_head.specs.declared.status.Status.TheVariants.{ServiceUnavailable}
use Rattle.pl_head.specs.declared.status.Method.{Method}
use Rattle.pl_head.specs.declared.status.Method.TheVariants.{Get, Put}
use Rattle.pl_head.specs.declared.reply.Media.{Media}
use Rattle.pl_head.specs.declared.reply.Media.TheVariants.{Json, Capture}

abbrev pub code_of : Status → ℕ
code_of Success = 200
code_of Created = 201
code_of BadRequest = 400
code_of NotFound = 404
code_of (MethodNotAllowed method) = 405
code_of Conflict = 409
code_of LengthRequired = 411
code_of PayloadTooLarge = 413
code_of UnprocessableEntity = 422
code_of InternalServerError = 500
code_of ServiceUnavailable = 503

-- the canonical phrase of its number
unfoldable pub reason_of : Status → List ℕ
reason_of status = unwrap_or (reason_phrase (code_of status)) []

abbrev pub method_name : Method → List ℕ
method_name Get = codes "GET"
method_name Put = codes "PUT"

-- the field that names the method of the route, where another was asked for
abbrev pub allow_line : Status → List ℕ
allow_line (MethodNotAllowed method) = codes "Allow: " ++ method_name method ++ codes "\r\n"
allow_line other = []

abbrev pub media_type : Media → List ℕ
media_type Json = codes "application/json"
media_type Capture = codes "application/octet-stream"

-- all before a body of so many bytes
unfoldable pub heading : Status → Media → ℕ → List ℕ
heading status media size =
    codes "HTTP/1.1 " ++ decimal (code_of status) ++ codes " " ++ reason_of status
    ++ codes "\r\nContent-Type: " ++ media_type media
    ++ codes "\r\nContent-Length: " ++ decimal size ++ codes "\r\n"
    ++ allow_line status
    ++ codes "Connection: close\r\n\r\n"

-- the whole reply
abbrev pub reply_bytes : Status → Media → List ℕ → List ℕ
reply_bytes status media body = heading status media (length body) ++ body
