-- What the archive answers to a request, and the archive after it.
use Rattle.std.specs.Prelude.{ℕ, List, length, take, drop, map, codes, nat_lt}
use Rattle.std.specs.Prelude.{if◌then◌else◌, option_map}
use Rattle.httparse.specs.Grammar.{print_request}
use Rattle.httparse.specs.Spans.{name_and_value}
use Rattle.pl_head.specs.Form.{form_of}
use Rattle.pl_head.specs.Front.{Front, whole, bad, long, short, head_limit}
use Rattle.pl_head.specs.declared.status.Status.TheVariants.{BadRequest, PayloadTooLarge}
use Rattle.pl_keeper.specs.Archive.{Archive, capture_at}
use Rattle.pl_keeper.specs.Listing.{found_of}
use Rattle.pl_profile.specs.ProfileOf.{profile_of}
use Rattle.pl_web.specs.Answer.{Outcome, json, leaves, unanswered}
use Rattle.pl_web.specs.Bodies.{error_body, limit_body}
use Rattle.pl_web.specs.Gets.{captures_listed, capture_shown, verdicts_shown}
use Rattle.pl_web.specs.Hits.{hits_shown}
use Rattle.pl_web.specs.Puts.{profile_sent, capture_sent}
use Rattle.pl_web.specs.Refusals.{status_of, body_of}
use Rattle.pl_web.specs.Requests.{Asked, asked_by, put_profile, put_capture, list_captures}
use Rattle.pl_web.specs.Requests.{get_capture, get_verdicts, get_hits, refused}

-- with a body of so many bytes at the front of what follows the head, or none where the peer ends
-- within it
abbrev pub with_body : Archive → List ℕ → ℕ → (List ℕ → Outcome) → Outcome
with_body a rest size reply =
    if nat_lt (length rest) size then unanswered a else reply (take size rest)

-- of what is asked for, with the bytes that follow the head
abbrev pub outcome_of : Archive → List ℕ → Asked → Outcome
outcome_of a rest (put_profile bench name size) = with_body a rest size (λ bytes.
    profile_sent a (record { bench = bench; name = name; bytes = bytes }) (profile_of bytes))
outcome_of a rest (put_capture bench profile key size) = with_body a rest size (λ bytes.
    capture_sent a (record { bench = bench; key = key; profile = profile; bytes = bytes }))
outcome_of a rest (list_captures bench) = captures_listed a bench
outcome_of a rest (get_capture bench key) =
    capture_shown a (option_map found_of (capture_at a bench key))
outcome_of a rest (get_verdicts bench key) =
    verdicts_shown a bench key (option_map found_of (capture_at a bench key))
outcome_of a rest (get_hits bench rule) = hits_shown a bench rule
outcome_of a rest (refused refusal) = leaves a (json (status_of refusal) (body_of refusal))

-- of the whole text of a connection, by how it begins
abbrev pub outcome : Archive → List ℕ → Front → Outcome
outcome a text (whole head) =
    outcome_of a (drop (length (print_request head)) text)
    (asked_by head.method head.target (form_of (map name_and_value head.fields)))
outcome a text bad = leaves a (json BadRequest (error_body (codes "head")))
outcome a text long = leaves a (json PayloadTooLarge (limit_body (codes "limit") head_limit))
outcome a text short = unanswered a
