-- What a request with a whole head asks for, or why it is refused before anything is looked up.
use Rattle.std.specs.Prelude.{ℕ, ◌≤◌, List, [], get_or, nat_lt, bytes_eq}
use Rattle.std.specs.Prelude.{if◌then◌else◌, Option, Some, None, Result, Ok, Err}
use Rattle.pl_base.specs.declared.rule.Rule.{Rule}
use Rattle.pl_head.specs.Reply.{method_name}
use Rattle.pl_head.specs.declared.form.Form.{Form}
use Rattle.pl_head.specs.declared.form.Form.TheVariants.{Refused as FormRefused, Without, Length}
use Rattle.pl_head.specs.declared.status.Method.{Method}
use Rattle.pl_head.specs.declared.status.Method.TheVariants.{Get, Put}
use Rattle.pl_report.specs.Summary.{named}
use Rattle.pl_web.specs.Names.{is_name}
use Rattle.pl_web.specs.Refusals.{longest_body}
use Rattle.pl_web.specs.Paths.{kind_of, segments_of}
use Rattle.pl_web.specs.declared.routes.Kind.{Kind}
use Rattle.pl_web.specs.declared.routes.Kind.TheVariants.{PutProfile, PutCapture, ListCaptures}
use Rattle.pl_web.specs.declared.routes.Kind.TheVariants.{GetCapture, GetVerdicts, GetHits}
use Rattle.pl_web.specs.declared.refusal.Refusal.{Refusal}
use Rattle.pl_web.specs.declared.refusal.Refusal.TheVariants.{Framing, Route, WrongMethod, Name}
use Rattle.pl_web.specs.declared.refusal.Refusal.TheVariants.{NoRule, NoLength, TooLong}
use Rattle.pl_web.specs.declared.request.Request.{Request}
use Rattle.pl_web.specs.declared.request.Request.TheVariants as code

-- what is asked for: of a bench, a profile, a key or a rule, and with how many bytes
pub data Asked : Type 0 where
  put_profile : (bench profile : List ℕ) (size : ℕ) → Asked
  put_capture : (bench profile key : List ℕ) (size : ℕ) → Asked
  list_captures : (bench : List ℕ) → Asked
  get_capture get_verdicts : (bench key : List ℕ) → Asked
  get_hits : (bench : List ℕ) (rule : Rule) → Asked
  refused : Refusal → Asked

-- the one method of a route
abbrev pub method_of : Kind → Method
method_of PutProfile = Put
method_of PutCapture = Put
method_of ListCaptures = Get
method_of GetCapture = Get
method_of GetVerdicts = Get
method_of GetHits = Get

-- a body has a length within the limit
abbrev pub length_by : Form → Result ℕ Refusal
length_by FormRefused = Err Framing
length_by Without = Err NoLength
length_by (Length n) = if nat_lt longest_body n then Err TooLong else Ok n

abbrev pub with_length : Result ℕ Refusal → (ℕ → Asked) → Asked
with_length (Ok n) asked = asked n
with_length (Err refusal) asked = refused refusal

-- each name is one
abbrev pub with_name : List ℕ → Asked → Asked
with_name text asked = if is_name text then asked else refused Name

-- a rule is one of the 49
abbrev pub with_rule : Option Rule → (Rule → Asked) → Asked
with_rule None asked = refused NoRule
with_rule (Some rule) asked = asked rule

abbrev pub asked_of_kind : (List (List ℕ)) → Form → Kind → Asked
asked_of_kind segments form PutProfile =
    let bench = get_or segments 2 [] in
    let profile = get_or segments 4 [] in
    with_name bench (with_name profile (with_length (length_by form) (put_profile bench profile)))
asked_of_kind segments form PutCapture =
    let bench = get_or segments 2 [] in
    let profile = get_or segments 4 [] in
    let key = get_or segments 6 [] in
    with_name bench (with_name profile (with_name key
    (with_length (length_by form) (put_capture bench profile key))))
asked_of_kind segments form ListCaptures =
    let bench = get_or segments 2 [] in
    with_name bench (list_captures bench)
asked_of_kind segments form GetCapture =
    let bench = get_or segments 2 [] in
    let key = get_or segments 4 [] in
    with_name bench (with_name key (get_capture bench key))
asked_of_kind segments form GetVerdicts =
    let bench = get_or segments 2 [] in
    let key = get_or segments 4 [] in
    with_name bench (with_name key (get_verdicts bench key))
asked_of_kind segments form GetHits =
    let bench = get_or segments 2 [] in
    let rule = get_or segments 4 [] in
    with_name bench (with_rule (named rule) (get_hits bench))

-- the route has the method
abbrev pub asked_of_route : List (List ℕ) → List ℕ → Form → Option Kind → Asked
asked_of_route segments method form None = refused Route
asked_of_route segments method form (Some kind) =
    if bytes_eq method (method_name (method_of kind)) then asked_of_kind segments form kind
    else refused (WrongMethod (method_of kind))

-- The first that applies: the fields of the head frame no body; the path has no route; the route
-- has another method; a name isn't one; a rule isn't one; a body has no length, or is too long.
abbrev pub asked_by : List ℕ → List ℕ → Form → Asked
asked_by method target FormRefused = refused Framing
asked_by method target Without =
    asked_of_route (segments_of target) method Without (kind_of (segments_of target))
asked_by method target (Length n) =
    asked_of_route (segments_of target) method (Length n) (kind_of (segments_of target))

-- what the code has read
abbrev pub asked_in : Result Request Refusal → Asked
asked_in (Ok (code.PutProfile bench profile size)) = put_profile bench.now profile.now size
asked_in (Ok (code.PutCapture bench profile key size)) =
    put_capture bench.now profile.now key.now size
asked_in (Ok (code.ListCaptures bench)) = list_captures bench.now
asked_in (Ok (code.GetCapture bench key)) = get_capture bench.now key.now
asked_in (Ok (code.GetVerdicts bench key)) = get_verdicts bench.now key.now
asked_in (Ok (code.GetHits bench rule)) = get_hits bench.now rule
asked_in (Err refusal) = refused refusal

-- its body is no longer than one may be
abbrev pub HasShortBody : Request → Type 0
HasShortBody (code.PutProfile bench profile size) = size ≤ longest_body
HasShortBody (code.PutCapture bench profile key size) = size ≤ longest_body
HasShortBody (code.ListCaptures bench) = Unit {0}
HasShortBody (code.GetCapture bench key) = Unit {0}
HasShortBody (code.GetVerdicts bench key) = Unit {0}
HasShortBody (code.GetHits bench rule) = Unit {0}
