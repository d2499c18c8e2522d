-- What is answered to the text of a connection, by how it begins.
use Rattle.std.proofs.Common.{◌≡◌, ℕ, ◌≤◌, List, ◌++◌, length, take, drop, map, refl, sym, subst, ap}
use Rattle.std.proofs.Common.{◌∙◌}
use Rattle.std.specs.Prelude.{Option, Some, None, Result, Ok, Err, IfOk, Vec}
use Rattle.std.specs.declared.alloc.Global.{Global}
use Rattle.std.proofs.lemmas.List.{drop-append-le}
use Rattle.httparse.specs.Grammar.{RequestHead, print_request}
use Rattle.httparse.specs.Spans.{IsRequestAt, span_bytes, header_bytes, name_and_value}
use Rattle.httparse.specs.declared.spans.HeaderSpan.{HeaderSpan}
use Rattle.httparse.specs.declared.spans.RequestSpans.{RequestSpans}
use Rattle.pl_io.specs.Told.{ahead}
use Rattle.pl_head.specs.Form.{form_of}
use Rattle.pl_head.specs.Front.{Front, IsFront}
use Rattle.pl_head.specs.declared.form.Form.{Form}
use Rattle.pl_head.specs.declared.status.Status.{Status}
use Rattle.pl_keeper.specs.Archive.{Archive}
use Rattle.pl_web.specs.Answer.{json, leaves}
use Rattle.pl_web.specs.Answers.{Answers, AnswersJson, AnswersText, IsAnswer}
use Rattle.pl_web.specs.Outcome.{outcome, outcome_of}
use Rattle.pl_web.specs.Requests.{asked_by}
use Rattle.pl_web.specs.declared.reply.Reply.{Reply}
use Rattle.pl_web.specs.declared.ended.Ended.{Ended}
use Rattle.pl_web.specs.declared.ended.Ended.TheVariants.{Gone, Lost, Store, Memory}

pub answers_text : (text : List ℕ) (a : Archive) (Tells : Archive → Type 0) (front : Front)
    (result : Result Reply Ended)
    → IsFront text front → Answers (outcome a text front) a Tells result
    → AnswersText text a Tells result
answers_text text a Tells front (Ok reply) is answers = (front, is, answers)
answers_text text a Tells front (Err Gone) is answers = (front, is, answers)
answers_text text a Tells front (Err Lost) is answers = answers
answers_text text a Tells front (Err Store) is answers = answers
answers_text text a Tells front (Err Memory) is answers = answers

-- a reply in JSON that leaves the archive, with a body that was made
pub json_said : {E : Type 0} (a : Archive) (status : Status) (text : List ℕ)
    (Tells : Archive → Type 0) (body : Result (Vec ℕ Global) E) (result : Result Reply Ended)
    → IfOk body (λ b. b.items ≡ text) → AnswersJson status body result → Tells a
    → Answers (leaves a (json status text)) a Tells result
json_said a status text Tells (Ok body) (Ok reply) made says rows =
    (subst (λ t. IsAnswer (json status t) reply) made says, rows)
json_said a status text Tells (Ok body) (Err e) made says rows = absurd says
json_said a status text Tells (Err none) (Ok reply) made says rows = absurd says
json_said a status text Tells (Err none) (Err Memory) made says rows = rows
json_said a status text Tells (Err none) (Err Gone) made says rows = cc
json_said a status text Tells (Err none) (Err Lost) made says rows = cc
json_said a status text Tells (Err none) (Err Store) made says rows = cc

-- what is asked for is that of the head whose parts the spans cover, with what follows it
pub at_head : (a : Archive) (text rest method target have : List ℕ) (fields : List HeaderSpan)
    (head : RequestSpans) (h : RequestHead) (form : Form)
    → IsRequestAt text fields head h → head.len ≤ length text
    → method ≡ span_bytes text head.method → target ≡ span_bytes text head.path
    → have ≡ drop head.len text
    → form ≡ form_of (map (header_bytes text) (take head.headers fields))
    → outcome_of a (have ++ rest) (asked_by method target form)
    ≡ outcome_of a (drop (length (print_request h)) (text ++ rest))
    (asked_by h.method h.target (form_of (map name_and_value h.fields)))
at_head a text rest method target have fields head h form at fits method_is target_is have_is
    form_is =
    let behind : have ++ rest ≡ drop (length (print_request h)) (text ++ rest) =
    ap (λ t. t ++ rest) have_is ∙ sym (drop-append-le head.len text rest fits)
    ∙ ap (λ n. drop n (text ++ rest)) at.len in
    let framed : form ≡ form_of (map name_and_value h.fields) =
    form_is ∙ ap form_of at.fields in
    ap (λ t. outcome_of a t (asked_by method target form)) behind
    ∙ ap (λ m. outcome_of a (drop (length (print_request h)) (text ++ rest))
    (asked_by m target form)) (method_is ∙ at.method)
    ∙ ap (λ t. outcome_of a (drop (length (print_request h)) (text ++ rest))
    (asked_by h.method t form)) (target_is ∙ at.path)
    ∙ ap (λ f. outcome_of a (drop (length (print_request h)) (text ++ rest))
    (asked_by h.method h.target f)) framed

-- all that comes is what was read and what is left
pub split_told : (old new : Option (List ℕ)) (bytes text : List ℕ) → old ≡ Some text
    → old ≡ ahead bytes new → (rest : List ℕ) × (new ≡ Some rest) × (bytes ++ rest ≡ text)
split_told old None bytes text told read = cc
split_told old (Some rest) bytes text told read = (rest, refl, cc)
