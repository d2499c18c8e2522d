use Rattle.std.proofs.Common.{◌++◌, sym, subst, take}
use Rattle.std.specs.Prelude.{codes}
use Rattle.pl_head.specs.Front.{whole, long, head_limit}
use Rattle.pl_head.specs.Opening.{BeginsAs, OpeningReads, filled_of}
use Rattle.pl_head.specs.declared.status.Status.TheVariants.{PayloadTooLarge}
use Rattle.pl_web.specs.Answers.{AnswersText}
use Rattle.pl_web.specs.Bodies.{limit_body}
use Rattle.pl_web.proofs.Texts.{answers_text, json_said}
use Rattle.pl_web.proofs.serve.answer_opening.Goals as goal

pub returns-in-Whole-clause-answers : goal.returns-in-Whole-clause-answers
returns-in-Whole-clause-answers g c = λ lives a tells rest incoming begins.
    let buf = c.args.buf.now in
    let fields = c.args.fields.now in
    let new = g.K.Keeper.tells c.answer_whole.new.keeper in
    let n = c.in-Whole.filled in
    let reads = subst (OpeningReads buf fields) c.in-Whole.is c.requires.reads in
    let h = reads.2.0 in
    let at = reads.2.1 in
    subst (λ o. BeginsAs (take (filled_of o) buf ++ rest) buf fields o
    → AnswersText (take (filled_of o) buf ++ rest) a new c.answer_whole.result)
    (sym c.in-Whole.is)
    (λ start. answers_text (take n buf ++ rest) a new (whole h) c.answer_whole.result
    (start h at) (c.answer_whole.ensures.answers lives a tells h at rest incoming))
    begins

pub returns-in-Long-clause-answers : goal.returns-in-Long-clause-answers
returns-in-Long-clause-answers g c = λ lives a tells rest incoming begins.
    let buf = c.args.buf.now in
    let fields = c.args.fields.now in
    let new = g.K.Keeper.tells c.args.keeper.now in
    subst (λ o. BeginsAs (take (filled_of o) buf ++ rest) buf fields o
    → AnswersText (take (filled_of o) buf ++ rest) a new c.in_json.result)
    (sym c.in-Long.is)
    (λ start. answers_text (take head_limit buf ++ rest) a new long c.in_json.result start
    (json_said a PayloadTooLarge (limit_body (codes "limit") head_limit) new c.limit.result
    c.in_json.result c.limit.ensures c.in_json.ensures tells))
    begins
