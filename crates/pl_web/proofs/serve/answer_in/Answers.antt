use Rattle.std.proofs.Common.{sym, subst, take}
use Rattle.pl_head.specs.Opening.{BeginsAs, filled_of}
use Rattle.pl_web.specs.Answers.{AnswersText}
use Rattle.pl_web.proofs.Texts.{split_told}
use Rattle.pl_web.proofs.serve.answer_in.Goals as goal

pub returns-in-Ok-clause-answers : goal.returns-in-Ok-clause-answers
returns-in-Ok-clause-answers g c = λ lives a tells text incoming.
    let opening = c.in-Ok.opening in
    let buf = c.read_front.new.buf in
    let fields = c.read_front.new.fields in
    let new = g.K.Keeper.tells c.answer_opening.new.keeper in
    let split = split_told (g.C.Conn.incoming c.args.conn.now)
    (g.C.Conn.incoming c.read_front.new.conn) (take (filled_of opening) buf) text incoming
    c.in-Ok.ensures.bytes in
    subst (λ t. AnswersText t a new c.answer_opening.result) split.2
    (c.answer_opening.ensures.answers lives a tells split.0 split.1
    (subst (λ t. BeginsAs t buf fields opening) (sym split.2)
    (c.in-Ok.ensures.front text incoming)))
