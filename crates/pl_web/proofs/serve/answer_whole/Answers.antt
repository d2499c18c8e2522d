use Rattle.std.proofs.Common.{◌≡◌, ◌-◌, rules, arith, subst, drop, take, map, length}
use Rattle.std.proofs.lemmas.Grind.{common_steps}
use Rattle.httparse.specs.Spans.{span_bytes, header_bytes}
use Rattle.pl_head.specs.Form.{form_of}
use Rattle.pl_web.specs.Answers.{Answers}
use Rattle.pl_web.proofs.Texts.{at_head}
use Rattle.pl_web.proofs.serve.answer_whole.Goals as goal

pub returns-clause-answers : goal.returns-clause-answers
returns-clause-answers g c = λ lives a tells h at rest incoming.
    let text = c.args.text.now in
    let head = c.args.head in
    let method : c.of-method.result.now ≡ span_bytes text head.method = search rules in
    let target : c.in-Ok.target.now ≡ span_bytes text head.path = search rules in
    let have = take (length text - head.len) (drop head.len text) in
    let behind : have ≡ drop head.len text = grind (arith, common_steps) in
    let form : c.read_form-form.result
    ≡ form_of (map (header_bytes text) (take head.headers c.args.fields.now)) = search rules in
    subst (λ o. Answers o a (g.K.Keeper.tells c.answer_request.new.keeper)
    c.answer_request.result)
    (at_head a text rest c.of-method.result.now c.in-Ok.target.now have
    c.args.fields.now head h c.read_form-form.result at c.requires.within.section.len_fits
    method target behind form)
    (c.answer_request.ensures.answers lives a tells rest incoming)
