use Rattle.std.proofs.Common.{◌≡◌, ◌∙◌, sym}
use Rattle.std.proofs.lemmas.Fmt.{parse-decimal}
use Rattle.std.proofs.lemmas.Slice.Eq.{bytes_eq-Decides}
use Rattle.pl_cli.proofs.Tops.{false_is_true}
use Rattle.pl_cli.proofs.numbers.number.Goals as goal

pub returns-then-eq : goal.returns-then-eq
returns-then-eq c =
    sym ((bytes_eq-Decides c.format.result.now c.args.word.now).0 (sym c.eq.ensures ∙ c.if-eq.true)) ∙ c.format.ensures.text

pub returns-else-eq : goal.returns-else-eq
returns-else-eq c = λ n small e.
    let read = parse-decimal 64 n _ _ small small e c.parse.ensures.value.0 in
    let text : c.format.result.now ≡ c.args.word.now = cc e in
    false_is_true (sym (sym c.eq.ensures ∙ c.if-eq.false) ∙ (bytes_eq-Decides c.format.result.now c.args.word.now).1 text)

pub returns-in-Err : goal.returns-in-Err
returns-in-Err c = λ n small e. absurd (cc (parse-decimal 64 n _ _ small small e c.parse.ensures.value.0))
