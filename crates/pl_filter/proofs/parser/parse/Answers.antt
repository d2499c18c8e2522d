use Rattle.std.proofs.Common.{◌≡◌, ◌≢◌, List, ℕ, Result, Ok, Err, refl, sym, ◌∙◌, subst}
use Rattle.pl_filter.specs.Answers.{IsAnswer, answered}
use Rattle.pl_filter.specs.Reading.{Gives, reading}
use Rattle.pl_filter.specs.Trees.{Tree, tree}
use Rattle.pl_filter.specs.declared.error.FilterError.{FilterError}
use Rattle.pl_filter.specs.declared.error.FilterError.TheVariants.{Syntax, TooDeep, Memory}
use Rattle.pl_filter.specs.declared.filter.Filter.{Filter}
use Rattle.pl_filter.proofs.Descent.{reading_is_answer}
use Rattle.pl_filter.proofs.Unique.{answer_is_read}
use Rattle.pl_filter.proofs.parser.parse.Goals as goal

given : (r : Result Filter FilterError) (read : Result Tree FilterError) → Gives tree r read → answered r ≢ Err Memory → answered r ≡ read
given (Ok f) read h m = sym h
given (Err (Syntax at)) read h m = sym h
given (Err (TooDeep at)) read h m = sym h
given (Err Memory) read h m = absurd (m refl)

pub returns-clause-right : goal.returns-clause-right
returns-clause-right c =
    let text = c.args.text.now in
    let g = subst (λ (bytes : List ℕ). Gives tree c.whole.result (reading bytes)) c.as_bytes.ensures.value c.whole.ensures in
    λ m. subst (IsAnswer text) (sym (given c.whole.result (reading text) g m)) (reading_is_answer text)

pub returns-clause-only : goal.returns-clause-only
returns-clause-only c =
    let text = c.args.text.now in
    let g = subst (λ (bytes : List ℕ). Gives tree c.whole.result (reading bytes)) c.as_bytes.ensures.value c.whole.ensures in
    λ a h m. given c.whole.result (reading text) g m ∙ sym (answer_is_read text a h)
