use Rattle.std.proofs.Common.{◌++◌, subst}
use Rattle.pl_web.specs.Answers.{Answers}
use Rattle.pl_web.specs.Outcome.{outcome_of}
use Rattle.pl_web.proofs.answer.answer_request.Goals as goal

pub returns-in-Ok-clause-answers : goal.returns-in-Ok-clause-answers
returns-in-Ok-clause-answers g c = λ lives a tells rest incoming.
    subst (λ asked. Answers (outcome_of a (c.args.have.now ++ rest) asked) a
    (g.K.Keeper.tells c.answer_asked.new.keeper) c.answer_asked.result)
    c.in-Ok.ensures.asked
    (c.answer_asked.ensures.answers lives a tells rest incoming)
