-- What a search came to.
use Rattle.std.specs.Prelude.{◌≡◌, Result, Err}
use Rattle.pl_search.specs.declared.error.SearchError.{SearchError}
use Rattle.pl_search.specs.declared.error.SearchError.TheVariants as search
use Rattle.pl_web.specs.Answers.{AnswersWith}
use Rattle.pl_web.specs.Hits.{refused_answer}
use Rattle.pl_web.specs.declared.ended.Ended.{Ended}
use Rattle.pl_web.specs.declared.ended.Ended.TheVariants.{Store, Memory}
use Rattle.pl_web.specs.declared.reply.Reply.{Reply}

-- a search without an answer: its reply, or none for the keeper's fault or for want of memory
abbrev pub AnswersError : SearchError → Result Reply Ended → Type 0
AnswersError search.Store result = result ≡ Err Store
AnswersError (search.Profile key number) result =
    AnswersWith (refused_answer (search.Profile key number)) result
AnswersError (search.Capture key stop) result =
    AnswersWith (refused_answer (search.Capture key stop)) result
AnswersError search.Memory result = result ≡ Err Memory
