use Rattle.pl_web.proofs.Kept.{listed_answers}
use Rattle.pl_web.proofs.gets.list_captures.Goals as goal

pub returns-in-Ok-clause-answers : goal.returns-in-Ok-clause-answers
returns-in-Ok-clause-answers g c = λ lives a tells.
    listed_answers a c.args.bench.now c.in-Ok.rows.items (g.K.Keeper.tells c.keys.new.self)
    c.list_reply.result (c.in-Ok.ensures.listed lives a tells)
    (c.in-Ok.ensures.ascending lives a tells)
    c.list_reply.ensures.status c.list_reply.ensures.media
    (rw c.deref.ensures.value at c.list_reply.ensures.body)
    c.list_reply.ensures.memory (c.keys.ensures.same lives a tells)
