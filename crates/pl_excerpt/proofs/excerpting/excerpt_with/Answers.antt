use Rattle.pl_excerpt.proofs.Answers.{answered_search, sink_search}
use Rattle.pl_excerpt.proofs.excerpting.excerpt_with.Goals as goal

pub returns-clause-answered : goal.returns-clause-answered
returns-clause-answered g c = λ told.
    answered_search c.args.parts.first.profile c.args.number
    (g.H.Shelf.file c.args.shelf.now c.args.capture.now) c.in-Err.outcome
    (c.in-Err.ensures.searched told)

pub returns-clause-sink_cause : goal.returns-clause-sink_cause
returns-clause-sink_cause g c =
    sink_search (g.O.Sink.faults c.args.out.now) c.in-Err.outcome c.in-Err.ensures.answer
