use Rattle.pl_capture.specs.Entry.{view}
use Rattle.std.proofs.Common.{arith, sym}
use Rattle.pl_excerpt.proofs.Searches.{broken_start, is_found, is_refused, number_is, passes, same_start}
use Rattle.pl_excerpt.proofs.finding.Search.judge.Goals as goal

pub returns-in-Err-clause-judged : goal.returns-in-Err-clause-judged
returns-in-Err-clause-judged c = λ p number items s.
    is_refused (view c.args.item.now) c.in-Err.refused c.stop_at.result s
    (c.in-Err.ensures.refused _ s.engine_stands) c.stop_at.ensures

pub returns-then-self-len-clause-judged : goal.returns-then-self-len-clause-judged
returns-then-self-len-clause-judged c = λ p number items s.
    is_found (view c.args.item.now) c.in-Ok.found.items c.deref.result.now _ s
    (c.in-Ok.ensures.allowed _ s.engine_stands) (c.in-Ok.ensures.verdicts _ s.engine_stands)
    c.deref.ensures.0 (omega arith)

pub returns-then-is_break-clause-judged : goal.returns-then-is_break-clause-judged
returns-then-is_break-clause-judged c = λ p number items s.
    passes (view c.args.item.now) c.in-Ok.found.items s c.in-Ok.ensures.profile
    (c.in-Ok.ensures.allowed _ s.engine_stands) (c.in-Ok.ensures.verdicts _ s.engine_stands)
    (c.in-Ok.ensures.stands _ s.engine_stands) (omega arith) (omega arith) (omega arith)
    (broken_start (view c.args.item.now) _ _ c.is_break.result c.if-is_break.true c.is_break.ensures
    (sym (number_is s)))

pub returns-else-is_break-clause-judged : goal.returns-else-is_break-clause-judged
returns-else-is_break-clause-judged c = λ p number items s.
    passes (view c.args.item.now) c.in-Ok.found.items s c.in-Ok.ensures.profile
    (c.in-Ok.ensures.allowed _ s.engine_stands) (c.in-Ok.ensures.verdicts _ s.engine_stands)
    (c.in-Ok.ensures.stands _ s.engine_stands) (omega arith) (omega arith) (omega arith)
    (same_start (view c.args.item.now) _ _ c.is_break.result c.if-is_break.false c.is_break.ensures
    s.start_is)
