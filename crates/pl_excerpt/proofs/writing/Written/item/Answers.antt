use Rattle.std.proofs.Common.{Err, Ok, subst}
use Rattle.pl_capture.specs.Entry.{view}
use Rattle.pl_capture.specs.Record.{record_of}
use Rattle.pl_excerpt.specs.Writing.{Appends}
use Rattle.pl_excerpt.proofs.Records.{appends_gap, appends_one, appends_two}
use Rattle.pl_excerpt.proofs.writing.Written.item.Goals as goal

pub returns-then-follows-clause-appends : goal.returns-then-follows-clause-appends
returns-then-follows-clause-appends g c =
    appends_one g.O.Sink c.record.result c.args.self.now.follows (view c.args.item.now)
    c.args.out.now c.record.new.out c.if-follows.true c.record.ensures.appends

pub returns-in-Ok-clause-appends : goal.returns-in-Ok-clause-appends
returns-in-Ok-clause-appends g c =
    appends_two g.O.Sink c.in-Ok.field-0 c.record-in-Ok.result c.args.self.now.follows
    (view c.args.item.now) c.args.out.now c.record-2.new.out c.record-in-Ok.new.out
    c.if-follows.false
    (subst (λ x. Appends {T = Unit {0}} g.O.Sink (Ok c.in-Ok.field-0) (record_of x)
    c.args.out.now c.record-2.new.out)
    c.gap_of.ensures.gap c.in-Ok.ensures.appends)
    c.record-in-Ok.ensures.appends

pub returns-in-Err-clause-appends : goal.returns-in-Err-clause-appends
returns-in-Err-clause-appends g c =
    appends_gap g.O.Sink c.in-Err.failed c.args.self.now.follows (view c.args.item.now)
    c.args.out.now c.record-2.new.out c.if-follows.false
    (subst (λ x. Appends {T = Unit {0}} g.O.Sink (Err c.in-Err.failed) (record_of x)
    c.args.out.now c.record-2.new.out)
    c.gap_of.ensures.gap c.in-Err.ensures.appends)
