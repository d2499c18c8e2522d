use Rattle.std.proofs.Common.{◌∙◌, [], ◌∷◌, ◌++◌}
use Rattle.pl_capture.specs.Entry.{view}
use Rattle.pl_capture.specs.Record.{record_of}
use Rattle.pl_page.specs.Gathers.{tells}
use Rattle.pl_merge.proofs.Passing.{passed, passed_cause, record_behind, record_lost}
use Rattle.pl_merge.proofs.Taking.{lent_is}
use Rattle.pl_merge.proofs.merging.pass.Goals as goal

pub returns-in-Ok-clause-passes : goal.returns-in-Ok-clause-passes
returns-in-Ok-clause-passes g c = λ file items x text start l f.
    passed c.next.result c.next.new.self (g.H.Shelf.rest c.next.new.shelf) file (items ++ x ∷ []) c.push_item.new.self
    (text ++ record_of x) start (tells g.O.Sink c.push_item.new.out) c.next.ensures.reads
    (c.next.ensures.comes file (items ++ x ∷ []) l.reached)
    (record_behind c.args.page.now c.push_item.new.self text (view c.in-Some.item) x
    (lent_is c.args.side.now.reader.phase (view c.in-Some.item) x c.in-Some.ensures.item l.holds) f c.in-Ok.ensures.gathered)

pub returns-in-Ok-clause-cause : goal.returns-in-Ok-clause-cause
returns-in-Ok-clause-cause g c = passed_cause c.next.result _ _ c.next.ensures.reads c.in-Ok.ensures.cause.kept

pub returns-in-Err-clause-passes : goal.returns-in-Err-clause-passes
returns-in-Err-clause-passes g c = λ file items x text start l f.
    record_lost c.args.page.now text (view c.in-Some.item) x
    (lent_is c.args.side.now.reader.phase (view c.in-Some.item) x c.in-Some.ensures.item l.holds) f c.in-Err.ensures.gathered
