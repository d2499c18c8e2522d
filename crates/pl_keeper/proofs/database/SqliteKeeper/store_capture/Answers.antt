use Rattle.sqlite.specs.Held.{state}
use Rattle.pl_keeper.proofs.Creates.{ready_all, from_ready}
use Rattle.pl_keeper.proofs.States.{if_ok, if_err, lived}
use Rattle.pl_keeper.proofs.database.SqliteKeeper.store_capture.Goals as goal

pub returns-clause-answer : goal.returns-clause-answer
returns-clause-answer g c lives a s =
    let mid = state g.S.Store c.prepare.new.self.db in
    let new = state g.S.Store c.put_capture.new.db in
    c.put_capture.ensures.answer lives a (ready_all c.prepare.new.self.made mid a c.in_ok-prepare.ensures.ready (c.prepare.ensures.made (lived mid new c.put_capture.ensures.continues lives) a s))

pub returns-clause-rows : goal.returns-clause-rows
returns-clause-rows g c lives a s =
    let mid = state g.S.Store c.prepare.new.self.db in
    let new = state g.S.Store c.put_capture.new.db in
    if_ok c.put_capture.result _ _ (λ put. from_ready c.prepare.new.self.made new _ c.in_ok-prepare.ensures.ready)
    (c.put_capture.ensures.rows lives a (ready_all c.prepare.new.self.made mid a c.in_ok-prepare.ensures.ready (c.prepare.ensures.made (lived mid new c.put_capture.ensures.continues lives) a s)))

pub returns-clause-err : goal.returns-clause-err
returns-clause-err g c lives a s =
    let mid = state g.S.Store c.prepare.new.self.db in
    let new = state g.S.Store c.put_capture.new.db in
    if_err c.put_capture.result _ _ (from_ready c.prepare.new.self.made new a c.in_ok-prepare.ensures.ready)
    (c.put_capture.ensures.err lives a (ready_all c.prepare.new.self.made mid a c.in_ok-prepare.ensures.ready (c.prepare.ensures.made (lived mid new c.put_capture.ensures.continues lives) a s)))
