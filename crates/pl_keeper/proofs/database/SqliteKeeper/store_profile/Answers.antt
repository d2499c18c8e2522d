use Rattle.sqlite.specs.Held.{state}
use Rattle.pl_keeper.proofs.Creates.{ready_all, from_ready}
use Rattle.pl_keeper.proofs.States.{if_ok, if_err, lived}
use Rattle.pl_keeper.proofs.database.SqliteKeeper.store_profile.Goals as goal

pub returns-clause-answer : goal.returns-clause-answer
returns-clause-answer g c lives a s =
    let mid = state g.S.Store c.prepare.new.self.db in
    let new = state g.S.Store c.put_profile.new.db in
    c.put_profile.ensures.answer lives a (ready_all c.prepare.new.self.made mid a c.in_ok-prepare.ensures.ready (c.prepare.ensures.made (lived mid new c.put_profile.ensures.continues lives) a s))

pub returns-clause-rows : goal.returns-clause-rows
returns-clause-rows g c lives a s =
    let mid = state g.S.Store c.prepare.new.self.db in
    let new = state g.S.Store c.put_profile.new.db in
    if_ok c.put_profile.result _ _ (λ put. from_ready c.prepare.new.self.made new _ c.in_ok-prepare.ensures.ready)
    (c.put_profile.ensures.rows lives a (ready_all c.prepare.new.self.made mid a c.in_ok-prepare.ensures.ready (c.prepare.ensures.made (lived mid new c.put_profile.ensures.continues lives) a s)))

pub returns-clause-err : goal.returns-clause-err
returns-clause-err g c lives a s =
    let mid = state g.S.Store c.prepare.new.self.db in
    let new = state g.S.Store c.put_profile.new.db in
    if_err c.put_profile.result _ _ (from_ready c.prepare.new.self.made new a c.in_ok-prepare.ensures.ready)
    (c.put_profile.ensures.err lives a (ready_all c.prepare.new.self.made mid a c.in_ok-prepare.ensures.ready (c.prepare.ensures.made (lived mid new c.put_profile.ensures.continues lives) a s)))
