use Rattle.sqlite.specs.Held.{state}
use Rattle.pl_keeper.proofs.Creates.{ready_all, from_ready}
use Rattle.pl_keeper.proofs.States.{lived}
use Rattle.pl_keeper.proofs.database.SqliteKeeper.list.Goals as goal

pub returns-clause-listed : goal.returns-clause-listed
returns-clause-listed g c lives a s =
    let mid = state g.S.Store c.prepare.new.self.db in
    let new = state g.S.Store c.list_captures.new.db in
    c.list_captures.ensures.listed lives a (ready_all c.prepare.new.self.made mid a c.in_ok-prepare.ensures.ready (c.prepare.ensures.made (lived mid new c.list_captures.ensures.continues lives) a s))

pub returns-clause-ascending : goal.returns-clause-ascending
returns-clause-ascending g c lives a s =
    let mid = state g.S.Store c.prepare.new.self.db in
    let new = state g.S.Store c.list_captures.new.db in
    c.list_captures.ensures.ascending lives a (ready_all c.prepare.new.self.made mid a c.in_ok-prepare.ensures.ready (c.prepare.ensures.made (lived mid new c.list_captures.ensures.continues lives) a s))

pub returns-clause-same : goal.returns-clause-same
returns-clause-same g c lives a s =
    let mid = state g.S.Store c.prepare.new.self.db in
    let new = state g.S.Store c.list_captures.new.db in
    let ready = ready_all c.prepare.new.self.made mid a c.in_ok-prepare.ensures.ready (c.prepare.ensures.made (lived mid new c.list_captures.ensures.continues lives) a s) in
    from_ready c.prepare.new.self.made new a c.in_ok-prepare.ensures.ready (c.list_captures.ensures.kept lives a ready)
