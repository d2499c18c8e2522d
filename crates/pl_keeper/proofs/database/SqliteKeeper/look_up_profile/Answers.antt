use Rattle.std.proofs.Common.{sym, subst}
use Rattle.std.specs.Prelude.{filter, map}
use Rattle.std.specs.List.Sorted.{IsPermutation}
use Rattle.sqlite.specs.Held.{state}
use Rattle.pl_keeper.specs.Archive.{is_profile}
use Rattle.pl_keeper.specs.Settled.{body_of}
use Rattle.pl_keeper.proofs.Creates.{ready_all, from_ready}
use Rattle.pl_keeper.proofs.Firsts.{first_passing}
use Rattle.pl_keeper.proofs.States.{lived}
use Rattle.pl_keeper.proofs.database.SqliteKeeper.look_up_profile.Goals as goal

pub returns-in_err-rows-clause-same : goal.returns-in_err-rows-clause-same
returns-in_err-rows-clause-same g c lives a s =
    let mid = state g.S.Store c.prepare.new.self.db in
    let new = state g.S.Store c.profile_rows.new.db in
    let ready = ready_all c.prepare.new.self.made mid a c.in_ok-prepare.ensures.ready (c.prepare.ensures.made (lived mid new c.profile_rows.ensures.continues lives) a s) in
    from_ready c.prepare.new.self.made new a c.in_ok-prepare.ensures.ready (c.profile_rows.ensures.kept lives a ready)

pub returns-clause-same : goal.returns-clause-same
returns-clause-same g c lives a s =
    let mid = state g.S.Store c.prepare.new.self.db in
    let new = state g.S.Store c.profile_rows.new.db in
    let ready = ready_all c.prepare.new.self.made mid a c.in_ok-prepare.ensures.ready (c.prepare.ensures.made (lived mid new c.profile_rows.ensures.continues lives) a s) in
    from_ready c.prepare.new.self.made new a c.in_ok-prepare.ensures.ready (c.profile_rows.ensures.kept lives a ready)

pub returns-clause-found : goal.returns-clause-found
returns-clause-found g c lives a s =
    let mid = state g.S.Store c.prepare.new.self.db in
    let new = state g.S.Store c.profile_rows.new.db in
    let ready = ready_all c.prepare.new.self.made mid a c.in_ok-prepare.ensures.ready (c.prepare.ensures.made (lived mid new c.profile_rows.ensures.continues lives) a s) in
    let test = is_profile c.args.bench.now c.args.name.now in
    let found = filter test a.profiles in
    rw (first_passing test a.profiles) (c.found_profile.ensures.found found (subst (IsPermutation (map body_of found)) (sym c.as_slice.ensures.value) (c.in_ok-rows.ensures.rows lives a ready)))
