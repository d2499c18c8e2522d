use Rattle.std.proofs.Common.{◌∙◌, sym, ap, length, subst, arith}
use Rattle.std.specs.Prelude.{filter, map}
use Rattle.std.specs.List.Sorted.{IsPermutation}
use Rattle.sqlite.specs.Held.{state}
use Rattle.sqlite.specs.State.{HasCleanDisk}
use Rattle.pl_keeper.specs.Archive.{Profile, is_profile, profiles_of}
use Rattle.pl_keeper.specs.Settled.{Within, body_of, name_of}
use Rattle.pl_keeper.proofs.Choices.{profile_answer, profile_full, profile_new}
use Rattle.pl_keeper.proofs.Firsts.{counted}
use Rattle.pl_keeper.proofs.Keeping.{keeps_on, profile_kept}
use Rattle.pl_keeper.proofs.database.puts.choose_profile.Goals as goal

pub returns-in-Some-clause-answer : goal.returns-in-Some-clause-answer
returns-in-Some-clause-answer g c clean a w =
    let p : Profile = record { bench = c.args.bench.now; name = c.args.name.now; bytes = c.args.bytes.now } in
    let found = filter (is_profile p.bench p.name) a.profiles in
    profile_answer a p c.in-Some.put (sym c.in-Some.is ∙ c.in_ok-put.ensures found (subst (IsPermutation (map body_of found)) (sym c.as_slice.ensures.value) (c.in_ok-rows.ensures.rows clean a w)))

pub returns-then-as_slice-ge-MOST_PROFILES-clause-answer : goal.returns-then-as_slice-ge-MOST_PROFILES-clause-answer
returns-then-as_slice-ge-MOST_PROFILES-clause-answer g c clean a w =
    let p : Profile = record { bench = c.args.bench.now; name = c.args.name.now; bytes = c.args.bytes.now } in
    let first : HasCleanDisk (state g.S.Store c.profile_rows_inside.new.tx.conn.now) = omega (arith, c.profile_names_inside.ensures.continues.clean, clean) in
    let found = filter (is_profile p.bench p.name) a.profiles in
    let absent = sym c.in_default.is ∙ c.in_ok-put.ensures found (subst (IsPermutation (map body_of found)) (sym c.as_slice.ensures.value) (c.in_ok-rows.ensures.rows first a w)) in
    let names = c.in_ok-names.ensures.rows clean a (c.in_ok-rows.ensures.seen first a w) in
    profile_full a p (length c.as_slice-2.result.now) (counted name_of (profiles_of a p.bench) _ (length c.as_slice-2.result.now) names (ap length c.as_slice-2.ensures.value)) absent c.if-as_slice-ge-MOST_PROFILES.true

pub returns-clause-answer : goal.returns-clause-answer
returns-clause-answer g c clean a w =
    let p : Profile = record { bench = c.args.bench.now; name = c.args.name.now; bytes = c.args.bytes.now } in
    let second : HasCleanDisk (state g.S.Store c.profile_names_inside.new.tx.conn.now) = omega (arith, c.add_profile.ensures.continues.clean, clean) in
    let first : HasCleanDisk (state g.S.Store c.profile_rows_inside.new.tx.conn.now) = omega (arith, c.profile_names_inside.ensures.continues.clean, second) in
    let found = filter (is_profile p.bench p.name) a.profiles in
    let absent = sym c.in_default.is ∙ c.in_ok-put.ensures found (subst (IsPermutation (map body_of found)) (sym c.as_slice.ensures.value) (c.in_ok-rows.ensures.rows first a w)) in
    let names = c.in_ok-names.ensures.rows second a (c.in_ok-rows.ensures.seen first a w) in
    profile_new a p (length c.as_slice-2.result.now) (counted name_of (profiles_of a p.bench) _ (length c.as_slice-2.result.now) names (ap length c.as_slice-2.ensures.value)) absent c.if-as_slice-ge-MOST_PROFILES.false

pub returns-in-Some-clause-seen : goal.returns-in-Some-clause-seen
returns-in-Some-clause-seen g c clean a w =
    let p : Profile = record { bench = c.args.bench.now; name = c.args.name.now; bytes = c.args.bytes.now } in
    let found = filter (is_profile p.bench p.name) a.profiles in
    let same = profile_kept a p c.in-Some.put (sym c.in-Some.is ∙ c.in_ok-put.ensures found (subst (IsPermutation (map body_of found)) (sym c.as_slice.ensures.value) (c.in_ok-rows.ensures.rows clean a w))) in
    subst (Within (state g.S.Store c.profile_rows_inside.new.tx.conn.now)) (sym same) (c.in_ok-rows.ensures.seen clean a w)

pub returns-in_err-names-clause-kept : goal.returns-in_err-names-clause-kept
returns-in_err-names-clause-kept g c clean a w =
    let first : HasCleanDisk (state g.S.Store c.profile_rows_inside.new.tx.conn.now) = omega (arith, c.profile_names_inside.ensures.continues.clean, clean) in
    keeps_on (state g.S.Store c.args.tx.now.conn.now) (state g.S.Store c.profile_rows_inside.new.tx.conn.now) (state g.S.Store c.profile_names_inside.new.tx.conn.now) (c.profile_rows_inside.ensures.kept first a w) (c.profile_names_inside.ensures.kept clean a (c.in_ok-rows.ensures.seen first a w))

pub returns-then-as_slice-ge-MOST_PROFILES-clause-seen : goal.returns-then-as_slice-ge-MOST_PROFILES-clause-seen
returns-then-as_slice-ge-MOST_PROFILES-clause-seen g c clean a w =
    let first : HasCleanDisk (state g.S.Store c.profile_rows_inside.new.tx.conn.now) = omega (arith, c.profile_names_inside.ensures.continues.clean, clean) in
    c.in_ok-names.ensures.seen clean a (c.in_ok-rows.ensures.seen first a w)

pub returns-then-as_slice-ge-MOST_PROFILES-clause-kept : goal.returns-then-as_slice-ge-MOST_PROFILES-clause-kept
returns-then-as_slice-ge-MOST_PROFILES-clause-kept g c clean a w =
    let first : HasCleanDisk (state g.S.Store c.profile_rows_inside.new.tx.conn.now) = omega (arith, c.profile_names_inside.ensures.continues.clean, clean) in
    keeps_on (state g.S.Store c.args.tx.now.conn.now) (state g.S.Store c.profile_rows_inside.new.tx.conn.now) (state g.S.Store c.profile_names_inside.new.tx.conn.now) (c.profile_rows_inside.ensures.kept first a w) (c.profile_names_inside.ensures.kept clean a (c.in_ok-rows.ensures.seen first a w))

pub returns-in_err-add_profile-clause-kept : goal.returns-in_err-add_profile-clause-kept
returns-in_err-add_profile-clause-kept g c clean a w =
    let second : HasCleanDisk (state g.S.Store c.profile_names_inside.new.tx.conn.now) = omega (arith, c.add_profile.ensures.continues.clean, clean) in
    let first : HasCleanDisk (state g.S.Store c.profile_rows_inside.new.tx.conn.now) = omega (arith, c.profile_names_inside.ensures.continues.clean, second) in
    let seen = c.in_ok-rows.ensures.seen first a w in
    keeps_on (state g.S.Store c.args.tx.now.conn.now) (state g.S.Store c.profile_names_inside.new.tx.conn.now) (state g.S.Store c.add_profile.new.tx.conn.now)
    (keeps_on (state g.S.Store c.args.tx.now.conn.now) (state g.S.Store c.profile_rows_inside.new.tx.conn.now) (state g.S.Store c.profile_names_inside.new.tx.conn.now) (c.profile_rows_inside.ensures.kept first a w) (c.profile_names_inside.ensures.kept second a seen))
    (c.add_profile.ensures.kept clean a (c.in_ok-names.ensures.seen second a seen))

pub returns-clause-kept : goal.returns-clause-kept
returns-clause-kept g c clean a w =
    let second : HasCleanDisk (state g.S.Store c.profile_names_inside.new.tx.conn.now) = omega (arith, c.add_profile.ensures.continues.clean, clean) in
    let first : HasCleanDisk (state g.S.Store c.profile_rows_inside.new.tx.conn.now) = omega (arith, c.profile_names_inside.ensures.continues.clean, second) in
    let seen = c.in_ok-rows.ensures.seen first a w in
    keeps_on (state g.S.Store c.args.tx.now.conn.now) (state g.S.Store c.profile_names_inside.new.tx.conn.now) (state g.S.Store c.add_profile.new.tx.conn.now)
    (keeps_on (state g.S.Store c.args.tx.now.conn.now) (state g.S.Store c.profile_rows_inside.new.tx.conn.now) (state g.S.Store c.profile_names_inside.new.tx.conn.now) (c.profile_rows_inside.ensures.kept first a w) (c.profile_names_inside.ensures.kept second a seen))
    (c.add_profile.ensures.kept clean a (c.in_ok-names.ensures.seen second a seen))

pub returns-clause-seen : goal.returns-clause-seen
returns-clause-seen g c clean a w =
    let second : HasCleanDisk (state g.S.Store c.profile_names_inside.new.tx.conn.now) = omega (arith, c.add_profile.ensures.continues.clean, clean) in
    let first : HasCleanDisk (state g.S.Store c.profile_rows_inside.new.tx.conn.now) = omega (arith, c.profile_names_inside.ensures.continues.clean, second) in
    c.in_ok-add_profile.ensures.seen clean a (c.in_ok-names.ensures.seen second a (c.in_ok-rows.ensures.seen first a w))
