use Rattle.std.proofs.Common.{◌∙◌, sym, ap, length, subst, arith}
use Rattle.std.specs.Prelude.{filter, map}
use Rattle.std.specs.List.Sorted.{IsPermutation}
use Rattle.sqlite.specs.Held.{state}
use Rattle.sqlite.specs.State.{HasCleanDisk}
use Rattle.pl_keeper.specs.Archive.{Capture, is_profile, is_capture, captures_of}
use Rattle.pl_keeper.specs.Settled.{Within, body_of, owner_and_body, key_of}
use Rattle.pl_keeper.proofs.Choices.{capture_answer, capture_no_profile, capture_full, capture_new}
use Rattle.pl_keeper.proofs.Firsts.{counted, none_passing, one_passing}
use Rattle.pl_keeper.proofs.Keeping.{keeps_on, capture_kept}
use Rattle.pl_keeper.proofs.database.puts.choose_capture.Goals as goal

pub returns-in-Some-clause-answer : goal.returns-in-Some-clause-answer
returns-in-Some-clause-answer g c clean a w =
    let it : Capture = record { bench = c.args.bench.now; key = c.args.key.now; profile = c.args.profile.now; bytes = c.args.bytes.now } in
    let found = filter (is_capture it.bench it.key) a.captures in
    capture_answer a it c.in-Some.put (sym c.in-Some.is ∙ c.in_ok-put.ensures found (subst (IsPermutation (map owner_and_body found)) (sym c.as_slice.ensures.value) (c.in_ok-rows.ensures.rows clean a w)))

pub returns-in_default-2-clause-answer : goal.returns-in_default-2-clause-answer
returns-in_default-2-clause-answer g c second a w =
    let it : Capture = record { bench = c.args.bench.now; key = c.args.key.now; profile = c.args.profile.now; bytes = c.args.bytes.now } in
    let first : HasCleanDisk (state g.S.Store c.capture_rows_inside.new.tx.conn.now) = omega (arith, c.profile_rows_inside.ensures.continues.clean, second) in
    let found = filter (is_capture it.bench it.key) a.captures in
    let owners = filter (is_profile it.bench it.profile) a.profiles in
    let absent = sym c.in_default.is ∙ c.in_ok-put.ensures found (subst (IsPermutation (map owner_and_body found)) (sym c.as_slice.ensures.value) (c.in_ok-rows.ensures.rows first a w)) in
    let seen = c.in_ok-rows.ensures.seen first a w in
    let owned = subst (IsPermutation (map body_of owners)) (sym c.as_slice-2.ensures.value) (c.in_ok-owners.ensures.rows second a seen) in
    capture_no_profile a it absent (none_passing body_of owners c.as_slice-2.result.now owned (rw c.in_default-2.is at c.in_ok-only_row.ensures.none))

pub returns-then-as_slice-ge-MOST_CAPTURES-clause-answer : goal.returns-then-as_slice-ge-MOST_CAPTURES-clause-answer
returns-then-as_slice-ge-MOST_CAPTURES-clause-answer g c third a w =
    let it : Capture = record { bench = c.args.bench.now; key = c.args.key.now; profile = c.args.profile.now; bytes = c.args.bytes.now } in
    let second : HasCleanDisk (state g.S.Store c.profile_rows_inside.new.tx.conn.now) = omega (arith, c.capture_keys_inside.ensures.continues.clean, third) in
    let first : HasCleanDisk (state g.S.Store c.capture_rows_inside.new.tx.conn.now) = omega (arith, c.profile_rows_inside.ensures.continues.clean, second) in
    let found = filter (is_capture it.bench it.key) a.captures in
    let owners = filter (is_profile it.bench it.profile) a.profiles in
    let absent = sym c.in_default.is ∙ c.in_ok-put.ensures found (subst (IsPermutation (map owner_and_body found)) (sym c.as_slice.ensures.value) (c.in_ok-rows.ensures.rows first a w)) in
    let seen = c.in_ok-rows.ensures.seen first a w in
    let owned = subst (IsPermutation (map body_of owners)) (sym c.as_slice-2.ensures.value) (c.in_ok-owners.ensures.rows second a seen) in
    let owner = one_passing body_of owners c.as_slice-2.result.now c.in-Some-2.field-0.now owned (rw c.in-Some-2.is at c.in_ok-only_row.ensures.one) in
    let keys = c.in_ok-keys.ensures.rows third a (c.in_ok-owners.ensures.seen second a seen) in
    capture_full a it absent owner.0 owner.1 (length c.as_slice-3.result.now) (counted key_of (captures_of a it.bench) _ (length c.as_slice-3.result.now) keys (ap length c.as_slice-3.ensures.value)) c.if-as_slice-ge-MOST_CAPTURES.true

pub returns-clause-answer : goal.returns-clause-answer
returns-clause-answer g c fourth a w =
    let it : Capture = record { bench = c.args.bench.now; key = c.args.key.now; profile = c.args.profile.now; bytes = c.args.bytes.now } in
    let third : HasCleanDisk (state g.S.Store c.capture_keys_inside.new.tx.conn.now) = omega (arith, c.add_capture.ensures.continues.clean, fourth) in
    let second : HasCleanDisk (state g.S.Store c.profile_rows_inside.new.tx.conn.now) = omega (arith, c.capture_keys_inside.ensures.continues.clean, third) in
    let first : HasCleanDisk (state g.S.Store c.capture_rows_inside.new.tx.conn.now) = omega (arith, c.profile_rows_inside.ensures.continues.clean, second) in
    let found = filter (is_capture it.bench it.key) a.captures in
    let owners = filter (is_profile it.bench it.profile) a.profiles in
    let absent = sym c.in_default.is ∙ c.in_ok-put.ensures found (subst (IsPermutation (map owner_and_body found)) (sym c.as_slice.ensures.value) (c.in_ok-rows.ensures.rows first a w)) in
    let seen = c.in_ok-rows.ensures.seen first a w in
    let owned = subst (IsPermutation (map body_of owners)) (sym c.as_slice-2.ensures.value) (c.in_ok-owners.ensures.rows second a seen) in
    let owner = one_passing body_of owners c.as_slice-2.result.now c.in-Some-2.field-0.now owned (rw c.in-Some-2.is at c.in_ok-only_row.ensures.one) in
    let keys = c.in_ok-keys.ensures.rows third a (c.in_ok-owners.ensures.seen second a seen) in
    capture_new a it absent owner.0 owner.1 (length c.as_slice-3.result.now) (counted key_of (captures_of a it.bench) _ (length c.as_slice-3.result.now) keys (ap length c.as_slice-3.ensures.value)) c.if-as_slice-ge-MOST_CAPTURES.false

pub returns-in-Some-clause-seen : goal.returns-in-Some-clause-seen
returns-in-Some-clause-seen g c clean a w =
    let it : Capture = record { bench = c.args.bench.now; key = c.args.key.now; profile = c.args.profile.now; bytes = c.args.bytes.now } in
    let found = filter (is_capture it.bench it.key) a.captures in
    let same = capture_kept a it c.in-Some.put (sym c.in-Some.is ∙ c.in_ok-put.ensures found (subst (IsPermutation (map owner_and_body found)) (sym c.as_slice.ensures.value) (c.in_ok-rows.ensures.rows clean a w))) in
    subst (Within (state g.S.Store c.capture_rows_inside.new.tx.conn.now)) (sym same) (c.in_ok-rows.ensures.seen clean a w)

pub returns-in_err-owners-clause-kept : goal.returns-in_err-owners-clause-kept
returns-in_err-owners-clause-kept g c clean a w =
    let first : HasCleanDisk (state g.S.Store c.capture_rows_inside.new.tx.conn.now) = omega (arith, c.profile_rows_inside.ensures.continues.clean, clean) in
    let seen_1 = c.in_ok-rows.ensures.seen first a w in
    keeps_on (state g.S.Store c.args.tx.now.conn.now) (state g.S.Store c.capture_rows_inside.new.tx.conn.now) (state g.S.Store c.profile_rows_inside.new.tx.conn.now)
    (c.capture_rows_inside.ensures.kept first a w)
    (c.profile_rows_inside.ensures.kept clean a seen_1)

pub returns-in_err-only_row-clause-kept : goal.returns-in_err-only_row-clause-kept
returns-in_err-only_row-clause-kept g c clean a w =
    let first : HasCleanDisk (state g.S.Store c.capture_rows_inside.new.tx.conn.now) = omega (arith, c.profile_rows_inside.ensures.continues.clean, clean) in
    let seen_1 = c.in_ok-rows.ensures.seen first a w in
    keeps_on (state g.S.Store c.args.tx.now.conn.now) (state g.S.Store c.capture_rows_inside.new.tx.conn.now) (state g.S.Store c.profile_rows_inside.new.tx.conn.now)
    (c.capture_rows_inside.ensures.kept first a w)
    (c.profile_rows_inside.ensures.kept clean a seen_1)

pub returns-in_default-2-clause-seen : goal.returns-in_default-2-clause-seen
returns-in_default-2-clause-seen g c clean a w =
    let first : HasCleanDisk (state g.S.Store c.capture_rows_inside.new.tx.conn.now) = omega (arith, c.profile_rows_inside.ensures.continues.clean, clean) in
    let seen_1 = c.in_ok-rows.ensures.seen first a w in
    let seen_2 = c.in_ok-owners.ensures.seen clean a seen_1 in
    seen_2

pub returns-in_default-2-clause-kept : goal.returns-in_default-2-clause-kept
returns-in_default-2-clause-kept g c clean a w =
    let first : HasCleanDisk (state g.S.Store c.capture_rows_inside.new.tx.conn.now) = omega (arith, c.profile_rows_inside.ensures.continues.clean, clean) in
    let seen_1 = c.in_ok-rows.ensures.seen first a w in
    keeps_on (state g.S.Store c.args.tx.now.conn.now) (state g.S.Store c.capture_rows_inside.new.tx.conn.now) (state g.S.Store c.profile_rows_inside.new.tx.conn.now)
    (c.capture_rows_inside.ensures.kept first a w)
    (c.profile_rows_inside.ensures.kept clean a seen_1)

pub returns-in_err-keys-clause-kept : goal.returns-in_err-keys-clause-kept
returns-in_err-keys-clause-kept g c clean a w =
    let second : HasCleanDisk (state g.S.Store c.profile_rows_inside.new.tx.conn.now) = omega (arith, c.capture_keys_inside.ensures.continues.clean, clean) in
    let first : HasCleanDisk (state g.S.Store c.capture_rows_inside.new.tx.conn.now) = omega (arith, c.profile_rows_inside.ensures.continues.clean, second) in
    let seen_1 = c.in_ok-rows.ensures.seen first a w in
    let seen_2 = c.in_ok-owners.ensures.seen second a seen_1 in
    keeps_on (state g.S.Store c.args.tx.now.conn.now) (state g.S.Store c.profile_rows_inside.new.tx.conn.now) (state g.S.Store c.capture_keys_inside.new.tx.conn.now)
    (keeps_on (state g.S.Store c.args.tx.now.conn.now) (state g.S.Store c.capture_rows_inside.new.tx.conn.now) (state g.S.Store c.profile_rows_inside.new.tx.conn.now)
    (c.capture_rows_inside.ensures.kept first a w)
    (c.profile_rows_inside.ensures.kept second a seen_1))
    (c.capture_keys_inside.ensures.kept clean a seen_2)

pub returns-then-as_slice-ge-MOST_CAPTURES-clause-seen : goal.returns-then-as_slice-ge-MOST_CAPTURES-clause-seen
returns-then-as_slice-ge-MOST_CAPTURES-clause-seen g c clean a w =
    let second : HasCleanDisk (state g.S.Store c.profile_rows_inside.new.tx.conn.now) = omega (arith, c.capture_keys_inside.ensures.continues.clean, clean) in
    let first : HasCleanDisk (state g.S.Store c.capture_rows_inside.new.tx.conn.now) = omega (arith, c.profile_rows_inside.ensures.continues.clean, second) in
    let seen_1 = c.in_ok-rows.ensures.seen first a w in
    let seen_2 = c.in_ok-owners.ensures.seen second a seen_1 in
    let seen_3 = c.in_ok-keys.ensures.seen clean a seen_2 in
    seen_3

pub returns-then-as_slice-ge-MOST_CAPTURES-clause-kept : goal.returns-then-as_slice-ge-MOST_CAPTURES-clause-kept
returns-then-as_slice-ge-MOST_CAPTURES-clause-kept g c clean a w =
    let second : HasCleanDisk (state g.S.Store c.profile_rows_inside.new.tx.conn.now) = omega (arith, c.capture_keys_inside.ensures.continues.clean, clean) in
    let first : HasCleanDisk (state g.S.Store c.capture_rows_inside.new.tx.conn.now) = omega (arith, c.profile_rows_inside.ensures.continues.clean, second) in
    let seen_1 = c.in_ok-rows.ensures.seen first a w in
    let seen_2 = c.in_ok-owners.ensures.seen second a seen_1 in
    keeps_on (state g.S.Store c.args.tx.now.conn.now) (state g.S.Store c.profile_rows_inside.new.tx.conn.now) (state g.S.Store c.capture_keys_inside.new.tx.conn.now)
    (keeps_on (state g.S.Store c.args.tx.now.conn.now) (state g.S.Store c.capture_rows_inside.new.tx.conn.now) (state g.S.Store c.profile_rows_inside.new.tx.conn.now)
    (c.capture_rows_inside.ensures.kept first a w)
    (c.profile_rows_inside.ensures.kept second a seen_1))
    (c.capture_keys_inside.ensures.kept clean a seen_2)

pub returns-in_err-add_capture-clause-kept : goal.returns-in_err-add_capture-clause-kept
returns-in_err-add_capture-clause-kept g c clean a w =
    let third : HasCleanDisk (state g.S.Store c.capture_keys_inside.new.tx.conn.now) = omega (arith, c.add_capture.ensures.continues.clean, clean) in
    let second : HasCleanDisk (state g.S.Store c.profile_rows_inside.new.tx.conn.now) = omega (arith, c.capture_keys_inside.ensures.continues.clean, third) in
    let first : HasCleanDisk (state g.S.Store c.capture_rows_inside.new.tx.conn.now) = omega (arith, c.profile_rows_inside.ensures.continues.clean, second) in
    let seen_1 = c.in_ok-rows.ensures.seen first a w in
    let seen_2 = c.in_ok-owners.ensures.seen second a seen_1 in
    let seen_3 = c.in_ok-keys.ensures.seen third a seen_2 in
    keeps_on (state g.S.Store c.args.tx.now.conn.now) (state g.S.Store c.capture_keys_inside.new.tx.conn.now) (state g.S.Store c.add_capture.new.tx.conn.now)
    (keeps_on (state g.S.Store c.args.tx.now.conn.now) (state g.S.Store c.profile_rows_inside.new.tx.conn.now) (state g.S.Store c.capture_keys_inside.new.tx.conn.now)
    (keeps_on (state g.S.Store c.args.tx.now.conn.now) (state g.S.Store c.capture_rows_inside.new.tx.conn.now) (state g.S.Store c.profile_rows_inside.new.tx.conn.now)
    (c.capture_rows_inside.ensures.kept first a w)
    (c.profile_rows_inside.ensures.kept second a seen_1))
    (c.capture_keys_inside.ensures.kept third a seen_2))
    (c.add_capture.ensures.kept clean a seen_3)

pub returns-clause-kept : goal.returns-clause-kept
returns-clause-kept g c clean a w =
    let third : HasCleanDisk (state g.S.Store c.capture_keys_inside.new.tx.conn.now) = omega (arith, c.add_capture.ensures.continues.clean, clean) in
    let second : HasCleanDisk (state g.S.Store c.profile_rows_inside.new.tx.conn.now) = omega (arith, c.capture_keys_inside.ensures.continues.clean, third) in
    let first : HasCleanDisk (state g.S.Store c.capture_rows_inside.new.tx.conn.now) = omega (arith, c.profile_rows_inside.ensures.continues.clean, second) in
    let seen_1 = c.in_ok-rows.ensures.seen first a w in
    let seen_2 = c.in_ok-owners.ensures.seen second a seen_1 in
    let seen_3 = c.in_ok-keys.ensures.seen third a seen_2 in
    keeps_on (state g.S.Store c.args.tx.now.conn.now) (state g.S.Store c.capture_keys_inside.new.tx.conn.now) (state g.S.Store c.add_capture.new.tx.conn.now)
    (keeps_on (state g.S.Store c.args.tx.now.conn.now) (state g.S.Store c.profile_rows_inside.new.tx.conn.now) (state g.S.Store c.capture_keys_inside.new.tx.conn.now)
    (keeps_on (state g.S.Store c.args.tx.now.conn.now) (state g.S.Store c.capture_rows_inside.new.tx.conn.now) (state g.S.Store c.profile_rows_inside.new.tx.conn.now)
    (c.capture_rows_inside.ensures.kept first a w)
    (c.profile_rows_inside.ensures.kept second a seen_1))
    (c.capture_keys_inside.ensures.kept third a seen_2))
    (c.add_capture.ensures.kept clean a seen_3)

pub returns-clause-seen : goal.returns-clause-seen
returns-clause-seen g c clean a w =
    let third : HasCleanDisk (state g.S.Store c.capture_keys_inside.new.tx.conn.now) = omega (arith, c.add_capture.ensures.continues.clean, clean) in
    let second : HasCleanDisk (state g.S.Store c.profile_rows_inside.new.tx.conn.now) = omega (arith, c.capture_keys_inside.ensures.continues.clean, third) in
    let first : HasCleanDisk (state g.S.Store c.capture_rows_inside.new.tx.conn.now) = omega (arith, c.profile_rows_inside.ensures.continues.clean, second) in
    let seen_1 = c.in_ok-rows.ensures.seen first a w in
    let seen_2 = c.in_ok-owners.ensures.seen second a seen_1 in
    let seen_3 = c.in_ok-keys.ensures.seen third a seen_2 in
    let seen_4 = c.in_ok-add_capture.ensures.seen clean a seen_3 in
    seen_4
