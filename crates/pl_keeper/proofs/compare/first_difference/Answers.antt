use Rattle.std.proofs.Common.{◌≡◌, sym, arith}
use Rattle.pl_keeper.specs.Puts.{first_difference}
use Rattle.pl_keeper.proofs.Differences.{first_at}
use Rattle.pl_keeper.proofs.compare.first_difference.Goals as goal

pub returns-then-old-place : goal.returns-then-old-place
returns-then-old-place c =
    let first : first_difference c.args.old.now c.args.new.now ≡ c.bytes.place =
    first_at c.bytes.place c.args.old.now c.args.new.now c.bytes.invariant.in_old c.bytes.invariant.in_new c.bytes.invariant.same (λ _ _. c.if-old-place.true) in
    sym first

pub returns-else-place-new : goal.returns-else-place-new
returns-else-place-new c =
    let first : first_difference c.args.old.now c.args.new.now ≡ c.bytes.place =
    first_at c.bytes.place c.args.old.now c.args.new.now c.bytes.invariant.in_old c.bytes.invariant.in_new c.bytes.invariant.same (λ more more'. absurd (omega arith)) in
    sym first

pub returns-after-bytes : goal.returns-after-bytes
returns-after-bytes c =
    let first : first_difference c.args.old.now c.args.new.now ≡ c.bytes.place =
    first_at c.bytes.place c.args.old.now c.args.new.now c.bytes.invariant.in_old c.bytes.invariant.in_new c.bytes.invariant.same (λ more more'. absurd (omega arith)) in
    sym first
