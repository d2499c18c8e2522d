use Rattle.std.proofs.Common.{[], ap, arith, refl}
use Rattle.pl_merge.specs.Sides.{Sight}
use Rattle.pl_merge.proofs.Headers.{begun_is, fresh_parts, fresh_reached, header_halts, header_short, not_true, took_header}
use Rattle.pl_merge.proofs.side.Side.take_header.Goals as goal

pub loop-self-init : goal.loop-self-init
loop-self-init g c =
    let parts = fresh_parts c.args.self.now c.requires.fresh in
    record {
      dir = refl;
      used = omega (arith, parts.0);
      bound = omega (arith, parts.0, parts.1);
      kept = record { opened = c.requires.opened; opens = refl; named = refl; sure = λ h. h; faults = refl };
      reached = fresh_reached c.args.self.now (g.H.Shelf.rest c.args.shelf.now) c.requires.fresh;
    }

pub returns-in-Some-clause-header : goal.returns-in-Some-clause-header
returns-in-Some-clause-header g c =
    c.in-Some.ensures.feeds (g.H.Shelf.rest c.fill.new.shelf) (g.H.Shelf.rest c.args.shelf.now)
    (rw c.in-Ok-true.field-0-test at (c.in-Ok-true.ensures.refills (g.H.Shelf.rest c.args.shelf.now) [] c.loop-self.invariant.reached))

pub returns-in-Ok-false-clause-header : goal.returns-in-Ok-false-clause-header
returns-in-Ok-false-clause-header g c =
    header_short c.fill.new.self.dir (g.H.Shelf.rest c.args.shelf.now)
    (λ whole is.
    let size = c.in-Ok-false.ensures.whole tt (not_true c.in-Ok-false.field-0 c.in-Ok-false.field-0-test _ refl) (omega (arith, c.loop-self-test.true, ap (λ (s : Sight). s.used) c.self.view_is))
    (g.H.Shelf.rest c.args.shelf.now) [] whole c.loop-self.invariant.reached is in
    omega (arith, size, c.loop-self-test.true, ap (λ (s : Sight). s.used) c.self.view_is))

pub returns-in-Err-clause-header : goal.returns-in-Err-clause-header
returns-in-Err-clause-header g c =
    header_halts c.in-Err.halt c.fill.new.self (g.H.Shelf.rest c.fill.new.shelf) (g.H.Shelf.rest c.args.shelf.now)
    (c.in-Err.ensures.refills (g.H.Shelf.rest c.args.shelf.now) [] c.loop-self.invariant.reached)
    (omega (arith, c.in-Err.ensures.used, c.loop-self-test.true, ap (λ (s : Sight). s.used) c.self.view_is))
    (λ no whole is.
    let size = c.in-Err.ensures.whole no (λ e. cc) (omega (arith, c.loop-self-test.true, ap (λ (s : Sight). s.used) c.self.view_is))
    (g.H.Shelf.rest c.args.shelf.now) [] whole c.loop-self.invariant.reached is in
    omega (arith, size, c.loop-self-test.true, ap (λ (s : Sight). s.used) c.self.view_is))

pub returns-clause-header : goal.returns-clause-header
returns-clause-header g c =
    took_header c.loop-self.self (g.H.Shelf.rest c.loop-self.shelf) (g.H.Shelf.rest c.args.shelf.now)
    (omega (arith, c.loop-self.invariant.used, c.loop-self-test.false, ap (λ (s : Sight). s.used) c.self.view_is)) c.loop-self.invariant.reached

pub returns-clause-begun : goal.returns-clause-begun
returns-clause-begun g c =
    begun_is c.loop-self.self (g.H.Shelf.rest c.loop-self.shelf) (g.H.Shelf.rest c.args.shelf.now)
    (omega (arith, c.loop-self.invariant.used, c.loop-self-test.false, ap (λ (s : Sight). s.used) c.self.view_is)) c.loop-self.invariant.reached
