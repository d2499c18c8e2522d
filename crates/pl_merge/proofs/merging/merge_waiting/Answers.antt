use Rattle.std.proofs.Common.{◌∙◌, ◌++◌, Some, ap, arith, refl, sym}
use Rattle.pl_capture.specs.Standing.{lent}
use Rattle.pl_page.specs.Gathers.{tells}
use Rattle.pl_merge.specs.Output.{records_of}
use Rattle.pl_merge.proofs.Measures.{falls, start_few}
use Rattle.pl_merge.proofs.Mixes.{down_halts, down_lends, down_on, next_down, next_up, up_halts, up_lends, up_on}
use Rattle.pl_merge.proofs.Steadies.{kept_none, kept_on}
use Rattle.pl_merge.proofs.merging.merge_waiting.Goals as goal

pub items-init : goal.items-init
items-init g c = record {
  down = c.requires.down;
  up = c.requires.up;
  bound = c.requires.bound;
  bound2 = c.requires.bound2;
  kept = kept_none g.H.Shelf c.args.first.now c.requires.opened.0;
  kept2 = kept_none g.H.Shelf c.args.second.now c.requires.opened.1;
  faults = refl;
  count = omega (arith, start_few c.args.one.now.used (lent c.args.one.now.reader.phase), start_few c.args.two.now.used (lent c.args.two.now.reader.phase));
  mixed = λ down up head start f. f;
}

pub items-smaller-in-Ok : goal.items-smaller-in-Ok
items-smaller-in-Ok g c =
    let n = next_down (lent c.items.one.reader.phase) (lent c.items.two.reader.phase) (sym c.next_file.ensures ∙ c.in-Some.is ∙ ap Some c.in-Down.is) in
    omega (arith, falls (lent c.items.one.reader.phase) (lent c.pass.new.side.reader.phase) n.0 c.items.one.used c.pass.new.side.used n.1 (omega (arith, c.in-Ok.ensures.bound)) c.in-Ok.ensures.on)

pub items-preserved-in-Ok : goal.items-preserved-in-Ok
items-preserved-in-Ok g c =
    let n = next_down (lent c.items.one.reader.phase) (lent c.items.two.reader.phase) (sym c.next_file.ensures ∙ c.in-Some.is ∙ ap Some c.in-Down.is) in
    let less = falls (lent c.items.one.reader.phase) (lent c.pass.new.side.reader.phase) n.0 c.items.one.used c.pass.new.side.used n.1 (omega (arith, c.in-Ok.ensures.bound)) c.in-Ok.ensures.on in
    record {
      down = c.in-Ok.ensures.dir ∙ c.items.invariant.down;
      up = c.items.invariant.up;
      bound = c.in-Ok.ensures.bound;
      bound2 = c.items.invariant.bound2;
      kept = kept_on g.H.Shelf c.in-Ok.field-0 c.args.first.now c.items.first c.pass.new.shelf c.items.invariant.kept c.in-Ok.ensures.shelf;
      kept2 = c.items.invariant.kept2;
      faults = c.in-Ok.ensures.cause ∙ c.items.invariant.faults;
      count = omega (arith, less, c.items.invariant.count);
      mixed = λ down up head start f.
          let m = c.items.invariant.mixed down up head start f in
          down_on m n.0 c.pass.new.side (g.H.Shelf.rest c.pass.new.shelf) c.pass.new.page (tells g.O.Sink c.pass.new.out) n.1 n.2
          (c.in-Ok.ensures.passes down m.before n.0 (head ++ records_of m.all) start (down_lends m n.0 n.1) m.gathers);
    }

pub returns-in-Err-clause-mixes : goal.returns-in-Err-clause-mixes
returns-in-Err-clause-mixes g c = λ down up head start f.
    let n = next_down (lent c.items.one.reader.phase) (lent c.items.two.reader.phase) (sym c.next_file.ensures ∙ c.in-Some.is ∙ ap Some c.in-Down.is) in
    let m = c.items.invariant.mixed down up head start f in
    down_halts c.in-Err.halt m n.0 c.pass.new.side (g.H.Shelf.rest c.pass.new.shelf) c.pass.new.page (tells g.O.Sink c.pass.new.out) n.1 n.2
    c.items.invariant.down (c.in-Err.ensures.dir ∙ c.items.invariant.down) c.items.invariant.up
    (c.in-Err.ensures.passes down m.before n.0 (head ++ records_of m.all) start (down_lends m n.0 n.1) m.gathers)

pub items-smaller : goal.items-smaller
items-smaller g c =
    let n = next_up (lent c.items.one.reader.phase) (lent c.items.two.reader.phase) (sym c.next_file.ensures ∙ c.in-Some.is ∙ ap Some c.in-Up.is) in
    omega (arith, falls (lent c.items.two.reader.phase) (lent c.pass-in-Up.new.side.reader.phase) n.0 c.items.two.used c.pass-in-Up.new.side.used n.1 (omega (arith, c.in-Ok-pass.ensures.bound)) c.in-Ok-pass.ensures.on)

pub items-preserved : goal.items-preserved
items-preserved g c =
    let n = next_up (lent c.items.one.reader.phase) (lent c.items.two.reader.phase) (sym c.next_file.ensures ∙ c.in-Some.is ∙ ap Some c.in-Up.is) in
    let less = falls (lent c.items.two.reader.phase) (lent c.pass-in-Up.new.side.reader.phase) n.0 c.items.two.used c.pass-in-Up.new.side.used n.1 (omega (arith, c.in-Ok-pass.ensures.bound)) c.in-Ok-pass.ensures.on in
    record {
      down = c.items.invariant.down;
      up = c.in-Ok-pass.ensures.dir ∙ c.items.invariant.up;
      bound = c.items.invariant.bound;
      bound2 = c.in-Ok-pass.ensures.bound;
      kept = c.items.invariant.kept;
      kept2 = kept_on g.H.Shelf c.in-Ok-pass.field-0 c.args.second.now c.items.second c.pass-in-Up.new.shelf c.items.invariant.kept2 c.in-Ok-pass.ensures.shelf;
      faults = c.in-Ok-pass.ensures.cause ∙ c.items.invariant.faults;
      count = omega (arith, less, c.items.invariant.count);
      mixed = λ down up head start f.
          let m = c.items.invariant.mixed down up head start f in
          up_on m n.0 c.pass-in-Up.new.side (g.H.Shelf.rest c.pass-in-Up.new.shelf) c.pass-in-Up.new.page (tells g.O.Sink c.pass-in-Up.new.out) n.1 n.2
          (c.in-Ok-pass.ensures.passes up m.other n.0 (head ++ records_of m.all) start (up_lends m n.0 n.1) m.gathers);
    }

pub returns-in-Err-pass-clause-mixes : goal.returns-in-Err-pass-clause-mixes
returns-in-Err-pass-clause-mixes g c = λ down up head start f.
    let n = next_up (lent c.items.one.reader.phase) (lent c.items.two.reader.phase) (sym c.next_file.ensures ∙ c.in-Some.is ∙ ap Some c.in-Up.is) in
    let m = c.items.invariant.mixed down up head start f in
    up_halts c.in-Err-pass.halt m n.0 c.pass-in-Up.new.side (g.H.Shelf.rest c.pass-in-Up.new.shelf) c.pass-in-Up.new.page (tells g.O.Sink c.pass-in-Up.new.out) n.1 n.2
    c.items.invariant.down c.items.invariant.up (c.in-Err-pass.ensures.dir ∙ c.items.invariant.up)
    (c.in-Err-pass.ensures.passes up m.other n.0 (head ++ records_of m.all) start (up_lends m n.0 n.1) m.gathers)
