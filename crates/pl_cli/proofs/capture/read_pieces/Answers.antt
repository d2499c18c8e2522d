use Rattle.std.proofs.Common.{◌∙◌, ℕ, [], arith, length-take, refl, take, rules, ap}
use Rattle.pl_io.specs.Told.{ahead}
use Rattle.pl_cli.specs.declared.judging.Ended.TheVariants as ended
use Rattle.pl_cli.proofs.Files.{behind_ends, end_rest, far_cut, far_ends, far_on, far_refused, far_start, same_rest}
use Rattle.pl_cli.proofs.capture.read_pieces.Goals as goal

pub loop-taken-init : goal.loop-taken-init
loop-taken-init g c = record {
  bound = search rules;
  buffer = search rules;
  none = c.new-held.ensures;
  far = λ p f. far_start _ f;
  place = omega arith;
  items = omega arith;
  engine = omega arith;
  listed = omega arith;
  verdicts = omega arith;
  opens = refl;
  name = refl;
  opened = c.requires.opened;
  sure = λ h. h;
  shelf_kept = refl;
  kept = refl;
}

pub loop-taken-preserved : goal.loop-taken-preserved
loop-taken-preserved g c = record {
  bound = omega (arith, c.in-Ok.ensures.most);
  buffer = search rules;
  none = c.in-Ok-None.ensures.none;
  far = λ p f. far_on (take c.in-Ok.count c.read_front.new.buffer) c.in-Ok.count (c.loop-taken.invariant.far p f) c.in-Ok.ensures.bytes
      (omega (arith, c.in-Ok.ensures.most, length-take c.in-Ok.count c.read_front.new.buffer))
      (λ so_far. rw c.in-Ok-None.field-0-is at (c.in-Ok-None.ensures.judged p _ _ so_far));
  place = omega (arith, c.in-Ok-None.ensures.place, c.in-Ok.ensures.most, length-take c.in-Ok.count c.read_front.new.buffer);
  items = omega (arith, c.in-Ok-None.ensures.items, c.in-Ok.ensures.most, length-take c.in-Ok.count c.read_front.new.buffer);
  engine = omega (arith, c.in-Ok-None.ensures.engine, c.in-Ok.ensures.most, length-take c.in-Ok.count c.read_front.new.buffer);
  listed = c.in-Ok-None.ensures.listed;
  verdicts = c.in-Ok-None.ensures.verdicts;
  opens = c.in-Ok.ensures.opens ∙ c.loop-taken.invariant.opens;
  name = c.in-Ok.ensures.name_kept ∙ c.loop-taken.invariant.name;
  opened = c.in-Ok.ensures.opened;
  sure = λ h. c.in-Ok.ensures.still_sure (c.loop-taken.invariant.sure h);
  shelf_kept = c.in-Ok.ensures.cause.kept ∙ c.loop-taken.invariant.shelf_kept;
  kept = c.in-Ok-None.ensures.cause.kept ∙ c.loop-taken.invariant.kept;
}

pub returns-in-Err-clause-judged : goal.returns-in-Err-clause-judged
returns-in-Err-clause-judged g c = λ p f.
    far_ends ended.Fault [] (c.loop-taken.invariant.far p f) (same_rest _ _ c.in-Err.ensures.err) c.loop-taken.invariant.bound (λ read size so_far. (refl, so_far))

pub returns-then-count-eq0-clause-judged : goal.returns-then-count-eq0-clause-judged
returns-then-count-eq0-clause-judged g c = λ p f.
    let none = c.in-Ok.ensures.bytes ∙ ap (λ (n : ℕ). ahead (take n c.read_front.new.buffer) (g.H.Shelf.rest c.read_front.new.shelf)) c.if-count-eq0.true in
    far_ends ended.Whole [] (c.loop-taken.invariant.far p f) none c.loop-taken.invariant.bound
    (λ read size so_far. (refl, end_rest _ _ none (c.in-Ok.ensures.end c.if-count-eq0.true), so_far))

pub returns-in-Ok-Some-clause-judged : goal.returns-in-Ok-Some-clause-judged
returns-in-Ok-Some-clause-judged g c = λ p f.
    far_refused (take c.in-Ok.count c.read_front.new.buffer) c.in-Ok-Some.stop (c.loop-taken.invariant.far p f) c.in-Ok.ensures.bytes
    (omega (arith, c.in-Ok.ensures.most, length-take c.in-Ok.count c.read_front.new.buffer))
    (λ so_far. rw c.in-Ok-Some.field-0-is at (c.in-Ok-Some.ensures.judged p _ _ so_far))

pub returns-in-Err-judge_piece-clause-judged : goal.returns-in-Err-judge_piece-clause-judged
returns-in-Err-judge_piece-clause-judged g c = λ p f.
    far_cut (take c.in-Ok.count c.read_front.new.buffer) (c.loop-taken.invariant.far p f) c.in-Ok.ensures.bytes
    (omega (arith, c.in-Ok.ensures.most, length-take c.in-Ok.count c.read_front.new.buffer))
    (λ so_far. c.in-Err-judge_piece.ensures.judged p _ _ so_far)

pub returns-clause-judged : goal.returns-clause-judged
returns-clause-judged g c = λ p f.
    far_ends c.look_behind.result c.look_behind.ensures.bytes.0 (c.loop-taken.invariant.far p f) c.look_behind.ensures.bytes.1 c.loop-taken.invariant.bound
    (λ read size so_far. behind_ends c.look_behind.result c.look_behind.ensures.bytes.0 _ c.look_behind.ensures.bytes.2 read (omega (arith, size)) so_far)
