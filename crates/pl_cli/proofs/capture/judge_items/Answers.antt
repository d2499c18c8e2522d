use Rattle.std.proofs.Common.{◌++◌, ◌+◌, ◌∙◌, arith, ap, drop, length-drop, take, rules}
use Rattle.std.proofs.lemmas.List.{take_rest}
use Rattle.pl_cli.proofs.Pieces.{all_behind, all_on, part_on, piece_bad, piece_blocked, piece_done, piece_end, piece_item, piece_lost, piece_more, gathering_start}
use Rattle.pl_cli.proofs.capture.judge_items.Goals as goal

pub loop-place-init : goal.loop-place-init
loop-place-init g c = record {
  bound = search rules;
  so_far = λ p before w f. gathering_start before c.args.piece.now _ c.requires.none f;
  none = search rules;
  reader = search rules;
  items = search rules;
  engine = search rules;
  listed = search rules;
  verdicts = search rules;
  kept = search rules;
}

pub returns-in-More-clause-judged : goal.returns-in-More-clause-judged
returns-in-More-clause-judged g c = λ p before w f.
    let so_far = c.loop-place.invariant.so_far p before w f in
    piece_more (before ++ take c.loop-place.place c.args.piece.now) _ _ c.feed.new.self
    (all_on before c.args.piece.now _ c.loop-place.place (take_rest c.args.piece.now c.loop-place.place)) so_far
    (c.in-More.ensures.answers _ so_far.judged.reader_stands) c.in-More.ensures.becomes

pub loop-place-preserved-in-End : goal.loop-place-preserved-in-End
loop-place-preserved-in-End g c = record {
  bound = omega (arith, c.in-End.ensures.uses, rw take_rest at c.in-End.ensures.uses, length-drop c.loop-place.place c.args.piece.now);
  so_far = λ p before w f.
      let so_far = c.loop-place.invariant.so_far p before w f in
      piece_end (before ++ take c.loop-place.place c.args.piece.now) _ _ c.feed.new.self
      (part_on before c.args.piece.now _ c.loop-place.place c.in-End.used (take_rest c.args.piece.now c.loop-place.place)) so_far
      (c.in-End.ensures.answers _ so_far.judged.reader_stands) c.in-End.ensures.becomes;
  none = c.loop-place.invariant.none;
  reader = omega (arith, c.in-End.ensures.rises);
  items = omega arith;
  engine = omega arith;
  listed = search rules;
  verdicts = search rules;
  kept = search rules;
}

pub returns-in-Bad-clause-judged : goal.returns-in-Bad-clause-judged
returns-in-Bad-clause-judged g c = λ p before w f.
    let so_far = c.loop-place.invariant.so_far p before w f in
    piece_bad (before ++ take c.loop-place.place c.args.piece.now) _ _ c.feed.new.self c.in-Bad.stop
    (all_on before c.args.piece.now _ c.loop-place.place (take_rest c.args.piece.now c.loop-place.place)) so_far
    (c.in-Bad.ensures.answers _ so_far.judged.reader_stands) c.in-Bad.ensures.becomes

pub loop-place-preserved : goal.loop-place-preserved
loop-place-preserved g c = record {
  bound = omega (arith, c.in-Item.ensures.uses, rw take_rest at c.in-Item.ensures.uses, length-drop c.loop-place.place c.args.piece.now);
  so_far = λ p before w f.
      let so_far = c.loop-place.invariant.so_far p before w f in
      piece_item (before ++ take c.loop-place.place c.args.piece.now) _ _ c.feed.new.self
      (part_on before c.args.piece.now _ c.loop-place.place c.in-Item.used (take_rest c.args.piece.now c.loop-place.place)) so_far
      (c.in-Item.ensures.answers _ so_far.judged.reader_stands) c.judge_item.ensures.reader
      (λ past x h s i. rw c.in-Ok-None.field-0-is at (c.in-Ok-None.ensures.judged past x h s i));
  none = c.in-Ok-None.ensures.none;
  reader = omega (arith, c.in-Item.ensures.rises, ap (λ s. s.place) c.judge_item.ensures.reader);
  items = omega (arith, c.in-Item.ensures.uses, c.judge_item.ensures.items);
  engine = omega (arith, c.in-Item.ensures.uses, c.judge_item.ensures.engine);
  listed = c.judge_item.ensures.listed;
  verdicts = c.judge_item.ensures.verdicts;
  kept = c.in-Ok-None.ensures.cause.kept ∙ c.loop-place.invariant.kept;
}

pub returns-in-Ok-Some-clause-judged : goal.returns-in-Ok-Some-clause-judged
returns-in-Ok-Some-clause-judged g c = λ p before w f.
    let so_far = c.loop-place.invariant.so_far p before w f in
    let rest = take_rest c.args.piece.now c.loop-place.place in
    piece_blocked (before ++ take c.loop-place.place c.args.piece.now) _ (drop (c.loop-place.place + c.in-Item.used) c.args.piece.now) _ c.feed.new.self c.in-Ok-Some.stop
    (ap (λ l. l ++ drop (c.loop-place.place + c.in-Item.used) c.args.piece.now) (part_on before c.args.piece.now _ c.loop-place.place c.in-Item.used rest)
    ∙ all_behind before c.args.piece.now (c.loop-place.place + c.in-Item.used)) so_far
    (c.in-Item.ensures.answers _ so_far.judged.reader_stands)
    (λ past x h s i. rw c.in-Ok-Some.field-0-is at (c.in-Ok-Some.ensures.judged past x h s i))

pub returns-in-Err-clause-judged : goal.returns-in-Err-clause-judged
returns-in-Err-clause-judged g c = λ p before w f.
    let so_far = c.loop-place.invariant.so_far p before w f in
    let rest = take_rest c.args.piece.now c.loop-place.place in
    piece_lost (before ++ take c.loop-place.place c.args.piece.now) _ (drop (c.loop-place.place + c.in-Item.used) c.args.piece.now) _ c.feed.new.self
    (ap (λ l. l ++ drop (c.loop-place.place + c.in-Item.used) c.args.piece.now) (part_on before c.args.piece.now _ c.loop-place.place c.in-Item.used rest)
    ∙ all_behind before c.args.piece.now (c.loop-place.place + c.in-Item.used)) so_far
    (c.in-Item.ensures.answers _ so_far.judged.reader_stands) c.in-Err.ensures.judged

pub returns-clause-judged : goal.returns-clause-judged
returns-clause-judged g c = λ p before w f.
    piece_done before c.args.piece.now c.loop-place.place c.loop-place-test.false (c.loop-place.invariant.so_far p before w f)
