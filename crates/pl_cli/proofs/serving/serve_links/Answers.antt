use Rattle.std.proofs.Common.{◌≡◌, ◌+◌, ◌-◌, ◌*◌, true, false, refl, sym, subst, ap}
use Rattle.std.proofs.Common.{◌∙◌, arith, rules, ◌||◌}
use Rattle.pl_io.specs.Faults.{raised}
use Rattle.pl_io.specs.Links.{NoneLeft}
use Rattle.pl_io.specs.Told.{plus}
use Rattle.pl_cli.specs.Serving.{Lines, Session, failed_store, last_text}
use Rattle.pl_cli.proofs.Counted.{line_more, lines_end, none_written}
use Rattle.pl_cli.proofs.Served.{SoMany, all_served, has_less, is_served, none_left, none_served}
use Rattle.pl_cli.proofs.Served.{risen_more, step, still_sure, unrisen_more}
use Rattle.pl_cli.proofs.serving.serve_links.Goals as goal

pub loop-turn-init : goal.loop-turn-init
loop-turn-init g c = record {
  in_again = c.requires;
  within = omega arith;
  session = λ links is. none_served links (g.D.Door.links c.args.door.now)
      (g.K.Keeper.lives c.args.keeper.now) (g.K.Keeper.tells c.args.keeper.now)
      (g.K.Keeper.faults c.args.keeper.now) (g.D.Door.replies c.args.door.now)
      (g.O.Sink.written c.args.out.now) is;
  lines = none_written (g.K.Keeper.faults c.args.keeper.now) (g.O.Sink.written c.args.out.now);
  lived = λ lives. lives;
  sink = refl;
  door = refl;
  risen = λ is. cc;
  unrisen = λ is. refl;
  room = λ has.
      has_less (g.O.Sink.room c.args.out.now) (11 * c.args.turns + 12)
      (11 * (c.args.turns - 0) + 12) (omega arith) has;
  sure = λ is. (refl, is);
}

pub loop-turn-preserved : goal.loop-turn-preserved
loop-turn-preserved g c =
    let inv = c.loop-turn.invariant in
    let turn = c.serve_turn.ensures in
    let result = c.serve_turn.result in
    let served = is_served result c.in_default.not-NoLink c.in_default.not-Unwritten in
    let failed : c.either-store_failed.result
    ≡ (c.loop-turn.store_failed || failed_store result) = search rules in
    record {
      in_again = turn.in_again;
      within = omega arith;
      session = λ links is.
          subst (λ b. SoMany links (c.loop-turn.turn + 1) (g.D.Door.links c.serve_turn.new.door)
          (g.K.Keeper.lives c.serve_turn.new.keeper) (g.K.Keeper.tells c.args.keeper.now)
          (g.K.Keeper.tells c.serve_turn.new.keeper) (g.K.Keeper.faults c.args.keeper.now)
          (g.K.Keeper.faults c.serve_turn.new.keeper) (g.D.Door.replies c.args.door.now)
          (g.D.Door.replies c.serve_turn.new.door) (g.O.Sink.written c.args.out.now)
          (g.O.Sink.written c.serve_turn.new.out) b) (sym failed)
          (step links c.loop-turn.turn (g.D.Door.links c.loop-turn.door)
          (g.D.Door.links c.serve_turn.new.door) (g.K.Keeper.lives c.loop-turn.keeper)
          (g.K.Keeper.lives c.serve_turn.new.keeper) (g.K.Keeper.tells c.args.keeper.now)
          (g.K.Keeper.tells c.loop-turn.keeper) (g.K.Keeper.tells c.serve_turn.new.keeper)
          (g.K.Keeper.faults c.args.keeper.now) (g.K.Keeper.faults c.loop-turn.keeper)
          (g.K.Keeper.faults c.serve_turn.new.keeper) (g.D.Door.replies c.args.door.now)
          (g.D.Door.replies c.loop-turn.door) (g.D.Door.replies c.serve_turn.new.door)
          (g.O.Sink.written c.args.out.now) (g.O.Sink.written c.loop-turn.out)
          (g.O.Sink.written c.serve_turn.new.out) c.loop-turn.store_failed result
          (inv.session links is) turn.lived turn.empty c.in_default.not-NoLink turn.gives
          turn.serves served);
      lines =
          line_more c.loop-turn.turn (g.K.Keeper.faults c.args.keeper.now)
          (g.K.Keeper.faults c.loop-turn.keeper) (g.K.Keeper.faults c.serve_turn.new.keeper)
          (g.O.Sink.written c.args.out.now) (g.O.Sink.written c.loop-turn.out)
          (g.O.Sink.written c.serve_turn.new.out) result inv.lines served (turn.line served)
          turn.store turn.kept;
      lived = λ lives. inv.lived (turn.lived lives);
      sink = turn.sink_kept c.in_default.not-Unwritten ∙ inv.sink;
      door = turn.door_kept c.in_default.not-NoLink ∙ inv.door;
      risen = λ is.
          risen_more (g.K.Keeper.faults c.args.keeper.now) (g.K.Keeper.faults c.loop-turn.keeper)
          (g.K.Keeper.faults c.serve_turn.new.keeper) c.loop-turn.store_failed result served
          turn.store turn.kept inv.risen inv.unrisen (sym failed ∙ is);
      unrisen = λ is.
          unrisen_more (g.K.Keeper.faults c.args.keeper.now)
          (g.K.Keeper.faults c.loop-turn.keeper) (g.K.Keeper.faults c.serve_turn.new.keeper)
          c.loop-turn.store_failed result served turn.kept inv.unrisen (sym failed ∙ is);
      room = λ has.
          (turn.room (11 * (c.args.turns - (c.loop-turn.turn + 1)) + 12)
          (has_less (g.O.Sink.room c.loop-turn.out)
          (11 * (c.args.turns - c.loop-turn.turn) + 12)
          (11 + (11 * (c.args.turns - (c.loop-turn.turn + 1)) + 12)) (omega arith)
          (inv.room has))).1;
      sure = λ is.
          let before = inv.sure is in
          let now = turn.sure before.1 in (
            failed ∙ still_sure c.loop-turn.store_failed result served before.0 now.0,
            now.1,
          );
    }

pub returns-in-NoLink-clause-session : goal.returns-in-NoLink-clause-session
returns-in-NoLink-clause-session g c = λ links is written.
    let inv = c.loop-turn.invariant in
    let so_far = inv.session links is in
    let left = c.serve_turn.ensures.no_link c.in-NoLink.is in
    let door : g.D.Door.faults c.serve_turn.new.door
    ≡ raised (g.D.Door.faults c.args.door.now) = left.4 ∙ ap raised inv.door in
    let line : g.O.Sink.written c.end.new.out
    ≡ plus (g.O.Sink.written c.loop-turn.out) (last_text c.loop-turn.store_failed true) =
    c.end.ensures.written written
    ∙ ap (λ o. plus (g.O.Sink.written o) (last_text c.loop-turn.store_failed true)) left.3 in
    subst (λ k. Session links c.args.turns (g.K.Keeper.lives k)
    (g.K.Keeper.tells c.args.keeper.now) (g.K.Keeper.tells k)
    (g.K.Keeper.faults c.args.keeper.now) (g.K.Keeper.faults k)
    (g.D.Door.replies c.args.door.now) (g.D.Door.replies c.serve_turn.new.door)
    (g.O.Sink.written c.args.out.now) (g.O.Sink.written c.end.new.out)
    (g.D.Door.faults c.args.door.now) (g.D.Door.faults c.serve_turn.new.door) c.end.result)
    (sym left.2)
    (subst (λ r. Session links c.args.turns (g.K.Keeper.lives c.loop-turn.keeper)
    (g.K.Keeper.tells c.args.keeper.now) (g.K.Keeper.tells c.loop-turn.keeper)
    (g.K.Keeper.faults c.args.keeper.now) (g.K.Keeper.faults c.loop-turn.keeper)
    (g.D.Door.replies c.args.door.now) r
    (g.O.Sink.written c.args.out.now) (g.O.Sink.written c.end.new.out)
    (g.D.Door.faults c.args.door.now) (g.D.Door.faults c.serve_turn.new.door) c.end.result)
    (sym left.1)
    (none_left links c.args.turns (g.K.Keeper.lives c.loop-turn.keeper)
    (g.K.Keeper.tells c.args.keeper.now) (g.K.Keeper.tells c.loop-turn.keeper)
    (g.K.Keeper.faults c.args.keeper.now) (g.K.Keeper.faults c.loop-turn.keeper)
    (g.D.Door.replies c.args.door.now) (g.D.Door.replies c.loop-turn.door)
    (g.O.Sink.written c.args.out.now) (g.O.Sink.written c.loop-turn.out)
    (g.O.Sink.written c.end.new.out) c.loop-turn.store_failed
    (g.D.Door.faults c.args.door.now) (g.D.Door.faults c.serve_turn.new.door) c.end.result
    c.loop-turn.turn (g.D.Door.links c.loop-turn.door) c.loop-turn-test.true
    (subst NoneLeft so_far.left_is left.0) so_far line (c.end.ensures.status written) door))

pub returns-clause-session : goal.returns-clause-session
returns-clause-session g c = λ links is written.
    let inv = c.loop-turn.invariant in
    all_served links c.args.turns (g.K.Keeper.lives c.loop-turn.keeper)
    (g.K.Keeper.tells c.args.keeper.now) (g.K.Keeper.tells c.loop-turn.keeper)
    (g.K.Keeper.faults c.args.keeper.now) (g.K.Keeper.faults c.loop-turn.keeper)
    (g.D.Door.replies c.args.door.now) (g.D.Door.replies c.loop-turn.door)
    (g.O.Sink.written c.args.out.now) (g.O.Sink.written c.loop-turn.out)
    (g.O.Sink.written c.end-2.new.out) c.loop-turn.store_failed
    (g.D.Door.faults c.args.door.now) (g.D.Door.faults c.loop-turn.door) c.end-2.result
    c.loop-turn.turn (g.D.Door.links c.loop-turn.door) inv.within (λ more. omega arith)
    (inv.session links is) (c.end-2.ensures.written written) (c.end-2.ensures.status written)
    inv.door

pub returns-in-NoLink-clause-lines : goal.returns-in-NoLink-clause-lines
returns-in-NoLink-clause-lines g c = λ written.
    let inv = c.loop-turn.invariant in
    let left = c.serve_turn.ensures.no_link c.in-NoLink.is in
    let line : g.O.Sink.written c.end.new.out
    ≡ plus (g.O.Sink.written c.loop-turn.out) (last_text c.loop-turn.store_failed true) =
    c.end.ensures.written written
    ∙ ap (λ o. plus (g.O.Sink.written o) (last_text c.loop-turn.store_failed true)) left.3 in
    subst (λ k. Lines c.args.turns (g.K.Keeper.faults c.args.keeper.now) (g.K.Keeper.faults k)
    (g.O.Sink.written c.args.out.now) (g.O.Sink.written c.end.new.out) c.end.result) (sym left.2)
    (lines_end c.loop-turn.turn c.args.turns (g.K.Keeper.faults c.args.keeper.now)
    (g.K.Keeper.faults c.loop-turn.keeper) (g.O.Sink.written c.args.out.now)
    (g.O.Sink.written c.loop-turn.out) (g.O.Sink.written c.end.new.out)
    c.loop-turn.store_failed true c.end.result inv.within (λ is. cc) inv.lines line
    (c.end.ensures.status written))

pub returns-clause-lines : goal.returns-clause-lines
returns-clause-lines g c = λ written.
    let inv = c.loop-turn.invariant in
    lines_end c.loop-turn.turn c.args.turns (g.K.Keeper.faults c.args.keeper.now)
    (g.K.Keeper.faults c.loop-turn.keeper) (g.O.Sink.written c.args.out.now)
    (g.O.Sink.written c.loop-turn.out) (g.O.Sink.written c.end-2.new.out)
    c.loop-turn.store_failed false c.end-2.result inv.within (λ is. omega arith) inv.lines
    (c.end-2.ensures.written written) (c.end-2.ensures.status written)
