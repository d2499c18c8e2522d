use Rattle.std.proofs.Common.{◌≡◌, ◌≤◌, ◌+◌, ◌-◌, ◌*◌, List, true, false}
use Rattle.std.specs.Prelude.{Some}
use Rattle.pl_io.specs.Links.{Coming}
use Rattle.pl_io.specs.Told.{HasRoom}
use Rattle.pl_cli.specs.Serving.{Risen}
use Rattle.pl_cli.proofs.Counted.{SoWritten}
use Rattle.pl_cli.proofs.Served.{SoMany}
use Rattle.pl_cli.proofs.serving.serve_links.Given as goal

abbrev pub invariant-loop-turn : goal.invariant-loop-turn
invariant-loop-turn g l = record {
  in_again : g.D.Door.is_out l.door ≡ false;
  within : l.turn ≤ l.turns;
  session :
      (links : List Coming) → g.D.Door.links l.initial.door ≡ Some links
      → SoMany links l.turn (g.D.Door.links l.door) (g.K.Keeper.lives l.keeper)
      (g.K.Keeper.tells l.initial.keeper) (g.K.Keeper.tells l.keeper)
      (g.K.Keeper.faults l.initial.keeper) (g.K.Keeper.faults l.keeper)
      (g.D.Door.replies l.initial.door) (g.D.Door.replies l.door)
      (g.O.Sink.written l.initial.out) (g.O.Sink.written l.out) l.store_failed;
  lines :
      SoWritten l.turn (g.K.Keeper.faults l.initial.keeper) (g.K.Keeper.faults l.keeper)
      (g.O.Sink.written l.initial.out) (g.O.Sink.written l.out);
  lived : g.K.Keeper.lives l.keeper → g.K.Keeper.lives l.initial.keeper;
  sink : g.O.Sink.faults l.out ≡ g.O.Sink.faults l.initial.out;
  door : g.D.Door.faults l.door ≡ g.D.Door.faults l.initial.door;
  risen : l.store_failed ≡ true
      → Risen (g.K.Keeper.faults l.initial.keeper) (g.K.Keeper.faults l.keeper);
  unrisen : l.store_failed ≡ false
      → g.K.Keeper.faults l.keeper ≡ g.K.Keeper.faults l.initial.keeper;
  room : HasRoom (g.O.Sink.room l.initial.out) (11 * l.turns + 12)
      → HasRoom (g.O.Sink.room l.out) (11 * (l.turns - l.turn) + 12);
  sure : g.K.Keeper.sure l.initial.keeper ≡ true
      → (l.store_failed ≡ false) × (g.K.Keeper.sure l.keeper ≡ true);
}

abbrev pub decreases-loop-turn : goal.decreases-loop-turn
decreases-loop-turn g l = l.turns - l.turn
