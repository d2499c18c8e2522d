use Rattle.std.proofs.Common.{◌≡◌, ◌≤◌, ◌*◌, ◌-◌, ◌^◌, [], length, true}
use Rattle.pl_base.specs.declared.verdict.TheConstants.{MOST_VERDICTS}
use Rattle.pl_profile.specs.declared.profile.Profile.{Profile}
use Rattle.pl_cli.specs.Progress.{SoFar, meant, tells}
use Rattle.pl_cli.proofs.Files.{Far}
use Rattle.pl_cli.proofs.capture.read_pieces.Given as goal

abbrev pub invariant-loop-taken : goal.invariant-loop-taken
invariant-loop-taken g l = record {
  bound : l.taken ≤ 2 ^ 40;
  buffer : length l.buffer ≡ 4096;
  none : l.held.bytes.items ≡ [];
  far : (p : Profile) →
      SoFar (meant l.view) p [] l.initial.judging l.initial.engine (tells g.O.Sink l.initial.out) (tells g.O.Sink l.initial.out) →
      Far (meant l.view) p l.judging l.engine (tells g.O.Sink l.initial.out) (tells g.O.Sink l.out) (g.H.Shelf.rest l.initial.shelf) (g.H.Shelf.rest l.shelf) l.taken;
  place : l.judging.reader.place ≤ l.taken;
  items : l.judging.items ≤ l.taken;
  engine : l.engine.items ≤ l.taken;
  listed : l.judging.listed ≤ l.judging.items;
  verdicts : l.judging.verdicts ≤ l.judging.items * MOST_VERDICTS;
  opens : g.H.Shelf.opens l.shelf ≡ g.H.Shelf.opens l.initial.shelf;
  name : g.H.Shelf.open_name l.shelf ≡ g.H.Shelf.open_name l.initial.shelf;
  opened : g.H.Shelf.is_open l.shelf ≡ true;
  sure : g.H.Shelf.sure l.initial.shelf ≡ true → g.H.Shelf.sure l.shelf ≡ true;
  shelf_kept : g.H.Shelf.faults l.shelf ≡ g.H.Shelf.faults l.initial.shelf;
  kept : g.O.Sink.faults l.out ≡ g.O.Sink.faults l.initial.out;
}

abbrev pub decreases-loop-taken : goal.decreases-loop-taken
decreases-loop-taken g l = 2 ^ 40 - l.taken
