use Rattle.std.proofs.Common.{◌≡◌, ◌≤◌, ◌-◌, ℕ, List, length, true}
use Rattle.pl_io.specs.Told.{ahead}
use Rattle.pl_cli.proofs.profile.read_text.Given as goal

abbrev pub invariant-loop-buffer : goal.invariant-loop-buffer
invariant-loop-buffer g l = record {
  bound : length l.text.items ≤ 65537;
  buffer : length l.buffer ≡ 4096;
  rest_is : g.H.Shelf.rest l.initial.shelf ≡ ahead l.text.items (g.H.Shelf.rest l.shelf);
  opens : g.H.Shelf.opens l.shelf ≡ g.H.Shelf.opens l.initial.shelf;
  name : g.H.Shelf.open_name l.shelf ≡ g.H.Shelf.open_name l.initial.shelf;
  opened : g.H.Shelf.is_open l.shelf ≡ true;
  told : g.H.Shelf.told l.shelf ≡ g.H.Shelf.told l.initial.shelf;
  files : (other : List ℕ) → g.H.Shelf.file l.shelf other ≡ g.H.Shelf.file l.initial.shelf other;
  sure : g.H.Shelf.sure l.initial.shelf ≡ true → g.H.Shelf.sure l.shelf ≡ true;
  kept : g.H.Shelf.faults l.shelf ≡ g.H.Shelf.faults l.initial.shelf;
}

abbrev pub decreases-loop-buffer : goal.decreases-loop-buffer
decreases-loop-buffer g l = 65537 - length l.text.items
