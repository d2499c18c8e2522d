use Rattle.std.proofs.Common.{◌≡◌, take}
use Rattle.pl_cli.specs.Output.{lines}
use Rattle.pl_cli.specs.Progress.{Gathers, tells}
use Rattle.pl_cli.proofs.item.gather_verdicts.Given as goal

abbrev pub invariant-loop-verdict : goal.invariant-loop-verdict
invariant-loop-verdict g l = record {
  gathers : Gathers l.initial.held.bytes.items l.held.bytes.items (lines (take l.verdict-index l.fn.found.items)) (tells g.O.Sink l.initial.out) (tells g.O.Sink l.out);
  kept : g.O.Sink.faults l.out ≡ g.O.Sink.faults l.initial.out;
}
