use Rattle.std.proofs.Common.{◌∙◌, refl}
use Rattle.pl_cli.specs.Progress.{tells}
use Rattle.pl_cli.proofs.Gathered.{gathers_nothing}
use Rattle.pl_cli.proofs.Verdicts.{line_gathers, line_lost, lines_gathered}
use Rattle.pl_cli.proofs.item.gather_verdicts.Goals as goal

pub loop-verdict-init : goal.loop-verdict-init
loop-verdict-init g c = record { gathers = gathers_nothing c.args.held.now.bytes.items (tells g.O.Sink c.args.out.now); kept = refl }

pub loop-verdict-preserved : goal.loop-verdict-preserved
loop-verdict-preserved g c = record {
  gathers = line_gathers c.args.found.now.items c.as_slice-verdict-items.result.now c.loop-verdict.verdict-index c.as_slice-verdict-items.ensures.value
      c.loop-verdict.invariant.gathers _ _ c.loop-verdict-test.true refl c.in-Ok.ensures.gathered;
  kept = c.in-Ok.ensures.cause.kept ∙ c.loop-verdict.invariant.kept;
}

pub returns-in-Err-clause-gathered : goal.returns-in-Err-clause-gathered
returns-in-Err-clause-gathered g c =
    line_lost c.args.found.now.items c.as_slice-verdict-items.result.now c.loop-verdict.verdict-index c.as_slice-verdict-items.ensures.value
    c.loop-verdict.invariant.gathers _ _ c.loop-verdict-test.true refl c.in-Err.ensures.gathered

pub returns-clause-gathered : goal.returns-clause-gathered
returns-clause-gathered g c =
    lines_gathered c.args.found.now.items c.as_slice-verdict-items.result.now c.loop-verdict.verdict-index c.as_slice-verdict-items.ensures.value
    c.loop-verdict.invariant.gathers c.loop-verdict-test.false
