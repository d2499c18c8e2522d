use Rattle.std.proofs.Common.{◌≡◌, ◌∙◌}
use Rattle.pl_capture.specs.Entry.{view as entry}
use Rattle.pl_report.specs.Lines.{item_text}
use Rattle.pl_cli.specs.Output.{lines}
use Rattle.pl_cli.proofs.Gathered.{are_then, line_fails}
use Rattle.pl_cli.proofs.item.gather_with_verdicts.Goals as goal

pub returns-in-Ok-clause-gathered : goal.returns-in-Ok-clause-gathered
returns-in-Ok-clause-gathered g c =
    let text : c.as_bytes.result.now ≡ item_text c.args.number (entry c.args.item.now) = c.as_bytes.ensures.value ∙ c.deref.ensures.0 ∙ c.item_line.ensures in
    are_then c.gather_verdicts.result c.args.held.now.bytes.items _ _ c.as_bytes.result.now (item_text c.args.number (entry c.args.item.now)) (lines c.args.found.now.items)
    _ text c.in-Ok.ensures.gathered c.gather_verdicts.ensures.gathered

pub returns-in-Err-clause-gathered : goal.returns-in-Err-clause-gathered
returns-in-Err-clause-gathered g c =
    let text : c.as_bytes.result.now ≡ item_text c.args.number (entry c.args.item.now) = c.as_bytes.ensures.value ∙ c.deref.ensures.0 ∙ c.item_line.ensures in
    line_fails c.args.held.now.bytes.items c.as_bytes.result.now (item_text c.args.number (entry c.args.item.now)) (lines c.args.found.now.items)
    text c.in-Err.ensures.gathered
