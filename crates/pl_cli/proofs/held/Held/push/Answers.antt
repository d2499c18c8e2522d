use Rattle.std.proofs.Common.{[]}
use Rattle.pl_cli.proofs.Gathered.{fails_first, line_behind}
use Rattle.pl_cli.proofs.held.Held.push.Goals as goal

pub returns-in-Ok-try_extend_from_slice-clause-gathered : goal.returns-in-Ok-try_extend_from_slice-clause-gathered
returns-in-Ok-try_extend_from_slice-clause-gathered g c =
    line_behind c.args.self.now.bytes.items _ _ c.args.line.now c.in-Ok.ensures.gathered c.in-Ok-try_extend_from_slice.ensures.ok

pub returns-in-Err-clause-gathered : goal.returns-in-Err-clause-gathered
returns-in-Err-clause-gathered g c = fails_first c.args.self.now.bytes.items [] c.args.line.now c.in-Err.ensures.gathered
