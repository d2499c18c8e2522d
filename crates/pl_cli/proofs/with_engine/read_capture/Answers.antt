use Rattle.pl_cli.proofs.Files.{taken_cut, taken_nothing, taken_reads}
use Rattle.pl_cli.proofs.Tops.{so_far_nothing}
use Rattle.pl_cli.proofs.with_engine.read_capture.Goals as goal

pub returns-in-Ok-read_pieces-clause-judged : goal.returns-in-Ok-read_pieces-clause-judged
returns-in-Ok-read_pieces-clause-judged g c =
    taken_reads _ c.in-Ok.ensures.whole c.in-Ok-read_pieces.ensures.opened
    (c.in-Ok-read_pieces.ensures.judged c.args.engine.now.profile (so_far_nothing c.args.judging.now c.requires.judging c.requires.engine))

pub returns-in-Err-read_pieces-clause-judged : goal.returns-in-Err-read_pieces-clause-judged
returns-in-Err-read_pieces-clause-judged g c =
    taken_cut _ c.in-Ok.ensures.whole
    (c.in-Err-read_pieces.ensures.judged c.args.engine.now.profile (so_far_nothing c.args.judging.now c.requires.judging c.requires.engine))

pub returns-in-Err-clause-judged : goal.returns-in-Err-clause-judged
returns-in-Err-clause-judged g c =
    taken_nothing _ (so_far_nothing c.args.judging.now c.requires.judging c.requires.engine) c.in-Err.ensures.closed
