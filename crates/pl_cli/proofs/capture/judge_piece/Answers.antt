use Rattle.std.proofs.Common.{◌++◌}
use Rattle.pl_cli.proofs.Pieces.{piece_unwritten, piece_written}
use Rattle.pl_cli.proofs.capture.judge_piece.Goals as goal

pub returns-in-Ok-write-clause-judged : goal.returns-in-Ok-write-clause-judged
returns-in-Ok-write-clause-judged g c = λ p before start f.
    piece_written _ p _ _ start (before ++ c.args.piece.now) c.in-Ok.stop (c.in-Ok.ensures.judged p before start f) c.in-Ok-write.ensures.gathered c.in-Ok-write.ensures.none

pub returns-in-Err-write-clause-judged : goal.returns-in-Err-write-clause-judged
returns-in-Err-write-clause-judged g c = λ p before start f.
    piece_unwritten _ _ (before ++ c.args.piece.now) c.in-Ok.stop (c.in-Ok.ensures.judged p before start f) c.in-Err-write.ensures.some c.in-Err-write.ensures.gathered
