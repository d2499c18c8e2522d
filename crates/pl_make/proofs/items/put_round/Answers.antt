use Rattle.std.proofs.Common.{refl, arith}
use Rattle.pl_make.proofs.Lefts.{round_read, round_ack, round_first, round_second, round_later}
use Rattle.pl_make.proofs.Lefts.{round_credit}
use Rattle.pl_make.proofs.items.put_round.Goals as goal

pub returns-in-0 : goal.returns-in-0
returns-in-0 c = round_read c.args.k c.args.x c.args.index _ _ c.of-draw.result _ c.put_read.ensures
    c.in-0.is (omega arith) refl c.of-draw.ensures.drawn

pub returns-in-1 : goal.returns-in-1
returns-in-1 c = round_ack c.args.k c.args.x c.args.index _ _
    (rw c.ack.ensures.bytes at c.put_dllp.ensures) c.in-1.is (omega arith)

pub returns-in-2 : goal.returns-in-2
returns-in-2 c = round_first c.args.k c.args.x c.args.index _ c.of-draw.result _
    (rw c.start.ensures at c.put_completion.ensures) c.in-2.is (omega arith) c.of-draw.ensures.drawn

pub returns-in-3 : goal.returns-in-3
returns-in-3 c = round_second c.args.k c.args.x c.args.index _ _ c.of-draw.result _
    c.put_completion-in-3.ensures refl c.in-3.is (omega arith) c.of-draw.ensures.drawn

pub returns-in-4 : goal.returns-in-4
returns-in-4 c = round_later c.args.k c.args.x c.args.index _ _
    (rw c.ack-in-4.ensures.bytes at c.put_dllp-in-4.ensures) c.in-4.is (omega arith)

pub returns-in_default : goal.returns-in_default
returns-in_default c =
    round_credit c.args.k c.args.x c.args.index _ _
    (rw c.credits-bytes.ensures.bytes at c.put_dllp-in_default.ensures) (omega arith) (omega arith)
