use Rattle.std.proofs.Common.{List, ℕ, length, sym, subst, arith}
use Rattle.pl_io.specs.Told.{HasRoom}
use Rattle.pl_report.specs.ServedLines.{store_fault_text, door_fault_text}
use Rattle.pl_cli.proofs.ServeWords.{one_of_faults}
use Rattle.pl_cli.proofs.Served.{has_less}
use Rattle.pl_cli.proofs.serving.end.Goals as goal

pub returns-then-store_failed-clause-room : goal.returns-then-store_failed-clause-room
unfolding store_fault_text
returns-then-store_failed-clause-room g c = λ has.
    c.end_with.ensures.room
    (subst (λ (line : List ℕ). HasRoom (g.O.Sink.room c.args.out.now) (length line))
    (sym c.store_fault_line.ensures) has)

pub returns-then-door_failed-clause-room : goal.returns-then-door_failed-clause-room
unfolding door_fault_text
returns-then-door_failed-clause-room g c = λ has.
    c.end_with-then-door_failed.ensures.room
    (subst (λ (line : List ℕ). HasRoom (g.O.Sink.room c.args.out.now) (length line))
    (sym c.door_fault_line.ensures)
    (has_less (g.O.Sink.room c.args.out.now) 12 11 (omega arith) has))

pub returns-then-store_failed-clause-range : goal.returns-then-store_failed-clause-range
returns-then-store_failed-clause-range g c =
    one_of_faults _ 10 c.end_with.ensures.either (omega arith) (omega arith)

pub returns-then-door_failed-clause-range : goal.returns-then-door_failed-clause-range
returns-then-door_failed-clause-range g c =
    one_of_faults _ 11 c.end_with-then-door_failed.ensures.either (omega arith) (omega arith)
