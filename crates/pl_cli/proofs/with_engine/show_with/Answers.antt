use Rattle.std.proofs.Common.{refl}
use Rattle.pl_cli.specs.Progress.{IsTallyOf}
use Rattle.pl_cli.proofs.Judged.{judges, judges_lost, judges_status}
use Rattle.pl_cli.proofs.Tops.{closed_of, top_cut, top_exact, top_lost_end, top_lost_item}
use Rattle.pl_cli.proofs.with_engine.show_with.Goals as goal

pub returns-in-Ok : goal.returns-in-Ok
returns-in-Ok g c =
    let counts : IsTallyOf c.read_capture.new.engine c.tally-tally.result = record { counted = c.tally-tally.ensures } in
    let all = judges c.in-Ok.ended c.in-Ok.ensures.judged counts (record { once = c.in-Ok.ensures.opens; named = c.in-Ok.ensures.named })
    c.in-Ok.ensures.shelf_cause c.in-Ok.ensures.never_fails c.in-Ok.ensures.cause.kept c.close.ensures.closed in
    let closed = closed_of c.close.ensures.closed in
    record {
      shows = record {
        judges = all;
        status = judges_status all;
        exact = λ told b file n7 n8. top_exact c.close.result c.in-Ok.ensures.judged counts closed c.close.ensures.faulted told b file n7 n8;
        cut_short = λ told b file is7. top_cut c.in-Ok.ended c.close.result c.in-Ok.ensures.judged counts closed c.close.ensures.fault told b file is7;
        lost = λ told b file is8. top_lost_end _ c.in-Ok.ended c.close.result c.in-Ok.ensures.judged closed told b file is8;
        unopened = c.in-Ok.ensures.unopened;
      };
    }

pub returns-in-Err : goal.returns-in-Err
returns-in-Err g c =
    let all = judges_lost c.in-Err.ensures.judged (record { once = c.in-Err.ensures.opens; named = c.in-Err.ensures.named })
    c.in-Err.ensures.opened c.in-Err.ensures.shelf_kept c.in-Err.ensures.cause.failed refl in
    record {
      shows = record {
        judges = all;
        status = judges_status all;
        exact = λ told b file n7 n8. absurd (n8 refl);
        cut_short = λ told b file is7. absurd (cc);
        lost = λ told b file is8. top_lost_item c.in-Err.ensures.judged c.in-Err.ensures.opened told b file;
        unopened = c.in-Err.ensures.unopened;
      };
    }
