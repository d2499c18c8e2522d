use Rattle.pl_cli.proofs.Shown.{under, without}
use Rattle.pl_cli.proofs.commands.show.Goals as goal

pub returns-in-Ok : goal.returns-in-Ok
returns-in-Ok g c = record { shows = under c.in-Ok.profile _ c.in-Ok.ensures.came.0 c.in-Ok.ensures.came.1 c.show_under.ensures.judges c.show_under.ensures.no_memory }

pub returns-in-Err : goal.returns-in-Err
returns-in-Err g c = record { shows = without c.in-Err.none c.in-Err.ensures.came c.refuse_profile.ensures.refused }
