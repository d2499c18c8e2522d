use Rattle.pl_filter.specs.Trees.{tree}
use Rattle.pl_cli.specs.Promise.{listed}
use Rattle.pl_cli.proofs.CommandWords.{refused_list}
use Rattle.pl_cli.proofs.commands.list.Goals as goal

pub returns-in-Ok : goal.returns-in-Ok
returns-in-Ok g c = record { lists = listed (tree c.in-Ok.filter) (c.in-Ok.ensures.right (λ h. cc)) c.show.ensures.shows }

pub returns-in-Err : goal.returns-in-Err
returns-in-Err g c = record { lists = refused_list c.in-Err.error c.in-Err.ensures.right c.refuse_filter.ensures.refused }
