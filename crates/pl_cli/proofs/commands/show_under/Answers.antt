use Rattle.std.proofs.Common.{subst}
use Rattle.pl_profile.specs.declared.profile.Profile.{Profile}
use Rattle.pl_cli.specs.Progress.{meant}
use Rattle.pl_cli.specs.Promise.{Judges}
use Rattle.pl_cli.proofs.commands.show_under.Goals as goal

pub returns-in-Ok-clause-judges : goal.returns-in-Ok-clause-judges
returns-in-Ok-clause-judges g c = λ n9.
    subst (λ (p : Profile). Judges g.H.Shelf g.O.Sink (meant c.args.view.now) p c.args.capture.now c.args.shelf.now c.show_with.new.shelf c.args.out.now c.show_with.new.out c.show_with.result)
    c.in-Ok.ensures.profile c.show_with.ensures.shows.judges
