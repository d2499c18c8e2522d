use Rattle.std.proofs.Common.{◌∙◌, codes, refl, subst}
use Rattle.pl_profile.specs.declared.profile.Profile.{Profile}
use Rattle.pl_make.specs.Generated.{Gen}
use Rattle.pl_cli.specs.Output.{Report, output, status_of}
use Rattle.pl_cli.specs.Promise.{Answers, reported}
use Rattle.pl_cli.proofs.Trials.{of_sure}
use Rattle.pl_cli.proofs.generated.trial.Goals as goal

pub returns-in-Ok : goal.returns-in-Ok
returns-in-Ok g c =
    reported (subst (λ (p : Profile). Answers g.O.Sink (output Report p (Gen c.args.number c.args.count)) (status_of p (Gen c.args.number c.args.count)) c.args.out.now c.report_with.new.out c.report_with.result)
    (c.in-Ok.ensures.profile ∙ c.usual.ensures)
    (of_sure (Gen c.args.number c.args.count) refl refl (c.new-maker.ensures.files (codes "capture")) c.report_with.ensures.shows.judges))
