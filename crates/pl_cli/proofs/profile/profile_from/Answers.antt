use Rattle.pl_cli.proofs.Profiles.{named_err, named_ok}
use Rattle.pl_cli.proofs.profile.profile_from.Goals as goal

pub returns-in-Ok-clause-named : goal.returns-in-Ok-clause-named
returns-in-Ok-clause-named c = named_ok c.args.text.now c.in-Ok.profile c.in-Ok.ensures.exact

pub returns-in-Err-clause-named : goal.returns-in-Err-clause-named
returns-in-Err-clause-named c = named_err c.args.text.now c.in-Err.error c.in-Err.ensures.exact
