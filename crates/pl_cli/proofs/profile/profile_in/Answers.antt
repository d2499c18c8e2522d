use Rattle.pl_cli.proofs.Profiles.{of_text_none, of_text_read}
use Rattle.pl_cli.proofs.profile.profile_in.Goals as goal

pub returns-in-Ok-clause-of_text : goal.returns-in-Ok-clause-of_text
returns-in-Ok-clause-of_text g c =
    of_text_read c.in-Ok.text.items c.deref.result.now _ _ c.profile_from.result c.in-Ok.ensures.text c.deref.ensures.value c.profile_from.ensures.named

pub returns-in-Err-clause-of_text : goal.returns-in-Err-clause-of_text
returns-in-Err-clause-of_text g c = of_text_none c.in-Err.none _ c.in-Err.ensures.memory
