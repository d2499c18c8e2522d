-- A request that is refused before anything is looked up has a reply of its own.
use Rattle.std.proofs.Common.{◌≡◌, true, refl}
use Rattle.pl_web.specs.Refusals.{status_of}
use Rattle.pl_web.specs.Statuses.{is_answer}
use Rattle.pl_web.specs.declared.refusal.Refusal.{Refusal}
use Rattle.pl_web.specs.declared.refusal.Refusal.TheVariants.{Framing, Route, WrongMethod, Name}
use Rattle.pl_web.specs.declared.refusal.Refusal.TheVariants.{NoRule, NoLength, TooLong}

pub refusals_answer : (refusal : Refusal) → is_answer (status_of refusal) ≡ true
refusals_answer Framing = refl
refusals_answer Route = refl
refusals_answer (WrongMethod method) = refl
refusals_answer Name = refl
refusals_answer NoRule = refl
refusals_answer NoLength = refl
refusals_answer TooLong = refl
