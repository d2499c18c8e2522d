use Rattle.pl_base.specs.declared.link.Dir.TheVariants.{Down, Up}
use Rattle.pl_credit.proofs.credits.Credits.gap.Goals as goal

pub returns-clause-stands : goal.returns-clause-stands
returns-clause-stands c = λ past. record {
  down_is = c.torn-nothing.ensures _ Down past;
  up_is = c.torn-nothing.ensures _ Up past;
}
