use Rattle.std.proofs.Common.{refl}
use Rattle.pl_base.specs.declared.link.Class.TheVariants.{P, Np, Cpl}
use Rattle.pl_credit.proofs.channel.Channel.torn.Goals as goal

pub returns : goal.returns
returns c = λ past. record {
  is_torn_is = refl;
  posted_is = c.new-nothing.ensures.torn P past;
  non_posted_is = c.new-nothing.ensures.torn Np past;
  completion_is = c.new-nothing.ensures.torn Cpl past;
  latest_init1_is = refl;
  is_spoiled_since_is = refl;
  is_ready_is = refl;
}
