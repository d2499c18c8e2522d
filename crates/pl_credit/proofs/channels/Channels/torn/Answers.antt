use Rattle.pl_credit.specs.Link.{seen}
use Rattle.pl_credit.proofs.Parts.{get-eight}
use Rattle.pl_credit.proofs.channels.Channels.torn.Goals as goal

pub returns : goal.returns
returns c = λ vcs dir past. record {
  each = λ vc below channel is.
      rw (get-eight c.torn.result channel vc is) (c.torn.ensures (seen dir vc past));
}
