use Rattle.std.proofs.Common.{arith}
use Rattle.pl_tlp.specs.Kinds.{layout_of}
use Rattle.pl_tlp.proofs.FirstDw.{tag_small}
use Rattle.pl_pair.proofs.transaction.TransactionId.answered.Goals as goal

pub returns-clause-range : goal.returns-clause-range
returns-clause-range g c = record {
  requester = omega arith;
  tag = rw c.tag.ensures
      (tag_small (layout_of (g.P.Packet.fields c.args.tlp.now).kind) (g.P.Packet.fields c.args.tlp.now).tag c.requires.fits.layout.tag);
}
