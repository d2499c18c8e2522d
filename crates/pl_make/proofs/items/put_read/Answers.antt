use Rattle.pl_make.proofs.Lawful.{read_fits, read_plain}
use Rattle.pl_make.proofs.items.put_read.Goals as goal

pub put_tlp-requires-clause-fits : goal.put_tlp-requires-clause-fits
put_tlp-requires-clause-fits c =
    rw c.read-read.ensures (read_fits c.args.k c.args.draw.now c.requires)

pub put_tlp-requires-clause-plain : goal.put_tlp-requires-clause-plain
put_tlp-requires-clause-plain c = rw c.read-read.ensures (read_plain c.args.k c.args.draw.now)
