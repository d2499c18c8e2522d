use Rattle.pl_make.proofs.Lefts.{whole}
use Rattle.pl_make.proofs.making.Making.new.Goals as goal

pub returns : goal.returns
returns c = whole c.args.number c.args.count _ c.first.result c.header.ensures c.first.ensures.group
    c.first.ensures.index c.first.ensures.x
