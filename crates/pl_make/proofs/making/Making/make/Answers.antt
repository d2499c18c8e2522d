use Rattle.pl_make.proofs.Lefts.{item_made, last_made, moved, end_made, nothing_left}
use Rattle.pl_make.proofs.making.Making.make.Goals as goal

pub returns-in-Some-clause-same : goal.returns-in-Some-clause-same
returns-in-Some-clause-same c =
    moved c.args.self.now.count _ _ c.args.self.now.next _ c.in-Item.position c.requires
    c.in-Item.is
    (item_made c.args.self.now.count c.in-Item.position c.in-Some.next _ c.put_into.ensures
    c.in-Some.ensures)

pub returns-in-None-clause-same : goal.returns-in-None-clause-same
returns-in-None-clause-same c =
    moved c.args.self.now.count _ _ c.args.self.now.next _ c.in-Item.position c.requires
    c.in-Item.is
    (last_made c.args.self.now.count c.in-Item.position _ c.put_into.ensures c.in-None.ensures)

pub returns-in-End-clause-same : goal.returns-in-End-clause-same
returns-in-End-clause-same c =
    end_made c.args.self.now.count _ _ c.args.self.now.next c.requires c.in-End.is
    (rw c.from.ensures at c.put_end.ensures)

pub returns-in-Nothing-clause-some : goal.returns-in-Nothing-clause-some
returns-in-Nothing-clause-some c =
    λ none. nothing_left c.args.self.now.count _ c.args.self.now.next c.requires c.in-Nothing.is
