use Rattle.std.proofs.Common.{sym}
use Rattle.pl_capture.specs.Entry.{view}
use Rattle.pl_excerpt.proofs.Copies.{follows_on, room_for}
use Rattle.pl_excerpt.proofs.copying.copy_item.Goals as goal

pub select-requires-clause-room : goal.select-requires-clause-room
select-requires-clause-room g c =
    let f = c.requires.follows in
    let j = c.is_judged.ensures.judges c.if-not-is_judged.false in
    room_for c.args.engine.now.profile c.args.witnesses.now.lanes f.past (view c.args.item.now)
    f.lanes_stand f.ready (j.allowed f.past f.engine_stands)

pub returns-in-Ok-clause-follows : goal.returns-in-Ok-clause-follows
returns-in-Ok-clause-follows g c =
    let f = c.requires.follows in
    follows_on (view c.args.item.now) f (c.is_judged.ensures.judges c.if-not-is_judged.false)
    (c.in-Ok-true.ensures.stands f.past f.lanes_stand (sym f.number_is))
    (c.in-Ok-true.ensures.ready c.args.engine.now.profile.unacknowledged f.ready)

pub returns-in-Ok-false-clause-follows : goal.returns-in-Ok-false-clause-follows
returns-in-Ok-false-clause-follows g c =
    let f = c.requires.follows in
    follows_on (view c.args.item.now) f (c.is_judged.ensures.judges c.if-not-is_judged.false)
    (c.in-Ok-false.ensures.stands f.past f.lanes_stand (sym f.number_is))
    (c.in-Ok-false.ensures.ready c.args.engine.now.profile.unacknowledged f.ready)
