use Rattle.std.proofs.Common.{subst}
use Rattle.pl_io.specs.Links.{Closed, Gives}
use Rattle.pl_web.proofs.Linked.{linked}
use Rattle.pl_web.proofs.link.serve_link.Goals as goal

pub returns-clause-serves : goal.returns-clause-serves
returns-clause-serves g c = λ link others links.
    let conn = c.in_ok-link.link in
    let one = c.serve_one-served.ensures in
    let gives = subst (λ l. Gives l (g.D.Door.links c.next.new.self) (g.D.Link.Conn.incoming conn)
    (g.D.Link.Conn.written conn) (g.D.Link.Conn.room conn)) links c.in_ok-link.ensures.gives in
    linked link (g.K.Keeper.lives c.serve_one-served.new.keeper)
    (g.K.Keeper.tells c.args.keeper.now) (g.K.Keeper.tells c.serve_one-served.new.keeper)
    (g.K.Keeper.faults c.args.keeper.now) (g.K.Keeper.faults c.serve_one-served.new.keeper)
    (g.D.Link.Conn.faults conn) (g.D.Link.Conn.faults c.serve_one-served.new.conn)
    c.serve_one-served.result (g.D.Link.Conn.room conn) (g.D.Link.Conn.written conn)
    (g.D.Link.Conn.written c.serve_one-served.new.conn)
    (g.D.Door.replies c.args.door.now) (g.D.Door.replies c.close.new.self)
    gives.0.unwritten gives.0.takes one.appended
    (λ lives a tells. one.replies lives a tells link.incoming gives.0.gives) one.silent
    (λ lives a tells. one.gone lives a tells link.incoming gives.0.gives) one.quiet
    (g.met.D.Link.Conn.room_is_below conn) one.memory one.store
    (λ lives a tells. one.rows lives a tells link.incoming gives.0.gives)
    (subst (λ r. Closed r (g.D.Link.Conn.written c.serve_one-served.new.conn)
    (g.D.Door.replies c.close.new.self)) c.in_ok-link.ensures.replies c.close.ensures.replies)
