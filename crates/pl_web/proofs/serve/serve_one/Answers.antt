use Rattle.pl_head.specs.Reply.{reply_bytes}
use Rattle.pl_web.specs.Served.{memory_reply, store_reply}
use Rattle.pl_web.proofs.Sent.{sends_from}
use Rattle.pl_web.proofs.serve.serve_one.Goals as goal

pub returns-in-Ok-clause-replies : goal.returns-in-Ok-clause-replies
returns-in-Ok-clause-replies g c = λ lives a tells text incoming some no_500 no_503.
    let said = c.in-Ok.ensures.answers lives a tells text incoming in
    let reply = c.in-Ok.reply in
    record {
      front = said.0;
      begins = said.1;
      status = reply.status;
      media = reply.media;
      body = reply.body.items;
      is = said.2.0;
      code = c.send.ensures.status;
      sends =
          sends_from (g.C.Conn.room c.args.conn.now) (g.C.Conn.room c.answer.new.conn)
          (g.C.Conn.written c.args.conn.now) (g.C.Conn.written c.answer.new.conn)
          (g.C.Conn.written c.send.new.conn) c.send.result.sent
          (reply_bytes reply.status reply.media reply.body.items)
          c.in-Ok.ensures.room c.in-Ok.ensures.written
          (rw c.deref.ensures.value at c.send.ensures.sends);
      rows = said.2.1;
    }

pub returns-in-Err-Store-clause-store : goal.returns-in-Err-Store-clause-store
returns-in-Err-Store-clause-store g c = λ is. (
  sends_from (g.C.Conn.room c.args.conn.now) (g.C.Conn.room c.answer.new.conn)
      (g.C.Conn.written c.args.conn.now) (g.C.Conn.written c.answer.new.conn)
      (g.C.Conn.written c.send-in-Err-Store.new.conn) c.send-in-Err-Store.result.sent
      store_reply c.in-Err-Store.ensures.room c.in-Err-Store.ensures.written
      c.send-in-Err-Store.ensures.sends,
  rw c.in-Err-Store.field-0-is at c.in-Err-Store.ensures.keeper_cause,
)

pub returns-in-Err-Memory-clause-memory : goal.returns-in-Err-Memory-clause-memory
returns-in-Err-Memory-clause-memory g c = λ is.
    sends_from (g.C.Conn.room c.args.conn.now) (g.C.Conn.room c.answer.new.conn)
    (g.C.Conn.written c.args.conn.now) (g.C.Conn.written c.answer.new.conn)
    (g.C.Conn.written c.send-in-Err-Memory.new.conn) c.send-in-Err-Memory.result.sent
    memory_reply c.in-Err-Memory.ensures.room c.in-Err-Memory.ensures.written
    c.send-in-Err-Memory.ensures.sends
