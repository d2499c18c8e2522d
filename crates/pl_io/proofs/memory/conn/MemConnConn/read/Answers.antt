use Rattle.std.proofs.Common.{ap}
use Rattle.std.specs.Prelude.{Some}
use Rattle.pl_io.proofs.MemFiles.{read_on}
use Rattle.pl_io.proofs.memory.conn.MemConnConn.read.Goals as goal

pub returns-clause-bytes : goal.returns-clause-bytes
returns-clause-bytes c =
    ap Some (read_on c.args.self.now.bytes.items c.copy_front-count.new.buf c.args.self.now.place c.copy_front-count.result
    (rw c.unread.ensures.unread at c.copy_front-count.ensures.bytes))
