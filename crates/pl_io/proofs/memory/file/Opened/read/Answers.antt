use Rattle.std.proofs.Common.{arith, length-drop, ap, length}
use Rattle.pl_io.specs.MemFiles.{bytes_at}
use Rattle.pl_io.proofs.MemFiles.{read_on}
use Rattle.pl_io.proofs.memory.file.Opened.read.Goals as goal

pub overflow_add-self : goal.overflow_add-self
overflow_add-self c = omega (arith, length-drop c.args.self.now.place (bytes_at c.args.files.now c.args.self.now.file), c.unread.ensures.fits, ap length c.unread.ensures.unread)

pub returns-clause-bytes : goal.returns-clause-bytes
returns-clause-bytes c =
    read_on _ c.copy_front-count.new.buf c.args.self.now.place c.copy_front-count.result
    (rw c.unread.ensures.unread at c.copy_front-count.ensures.bytes)
