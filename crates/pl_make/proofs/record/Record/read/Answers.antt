use Rattle.std.proofs.Common.{take, ap, ◌∙◌}
use Rattle.pl_make.proofs.Records.{read_more}
use Rattle.pl_make.proofs.record.Record.read.Goals as goal

pub returns-clause-bytes : goal.returns-clause-bytes
returns-clause-bytes c =
    let r = c.args.self.now in
    read_more (take r.size r.bytes) c.copy_front-count.new.buf r.given c.copy_front-count.result
    (c.copy_front-count.ensures.bytes ∙ ap (take c.copy_front-count.result) c.left.ensures)
