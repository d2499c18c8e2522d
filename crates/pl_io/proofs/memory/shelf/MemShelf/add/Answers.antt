use Rattle.pl_io.proofs.MemFiles.{file_in-added, file_in-other, inside-pushed, name-append, unread-append}
use Rattle.pl_io.proofs.memory.shelf.MemShelf.add.Goals as goal

pub invariant_of-self : goal.invariant_of-self
invariant_of-self c = record {
  inside = inside-pushed _ _ _ _ _ c.push.ensures.items c.args.self.now.inside;
  some_step = c.args.self.now.some_step;
}

pub returns-clause-added : goal.returns-clause-added
returns-clause-added c =
    rw (c.in_ok-push.ensures.items, file_in-added c.args.self.now.files.items c.in_ok-file.file c.args.name.now c.in_ok-file.ensures.name, c.in_ok-file.ensures.bytes)

pub returns-clause-others : goal.returns-clause-others
returns-clause-others c = λ other ne.
    rw c.in_ok-push.ensures.items (file_in-other c.args.self.now.files.items c.in_ok-file.file c.args.name.now other c.in_ok-file.ensures.name ne)

pub returns-clause-rest : goal.returns-clause-rest
returns-clause-rest c = rw c.in_ok-push.ensures.items (unread-append c.args.self.now.files.items _ _ c.args.self.now.inside)

pub returns-clause-open_name : goal.returns-clause-open_name
returns-clause-open_name c = rw c.in_ok-push.ensures.items (name-append c.args.self.now.files.items _ _ c.args.self.now.inside)
