use Rattle.std.proofs.Common.{◌≡◌, ◌≤◌, length, sym, ◌∙◌, rules}
use Rattle.std.proofs.lemmas.Grind.{common_steps}
use Rattle.pl_io.specs.MemFiles.{bytes_at}
use Rattle.pl_io.proofs.MemFiles.{bytes_at-get}
use Rattle.pl_io.proofs.memory.file.Opened.unread.Goals as goal
use Rattle.pl_io.proofs.memory.file.Opened.unread.Goals.{After-deref}

same : (c : After-deref) → c.deref.result.now ≡ bytes_at c.args.files.now c.args.self.now.file
same c = c.deref.ensures.value ∙ sym (bytes_at-get _ _ c.index-files-self.result c.requires.0)

inside : (c : After-deref) → c.args.self.now.place ≤ length c.deref.result.now
inside c = rw (same c) c.requires.1

pub slice_bounds-result-count : goal.slice_bounds-result-count
slice_bounds-result-count c = inside (goal.at.slice_bounds-result-count c).After-deref

pub slice_bounds-result-start : goal.slice_bounds-result-start
slice_bounds-result-start c = let h = inside (goal.at.slice_bounds-result-start c).After-deref in search rules

pub returns : goal.returns
returns c =
    let e = same (goal.at.returns c).After-deref in
    record { unread = rw (← e) (search (rules, common_steps)); fits = rw (← e) (c.deref.type_inv.0) }
