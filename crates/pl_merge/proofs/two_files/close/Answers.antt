use Rattle.std.proofs.Common.{◌++◌, [], refl}
use Rattle.pl_capture.specs.Record.{end_of}
use Rattle.pl_page.proofs.Gathered.{fails_then, gathers_then}
use Rattle.pl_merge.proofs.two_files.close.Goals as goal

pub returns-in-Ok-clause-writes : goal.returns-in-Ok-clause-writes
returns-in-Ok-clause-writes g c = λ text start f.
    c.flush.ensures.writes (text ++ end_of c.args.count c.args.time) start
    (gathers_then [] c.args.page.now c.push_end.new.self text (end_of c.args.count c.args.time) f c.in-Ok.ensures.gathered)

pub returns-in-Err-clause-writes : goal.returns-in-Err-clause-writes
returns-in-Err-clause-writes g c = λ text start f. record {
  written = λ other. absurd (other refl);
  answered = λ other. absurd (other refl);
  lost = λ same. fails_then [] c.args.page.now text (end_of c.args.count c.args.time) f c.in-Err.ensures.gathered;
}
