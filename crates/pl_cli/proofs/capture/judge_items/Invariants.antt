use Rattle.std.proofs.Common.{◌≡◌, ◌≤◌, ◌+◌, ◌*◌, ◌-◌, ◌++◌, ℕ, List, [], length, take}
use Rattle.pl_base.specs.declared.verdict.TheConstants.{MOST_VERDICTS}
use Rattle.pl_profile.specs.declared.profile.Profile.{Profile}
use Rattle.pl_cli.specs.Progress.{Gathering, SoFar, Tells, meant, tells}
use Rattle.pl_cli.proofs.capture.judge_items.Given as goal

abbrev pub invariant-loop-place : goal.invariant-loop-place
invariant-loop-place g l = record {
  bound : l.place ≤ length l.piece;
  so_far : (p : Profile) (before : List ℕ) (start : Tells) →
      SoFar (meant l.view) p before l.initial.judging l.initial.engine start (tells g.O.Sink l.initial.out) →
      Gathering (meant l.view) p (before ++ take l.place l.piece) l.judging l.engine l.held.bytes.items start (tells g.O.Sink l.out);
  none : l.found.items ≡ [];
  reader : l.judging.reader.place ≤ l.initial.judging.reader.place + l.place;
  items : l.judging.items ≤ l.initial.judging.items + l.place;
  engine : l.engine.items ≤ l.initial.engine.items + l.place;
  listed : l.judging.listed ≤ l.judging.items;
  verdicts : l.judging.verdicts ≤ l.judging.items * MOST_VERDICTS;
  kept : g.O.Sink.faults l.out ≡ g.O.Sink.faults l.initial.out;
}

abbrev pub decreases-loop-place : goal.decreases-loop-place
decreases-loop-place g l = length l.initial.piece - l.place
