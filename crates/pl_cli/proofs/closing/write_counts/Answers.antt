use Rattle.std.proofs.Common.{◌≡◌, ◌++◌, ◌+◌, ◌∙◌, List, ℕ, Some, ap, arith, length, slice_get, subst, suc, sym, take, drop}
use Rattle.std.specs.List.{concat}
use Rattle.pl_io.specs.Told.{HasRoom, Partly, plus}
use Rattle.pl_report.specs.Summary.{summary_lines}
use Rattle.pl_cli.proofs.Written.{both_written, line_at, line_inside, line_room, part_behind, room_behind, summary_few, take_more}
use Rattle.pl_cli.proofs.closing.write_counts.Goals as goal

pub overflow_add-k : goal.overflow_add-k
overflow_add-k g c = omega (arith, summary_few c.args.tally.now, line_inside (summary_lines c.args.tally.now) c.loop-line.k _ c.in-Some.ensures.line)

pub loop-line-preserved : goal.loop-line-preserved
loop-line-preserved g c =
    let ls : List (List ℕ) = summary_lines c.args.tally.now in
    let k : ℕ = c.loop-line.k in
    let piece : List ℕ = c.as_bytes.result.now in
    let line : slice_get ls k ≡ Some piece = c.in-Some.ensures.line ∙ ap Some (sym (c.as_bytes.ensures.value ∙ c.deref.ensures.0)) in
    let more : concat (take (k + 1) ls) ≡ concat (take k ls) ++ piece = take_more ls k piece line in
    record {
      bound = omega (arith, line_inside ls k piece line);
      written = both_written _ _ _ (concat (take k ls)) piece c.loop-line.invariant.written c.in-Ok.ensures.appended
          ∙ ap (plus (g.O.Sink.written c.args.out.now)) (sym more);
      room_left = λ n room. c.in-Ok.ensures.room_left n (room_behind _ _ (concat (take k ls)) piece n c.loop-line.invariant.room_left
          (subst (λ (l : List ℕ). HasRoom (g.O.Sink.room c.args.out.now) (length l + n)) more room));
      kept = c.in-Ok.ensures.cause.kept ∙ c.loop-line.invariant.kept;
    }

pub returns-in-Err-clause-part : goal.returns-in-Err-clause-part
returns-in-Err-clause-part g c =
    let ls : List (List ℕ) = summary_lines c.args.tally.now in
    let k : ℕ = c.loop-line.k in
    let piece : List ℕ = c.as_bytes.result.now in
    let line : slice_get ls k ≡ Some piece = c.in-Some.ensures.line ∙ ap Some (sym (c.as_bytes.ensures.value ∙ c.deref.ensures.0)) in
    subst (Partly (g.O.Sink.written c.args.out.now) (g.O.Sink.written c.write_all.new.sink)) (sym (line_at ls k piece line))
    (part_behind _ _ _ (concat (take k ls)) piece (concat (drop (suc k) ls)) c.loop-line.invariant.written c.in-Err.ensures.part)

pub returns-in-Err-clause-fits : goal.returns-in-Err-clause-fits
returns-in-Err-clause-fits g c = λ room.
    let ls : List (List ℕ) = summary_lines c.args.tally.now in
    let line : slice_get ls c.loop-line.k ≡ Some c.as_bytes.result.now = c.in-Some.ensures.line ∙ ap Some (sym (c.as_bytes.ensures.value ∙ c.deref.ensures.0)) in
    c.in-Err.ensures.fits (line_room _ _ ls c.loop-line.k c.as_bytes.result.now line c.loop-line.invariant.room_left room)
