use Rattle.std.proofs.Common.{◌∙◌, ap}
use Rattle.pl_merge.specs.Sides.{Sight}
use Rattle.pl_merge.proofs.Promises.{both_merge, first_halts, second_halts}
use Rattle.pl_merge.proofs.two_files.merge.Goals as goal

pub returns-in-Ok-open : goal.returns-in-Ok-open
returns-in-Ok-open g c = record {
  merges = both_merge g.H.Shelf g.O.Sink c.in-Ok.field-0 c.in-Ok-open.field-0 c.args.down.now c.args.up.now
      c.open.new.self c.open-in-Ok.new.self c.args.first.now c.open.new.shelf c.write_merged.new.first
      c.args.second.now c.open-in-Ok.new.shelf c.write_merged.new.second c.args.out.now c.write_merged.new.out c.write_merged.result
      c.in-Ok.ensures.opens c.in-Ok-open.ensures.opens c.write_merged.ensures.writes c.write_merged.ensures.status
      c.write_merged.ensures.shelves c.write_merged.ensures.cause;
}

pub returns-in-Err-open : goal.returns-in-Err-open
returns-in-Err-open g c = record {
  merges = rw c.status.ensures
      (second_halts g.H.Shelf g.O.Sink c.in-Ok.field-0 c.in-Err-open.halt c.args.down.now c.args.up.now
      c.open.new.self c.open-in-Ok.new.self c.args.first.now c.open.new.shelf c.args.second.now c.open-in-Ok.new.shelf c.args.out.now
      (c.in-Ok.ensures.dir ∙ ap (λ (s : Sight). s.dir) c.new-one.ensures)
      (c.in-Err-open.ensures.dir ∙ ap (λ (s : Sight). s.dir) c.new-two.ensures)
      c.in-Ok.ensures.opens c.in-Err-open.ensures.opens c.in-Err-open.ensures.reads);
}

pub returns-in-Err : goal.returns-in-Err
returns-in-Err g c = record {
  merges = rw c.status-in-Err.ensures
      (first_halts g.H.Shelf g.O.Sink c.in-Err.halt c.args.down.now c.args.up.now
      c.open.new.self c.args.first.now c.open.new.shelf c.args.second.now c.args.out.now
      (c.in-Err.ensures.dir ∙ ap (λ (s : Sight). s.dir) c.new-one.ensures)
      c.in-Err.ensures.opens c.in-Err.ensures.reads);
}
