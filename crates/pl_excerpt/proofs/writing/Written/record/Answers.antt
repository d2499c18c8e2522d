use Rattle.std.proofs.Common.{subst}
use Rattle.pl_excerpt.specs.Writing.{Appends}
use Rattle.pl_excerpt.proofs.Records.{front_is}
use Rattle.pl_excerpt.proofs.writing.Written.record.Goals as goal

pub returns-clause-appends : goal.returns-clause-appends
returns-clause-appends g c =
    subst (λ text. Appends g.O.Sink c.append.result text c.args.out.now c.append.new.out)
    (front_is _ _ _ c.in-Some.size c.in-Some.ensures.0 c.in-Some.ensures.2)
    c.append.ensures.appends
