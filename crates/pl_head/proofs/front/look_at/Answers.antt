use Rattle.std.proofs.Common.{ap, arith}
use Rattle.std.specs.Prelude.{Err}
use Rattle.pl_head.proofs.Heads.{fields_fit}
use Rattle.pl_head.proofs.front.look_at.Goals as goal

-- no head of this length has too many fields, so what is refused never has a head
pub returns-in-Err : goal.returns-in-Err
returns-in-Err c =
    c.in-Err.ensures.invalid
    (λ many. fields_fit _ _ (omega arith) (omega arith) (c.in-Err.ensures.too_many (ap Err many)))
