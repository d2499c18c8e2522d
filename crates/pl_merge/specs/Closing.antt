-- What is written at last, and the answer.
use Rattle.std.specs.Prelude.{◌≡◌, ◌≢◌, ◌⊎◌, true, ℕ, List, [], ◌++◌}
use Rattle.pl_io.specs.declared.shelf.Shelf as shelf
use Rattle.pl_io.specs.Faults.{Rose}
use Rattle.pl_io.specs.Told.{plus}
use Rattle.pl_page.specs.Gathers.{Fails, Gathers, Tells}
use Rattle.pl_status.specs.declared.TheConstants.{READ_FAULT, WRITE_FAULT}
use Rattle.pl_merge.specs.declared.end.Halt.{Halt}
use Rattle.pl_merge.specs.declared.end.Halt.TheVariants as halt
use Rattle.pl_merge.specs.Mixing.{Stays}
use Rattle.pl_merge.specs.Output.{status_of}

abbrev pub halt_status : Halt → ℕ
halt_status (halt.Stops e) = status_of e
halt_status halt.ReadFault = READ_FAULT
halt_status halt.WriteFault = WRITE_FAULT

-- This text was written and this status is answered; or the sink failed within the text.
pub record WritesText (text : List ℕ) (status : ℕ) (start now : Tells) (answer : ℕ)
    : Type 0 where
  pub written : answer ≢ WRITE_FAULT → now.written ≡ plus start.written text
  pub answered : answer ≢ WRITE_FAULT → answer ≡ status
  pub lost : answer ≡ WRITE_FAULT → Fails text start now

-- What was gathered is written, unless the sink had failed before.
abbrev pub CutsAt : Halt → List ℕ → Tells → Tells → ℕ → Type 0
CutsAt (halt.Stops e) page old now answer =
    (text : List ℕ) (start : Tells) → Gathers [] page text start old →
    WritesText text (status_of e) start now answer
CutsAt halt.ReadFault page old now answer =
    (text : List ℕ) (start : Tells) → Gathers [] page text start old →
    WritesText text READ_FAULT start now answer
CutsAt halt.WriteFault page old now answer = (answer ≡ WRITE_FAULT) × (now ≡ old)

-- The sink fails only where that is answered.
pub record HasSinkCause (answer before now : ℕ) : Type 0 where
  pub rose : answer ≡ WRITE_FAULT → Rose before now
  pub kept : answer ≢ WRITE_FAULT → now ≡ before

-- And where it had failed before, that is answered.
abbrev pub HasCutCause : Halt → ℕ → ℕ → ℕ → Type 0
HasCutCause (halt.Stops e) answer before now = HasSinkCause answer before now
HasCutCause halt.ReadFault answer before now = HasSinkCause answer before now
HasCutCause halt.WriteFault answer before now = (answer ≡ WRITE_FAULT) × (now ≡ before)

-- Both files stay open. A shelf fails only where that is answered, or the sink failed behind it;
-- and not where both are sure.
pub record HasShelvesCause {H : Type 0} (S : shelf.Ghosts H) (answer : ℕ)
    (first first' second second' : H) : Type 0 where
  pub one_stays : Stays S first first'
  pub two_stays : Stays S second second'
  pub rose : answer ≡ READ_FAULT →
      Rose (S.faults first) (S.faults first') ⊎ Rose (S.faults second) (S.faults second')
  pub kept : answer ≢ READ_FAULT → answer ≢ WRITE_FAULT →
      (S.faults first' ≡ S.faults first) × (S.faults second' ≡ S.faults second)
  pub sure : S.sure first ≡ true →
      S.sure second ≡ true → answer ≢ READ_FAULT
      × (S.faults first' ≡ S.faults first) × (S.faults second' ≡ S.faults second)
