-- One item of a file: its record, and what is next.
use Rattle.std.proofs.Common.{◌≡◌, ℕ, List, [], ◌∷◌, ◌++◌, Option, Result, Ok, Err, ap, sym, subst, ◌∙◌}
use Rattle.pl_io.specs.declared.failed.Failed.{Failed}
use Rattle.pl_capture.specs.Entry.{Entry}
use Rattle.pl_capture.specs.Record.{record_of}
use Rattle.pl_page.specs.Gathers.{Fails, Gathers, Tells}
use Rattle.pl_page.proofs.Gathered.{fails_then, gathers_then}
use Rattle.pl_merge.specs.declared.end.Halt.{Halt}
use Rattle.pl_merge.specs.declared.end.Halt.TheVariants as halt
use Rattle.pl_merge.specs.Mixing.{PassHalts, Passes, SinkCause}
use Rattle.pl_merge.specs.Sides.{Comes, Halts, NoWriteFault, Sight}
use Rattle.pl_merge.proofs.Taking.{lent_is}

halts_passed : (T : Type 0) (h : Halt) (side : Sight) (rest file : Option (List ℕ)) (items : List Entry)
    (page text : List ℕ) (start now : Tells) → NoWriteFault {T = T} (Err h)
    → Halts h side rest file items → Gathers [] page text start now
    → PassHalts h side rest file items page text start now
halts_passed T (halt.Stops e) side rest file items page text start now reads come g = (come, g)
halts_passed T halt.ReadFault side rest file items page text start now reads come g = (come, g)
halts_passed T halt.WriteFault side rest file items page text start now reads come g = absurd come

pub passed : {T : Type 0} (r : Result T Halt) (side : Sight) (rest file : Option (List ℕ))
    (items : List Entry) (page text : List ℕ) (start now : Tells) → NoWriteFault r
    → Comes r side rest file items → Gathers [] page text start now
    → Passes r side rest file items page text start now
passed (Ok value) side rest file items page text start now reads come g = (come, g)
passed {T} (Err h) side rest file items page text start now reads come g =
    halts_passed T h side rest file items page text start now reads come g

halts_cause : (T : Type 0) (h : Halt) (before now : ℕ) → NoWriteFault {T = T} (Err h) → now ≡ before
    → SinkCause {T = T} (Err h) before now
halts_cause T (halt.Stops e) before now reads same = same
halts_cause T halt.ReadFault before now reads same = same
halts_cause T halt.WriteFault before now reads same = absurd reads

pub passed_cause : {T : Type 0} (r : Result T Halt) (before now : ℕ) → NoWriteFault r
    → now ≡ before → SinkCause r before now
passed_cause (Ok value) before now reads same = same
passed_cause {T} (Err h) before now reads same = halts_cause T h before now reads same

-- the record of an item behind a text
pub record_behind : (held held' text : List ℕ) (seen x : Entry) {start t t1 : Tells} → seen ≡ x
    → Gathers [] held text start t → Gathers held held' (record_of seen) t t1
    → Gathers [] held' (text ++ record_of x) start t1
record_behind held held' text seen x {start} {t} {t1} same f g =
    gathers_then [] held held' text (record_of x) f
    (subst (λ (y : Entry). Gathers held held' (record_of y) t t1) same g)

pub record_lost : (held text : List ℕ) (seen x : Entry) {start t t1 : Tells} → seen ≡ x
    → Gathers [] held text start t → Fails (held ++ record_of seen) t t1
    → Fails (text ++ record_of x) start t1
record_lost held text seen x {start} {t} {t1} same f g =
    fails_then [] held text (record_of x) f
    (subst (λ (y : Entry). Fails (held ++ record_of y) t t1) same g)
