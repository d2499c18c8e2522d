-- The reading of a longer text, and what the reader's answers say of the bytes.
use Rattle.std.proofs.Common.{◌≡◌, ◌++◌, List, ℕ, [], ◌∷◌, refl, ap, ◌∙◌, sym, subst, append-nil}
use Rattle.std.proofs.Common.{arith}
use Rattle.pl_base.specs.declared.stop.Stop.{Stop}
use Rattle.pl_capture.specs.Entry.{Entry}
use Rattle.pl_capture.specs.Reading.{Reading, Ending, reading, Ended, Bad, Open}
use Rattle.pl_capture.specs.Standing.{Standing, StandsFor, Phase, Waiting, Holding, Done, Stopped}
use Rattle.pl_capture.specs.Standing.{Shows}
use Rattle.pl_capture.proofs.Wholes.{version_in, whole_continues, whole_stays, whole_trails}

longer_by : (bytes : List ℕ) (e : Ending) → (reading bytes).ending ≡ e → (more : List ℕ)
    → (tail : List Entry) × ((reading (bytes ++ more)).items ≡ (reading bytes).items ++ tail)
longer_by bytes (Bad s) h more = (
  [],
  ap (λ (r : Reading). r.items) (whole_stays bytes more s h)
      ∙ sym (append-nil (reading bytes).items),
)
longer_by bytes (Open place pending) h more = (
  _,
  ap (λ (r : Reading). r.items)
      ((whole_continues (version_in bytes) bytes place pending h (λ _. refl)).on more),
)
longer_by bytes Ended h [] = (
  [],
  ap (λ (b : List ℕ). (reading b).items) (append-nil bytes)
      ∙ sym (append-nil (reading bytes).items),
)
longer_by bytes Ended h (x ∷ more) =
    ([], ap (λ (r : Reading). r.items) (whole_trails bytes (x ∷ more) h (omega arith)))

-- the items of these bytes come first in any longer text
pub longer : (bytes more : List ℕ)
    → (tail : List Entry) × ((reading (bytes ++ more)).items ≡ (reading bytes).items ++ tail)
longer bytes more = longer_by bytes (reading bytes).ending refl more

-- a reader that waits, lends an item or is done has met no refusal
pub waiting_goes : (s : Standing) (bytes pending : List ℕ) → s.phase ≡ Waiting pending
    → StandsFor s bytes → (t : Stop) → (reading bytes).ending ≡ Bad t → ⊥
waiting_goes s bytes pending p h t bad =
    let open_is : (reading bytes).ending ≡ Open s.place pending =
    subst (λ (q : Phase). Shows s.place q (reading bytes)) p h.shows in cc

pub holding_goes : (s : Standing) (bytes : List ℕ) (x : Entry) → s.phase ≡ Holding x
    → StandsFor s bytes → (t : Stop) → (reading bytes).ending ≡ Bad t → ⊥
holding_goes s bytes x p h t bad =
    let both = subst (λ (q : Phase). Shows s.place q (reading bytes)) p h.shows in
    let open_is : (reading bytes).ending ≡ Open s.place [] = both.0 in cc

pub done_goes : (s : Standing) (bytes : List ℕ) → s.phase ≡ Done → StandsFor s bytes
    → (t : Stop) → (reading bytes).ending ≡ Bad t → ⊥
done_goes s bytes p h t bad =
    let both = subst (λ (q : Phase). Shows s.place q (reading bytes)) p h.shows in
    let ended : (reading bytes).ending ≡ Ended = both.0 in cc

pub done_ended : (s : Standing) (bytes : List ℕ) → s.phase ≡ Done → StandsFor s bytes
    → (reading bytes).ending ≡ Ended
done_ended s bytes p h =
    (subst (λ (q : Phase). Shows s.place q (reading bytes)) p h.shows).0

pub stopped_is : (s : Standing) (bytes : List ℕ) (t : Stop) → s.phase ≡ Stopped t
    → StandsFor s bytes → (reading bytes).ending ≡ Bad t
stopped_is s bytes t p h =
    (subst (λ (q : Phase). Shows s.place q (reading bytes)) p h.shows).0
