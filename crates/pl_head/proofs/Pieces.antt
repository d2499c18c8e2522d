-- Two pieces that are sent one after another.
use Rattle.std.proofs.Common.{◌≡◌, ◌≢◌, ℕ, List, [], ◌∷◌, ◌++◌, length, length-append, append_assoc, ap, sym}
use Rattle.std.proofs.Common.{refl, subst, ◌∙◌}
use Rattle.std.specs.Prelude.{Option}
use Rattle.pl_io.specs.CutShort.{CutShort}
use Rattle.pl_io.specs.Told.{Lowered, plus}
use Rattle.pl_io.proofs.Told.{plus-plus, Lowered_more}

more_left : (a b : List ℕ) → a ≢ [] → a ++ b ≢ []
more_left [] b some = absurd (some refl)
more_left (x ∷ a) b some = λ none. cc

-- where the first stopped, so did both
pub CutShort_first : (old new : Option (List ℕ)) (first second : List ℕ) →
    CutShort old new first → CutShort old new (first ++ second)
CutShort_first old new first second sent = record {
  part = sent.part;
  missing = sent.missing ++ second;
  some = more_left sent.missing second sent.some;
  whole = sym (append_assoc sent.part sent.missing second)
      ∙ ap (λ bytes. bytes ++ second) sent.whole;
  written = sent.written;
}

-- where the first was sent, and the second stopped
pub CutShort_second : (old mid new : Option (List ℕ)) (first second : List ℕ) →
    mid ≡ plus old first → CutShort mid new second → CutShort old new (first ++ second)
CutShort_second old mid new first second whole sent = record {
  part = first ++ sent.part;
  missing = sent.missing;
  some = sent.some;
  whole = append_assoc first sent.part sent.missing ∙ ap (λ bytes. first ++ bytes) sent.whole;
  written = sent.written ∙ ap (λ told. plus told sent.part) whole
      ∙ plus-plus old first sent.part;
}

-- both were taken of the room
pub Lowered_both : (old mid new : Option ℕ) (first second : List ℕ) →
    Lowered old (length first) mid → Lowered mid (length second) new →
    Lowered old (length (first ++ second)) new
Lowered_both old mid new first second a b =
    subst (λ n. Lowered old n new) (sym (length-append first second))
    (Lowered_more old mid new (length first) (length second) a b)
