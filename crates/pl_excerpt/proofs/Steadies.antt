-- What a shelf is after several calls that read its open file.
use Rattle.std.proofs.Common.{◌≡◌, ℕ, List, true, Option, Some, None, refl, ◌∙◌, subst}
use Rattle.pl_io.specs.declared.shelf.Shelf as shelf
use Rattle.pl_io.specs.Faults.{raised}
use Rattle.pl_excerpt.specs.declared.source.Ended.{Ended}
use Rattle.pl_excerpt.specs.declared.source.Ended.TheVariants as ended
use Rattle.pl_excerpt.specs.Answer.{without_verdict}
use Rattle.pl_excerpt.specs.Searching.{fault_of}
use Rattle.pl_excerpt.specs.Sources.{Opens, ShelfCause, Steady}

-- no call failed
pub record Kept {H : Type 0} (S : shelf.Ghosts H) (old new : H) : Type 0 where
  pub opened : S.is_open new ≡ true
  pub opens : S.opens new ≡ S.opens old
  pub named : S.open_name new ≡ S.open_name old
  pub told : S.told new ≡ S.told old
  pub files : (other : List ℕ) → S.file new other ≡ S.file old other
  pub sure : S.sure old ≡ true → S.sure new ≡ true
  pub faults : S.faults new ≡ S.faults old

pub kept_none : {H : Type 0} (S : shelf.Ghosts H) (at : H) → S.is_open at ≡ true → Kept S at at
kept_none S at opened = record {
  opened = opened;
  opens = refl;
  named = refl;
  told = refl;
  files = λ _. refl;
  sure = λ h. h;
  faults = refl;
}

-- and one more
pub kept_on : {H : Type 0} (S : shelf.Ghosts H) (a b c : H) → Kept S a b
    → Steady S None b c → Kept S a c
kept_on S a b c k s = record {
  opened = s.opened;
  opens = s.opens ∙ k.opens;
  named = s.named ∙ k.named;
  told = s.told ∙ k.told;
  files = λ other. s.files other ∙ k.files other;
  sure = λ h. (s.sure (k.sure h)).1;
  faults = s.cause ∙ k.faults;
}

pub steady_kept : {H : Type 0} (S : shelf.Ghosts H) (a b : H) → Kept S a b → Steady S None a b
steady_kept S a b k = record {
  opened = k.opened;
  opens = k.opens;
  named = k.named;
  told = k.told;
  files = k.files;
  sure = λ h. (tt, k.sure h);
  cause = k.faults;
}

pub steady_on : {H : Type 0} (S : shelf.Ghosts H) (e : Option Ended) (a b c : H) → Kept S a b
    → Steady S e b c → Steady S e a c
steady_on S e a b c k s = record {
  opened = s.opened;
  opens = s.opens ∙ k.opens;
  named = s.named ∙ k.named;
  told = s.told ∙ k.told;
  files = λ other. s.files other ∙ k.files other;
  sure = λ h. s.sure (k.sure h);
  cause = subst (λ (n : ℕ). ShelfCause e n (S.faults c)) k.faults s.cause;
}

fine : {H : Type 0} (S : shelf.Ghosts H) (e : Ended) (a b : H) → S.faults b ≡ S.faults a
    → Steady S (Some e) a b → Steady S None a b
fine S e a b same s = record {
  opened = s.opened;
  opens = s.opens;
  named = s.named;
  told = s.told;
  files = s.files;
  sure = λ h. (tt, (s.sure h).1);
  cause = same;
}

-- as a search answers it
pub steady_search : {H : Type 0} (S : shelf.Ghosts H) (e : Ended) (a b : H)
    → Steady S (Some e) a b → Steady S (fault_of (without_verdict e)) a b
steady_search S ended.Whole a b s = fine S ended.Whole a b s.cause s
steady_search S ended.TooLong a b s = fine S ended.TooLong a b s.cause s
steady_search S (ended.Refused t) a b s = fine S (ended.Refused t) a b s.cause s
steady_search S ended.Fault a b s = s

pub opens_by : {H : Type 0} (S : shelf.Ghosts H) (name : List ℕ) (e : Option Ended) (a b c : H)
    → S.opens b ≡ raised (S.opens a) → (S.told a ≡ true → S.open_name b ≡ Some name)
    → S.told b ≡ S.told a → ((other : List ℕ) → S.file b other ≡ S.file a other)
    → (S.sure a ≡ true → S.sure b ≡ true) → S.faults b ≡ S.faults a
    → Steady S e b c → Opens S name e a c
opens_by S name e a b c opens named told files sure faults s = record {
  once = s.opens ∙ opens;
  named = λ t _. s.named ∙ named t;
  told = s.told ∙ told;
  files = λ other. s.files other ∙ files other;
  sure = λ h _. s.sure (sure h);
  cause = subst (λ (n : ℕ). ShelfCause e n (S.faults c)) faults s.cause;
}
