-- What a shelf is after several calls that read its open file.
use Rattle.std.proofs.Common.{◌≡◌, true, Ok, refl, ◌∙◌}
use Rattle.pl_io.specs.declared.shelf.Shelf as shelf
use Rattle.pl_merge.specs.Sides.{Steady}

-- no call failed
pub record Kept {H : Type 0} (S : shelf.Ghosts H) (old new : H) : Type 0 where
  pub opened : S.is_open new ≡ true
  pub opens : S.opens new ≡ S.opens old
  pub named : S.open_name new ≡ S.open_name old
  pub sure : S.sure old ≡ true → S.sure new ≡ true
  pub faults : S.faults new ≡ S.faults old

pub kept_none : {H : Type 0} (S : shelf.Ghosts H) (at : H) → S.is_open at ≡ true → Kept S at at
kept_none S at opened = record {
  opened = opened;
  opens = refl;
  named = refl;
  sure = λ h. h;
  faults = refl;
}

-- and one more
pub kept_on : {H T : Type 0} (S : shelf.Ghosts H) (value : T) (a b c : H) → Kept S a b
    → Steady S (Ok value) b c → Kept S a c
kept_on S value a b c k s = record {
  opened = s.opened;
  opens = s.opens ∙ k.opens;
  named = s.named ∙ k.named;
  sure = λ h. (s.sure (k.sure h)).1;
  faults = s.cause ∙ k.faults;
}
