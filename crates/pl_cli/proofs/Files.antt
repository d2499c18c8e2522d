-- Reading a file piece by piece.
use Rattle.std.proofs.Common.{◌≡◌, ◌++◌, ◌+◌, ◌≤◌, List, ℕ, [], refl, ap, ◌∙◌, sym, subst, length, append-nil, length-append, arith, Option, Some, None, true, false, IsSome}
use Rattle.pl_base.specs.declared.stop.Stop.{Stop}
use Rattle.pl_io.specs.Told.{ahead, AtEnd}
use Rattle.pl_io.proofs.Told.{ahead-ahead}
use Rattle.pl_profile.specs.declared.profile.Profile.{Profile}
use Rattle.pl_engine.specs.declared.engine.Engine.{Engine}
use Rattle.pl_cli.specs.declared.judging.Judging.{Judging}
use Rattle.pl_cli.specs.declared.judging.Ended.{Ended}
use Rattle.pl_cli.specs.declared.judging.Ended.TheVariants as ended
use Rattle.pl_cli.specs.Output.{View, limit}
use Rattle.pl_cli.specs.Promise.{IsFront}
use Rattle.pl_cli.specs.Progress.{Asked, CutIn, EndsAs, LooksBehind, ReadTo, ReadUntilCut, RefusedIn, SoFar, Taken, TakenCut, Tells}

-- so many bytes were read and judged
pub record Far (v : View) (p : Profile) (j : Judging) (k : Engine) (w w1 : Tells) (rest rest' : Option (List ℕ)) (taken : ℕ) : Type 0 where
  pub read : List ℕ
  pub size : length read ≡ taken
  pub rest_is : rest ≡ ahead read rest'
  pub so_far : SoFar v p read j k w w1

pub ahead-nil : (rest : Option (List ℕ)) → ahead [] rest ≡ rest
ahead-nil None = refl
ahead-nil (Some bytes) = refl

pub far_start : {v : View} {p : Profile} {j : Judging} {k : Engine} {w w1 : Tells} (rest : Option (List ℕ)) →
    SoFar v p [] j k w w1 → Far v p j k w w1 rest rest 0
far_start rest f = record { read = []; size = refl; rest_is = sym (ahead-nil rest); so_far = f }

-- the rest before a piece, and behind it
rest_on : (rest rest1 rest2 : Option (List ℕ)) (read piece : List ℕ) → rest ≡ ahead read rest1 → rest1 ≡ ahead piece rest2 → rest ≡ ahead (read ++ piece) rest2
rest_on rest rest1 rest2 read piece h k = h ∙ ap (λ (o : Option (List ℕ)). ahead read o) k ∙ ahead-ahead rest2 read piece

pub far_on : {v : View} {p : Profile} {j j' : Judging} {k k' : Engine} {w w1 w2 : Tells} {rest rest1 rest2 : Option (List ℕ)} {taken : ℕ} (piece : List ℕ) (n : ℕ) →
    (far : Far v p j k w w1 rest rest1 taken) → rest1 ≡ ahead piece rest2 → length piece ≡ n →
    (SoFar v p far.read j k w w1 → SoFar v p (far.read ++ piece) j' k' w w2) → Far v p j' k' w w2 rest rest2 (taken + n)
far_on {rest = rest} {rest1} {rest2} piece n far h size next = record {
  read = far.read ++ piece;
  size = omega (arith, length-append far.read piece, far.size, size);
  rest_is = rest_on rest rest1 rest2 far.read piece far.rest_is h;
  so_far = next far.so_far;
}

pub far_refused : {v : View} {p : Profile} {j j' : Judging} {k k' : Engine} {w w1 w2 : Tells} {rest rest1 rest2 : Option (List ℕ)} {taken : ℕ} (piece : List ℕ) (s : Stop) →
    (far : Far v p j k w w1 rest rest1 taken) → rest1 ≡ ahead piece rest2 → taken + length piece ≤ limit →
    (SoFar v p far.read j k w w1 → RefusedIn v p (far.read ++ piece) s k' w w2) → ReadTo v p (ended.Refused s) j' k' w w2 rest rest2
far_refused {rest = rest} {rest1} {rest2} piece s far h size next = record {
  read = far.read ++ piece;
  extra = [];
  size = omega (arith, length-append far.read piece, far.size, size);
  rest_is = rest_on rest rest1 rest2 far.read piece far.rest_is h ∙ ap (λ (l : List ℕ). ahead l rest2) (sym (append-nil (far.read ++ piece)));
  ends = (refl, next far.so_far);
}

pub far_cut : {v : View} {p : Profile} {j : Judging} {k k' : Engine} {w w1 w2 : Tells} {rest rest1 rest2 : Option (List ℕ)} {taken : ℕ} (piece : List ℕ) →
    (far : Far v p j k w w1 rest rest1 taken) → rest1 ≡ ahead piece rest2 → taken + length piece ≤ limit →
    (SoFar v p far.read j k w w1 → CutIn v p (far.read ++ piece) k' w w2) → ReadUntilCut v p k' w w2 rest rest2
far_cut {rest = rest} {rest1} {rest2} piece far h size next = record {
  read = far.read ++ piece;
  size = omega (arith, length-append far.read piece, far.size, size);
  rest_is = rest_on rest rest1 rest2 far.read piece far.rest_is h;
  cut = next far.so_far;
}

-- the end, with these bytes seen past those that are judged
pub far_ends : {v : View} {p : Profile} {j : Judging} {k : Engine} {w w1 : Tells} {rest rest1 rest2 : Option (List ℕ)} {taken : ℕ} (e : Ended) (extra : List ℕ) →
    (far : Far v p j k w w1 rest rest1 taken) → rest1 ≡ ahead extra rest2 → taken ≤ limit →
    ((read : List ℕ) → length read ≡ taken → SoFar v p read j k w w1 → EndsAs v p e read extra rest2 j k w w1) → ReadTo v p e j k w w1 rest rest2
far_ends {rest = rest} {rest1} {rest2} e extra far h size ends = record {
  read = far.read;
  extra = extra;
  size = omega (arith, far.size, size);
  rest_is = rest_on rest rest1 rest2 far.read extra far.rest_is h;
  ends = ends far.read far.size far.so_far;
}

pub same_rest : (rest1 rest2 : Option (List ℕ)) → rest2 ≡ rest1 → rest1 ≡ ahead [] rest2
same_rest rest1 rest2 h = sym h ∙ sym (ahead-nil rest2)

pub end_rest : (rest rest1 : Option (List ℕ)) → rest ≡ ahead [] rest1 → AtEnd rest → AtEnd rest1
end_rest rest rest1 h at_end = subst AtEnd (h ∙ ahead-nil rest1) at_end

-- a look behind the most bytes that are judged
pub behind_ends : {v : View} {p : Profile} {j : Judging} {k : Engine} {w w1 : Tells} (e : Ended) (extra : List ℕ) (rest : Option (List ℕ)) → LooksBehind e extra rest →
    (read : List ℕ) → length read ≡ limit → SoFar v p read j k w w1 → EndsAs v p e read extra rest j k w w1
behind_ends ended.Whole extra rest h read size f = (h.0, h.1, f)
behind_ends ended.Fault extra rest h read size f = (h, f)
behind_ends ended.TooLong extra rest h read size f = (size, h, f)
behind_ends (ended.Refused s) extra rest h read size f = absurd h

-- what was read of a file that is told, from its opening on
pub front_of : (read : List ℕ) (file rest rest' : Option (List ℕ)) → IsSome rest × (rest ≡ file) → rest ≡ ahead read rest' → IsFront read file rest'
front_of read file rest None w h = absurd (never (subst IsSome h w.0))
  where
    never : (let o : Option (List ℕ) = None in IsSome o) → ⊥
    never k = cc
front_of read file rest (Some left) w h = (left, sym w.1 ∙ h, refl)

-- from the opening on
pub taken_reads : {v : View} {p : Profile} {e : Ended} {j : Judging} {k : Engine} {w w1 : Tells} {rest : Option (List ℕ)} (at : Asked) →
    (at.told ≡ true → IsSome rest × (rest ≡ at.file)) → at.opened ≡ true → ReadTo v p e j k w w1 rest at.rest → Taken v p e j k w w1 at
taken_reads {rest = rest} at whole is_open f = record {
  read = f.read;
  extra = f.extra;
  size = f.size;
  from_file = λ t o. front_of (f.read ++ f.extra) at.file rest at.rest (whole t) f.rest_is;
  nothing = λ closed. absurd (never (sym closed ∙ is_open));
  ends = f.ends;
}
  where
    never : false ≡ true → ⊥
    never h = cc

pub taken_cut : {v : View} {p : Profile} {k : Engine} {w w1 : Tells} {rest : Option (List ℕ)} (at : Asked) →
    (at.told ≡ true → IsSome rest × (rest ≡ at.file)) → ReadUntilCut v p k w w1 rest at.rest → TakenCut v p k w w1 at
taken_cut {rest = rest} at whole f =
    record { read = f.read; size = f.size; from_file = λ t. front_of f.read at.file rest at.rest (whole t) f.rest_is; cut = f.cut }

-- a file that couldn't be opened
pub taken_nothing : {v : View} {p : Profile} {j : Judging} {k : Engine} {w w1 : Tells} (at : Asked) →
    SoFar v p [] j k w w1 → at.opened ≡ false → Taken v p ended.Fault j k w w1 at
taken_nothing at f closed = record {
  read = [];
  extra = [];
  size = omega arith;
  from_file = λ t o. absurd (never (sym closed ∙ o));
  nothing = λ _. (refl, refl);
  ends = (refl, f);
}
  where
    never : false ≡ true → ⊥
    never h = cc
