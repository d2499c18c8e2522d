-- One token of the router's rows after another.
use Rattle.std.proofs.Common.{◌≡◌, ℕ, suc, zero, ◌<◌, List, [], ◌∷◌, ◌++◌, true, false, cond}
use Rattle.std.proofs.Common.{length, ◌-◌, refl, ap, ◌∙◌, subst, arith, append-nil}
use Rattle.std.specs.Prelude.{Option, Some, None, ◌==◌}
use Rattle.std.proofs.lemmas.Bool.Decides.{nat_tests}
use Rattle.matchit.specs.Rows.{RowsOf, param_token, catch_all_token}
use Rattle.matchit.specs.Seek.{has_slash, own, step, or_else, param_step, seek}
use Rattle.pl_web.specs.Paths.{slash}

-- rows that all begin with these tokens
abbrev pub under : {K : Type 0} → List ℕ → RowsOf K → RowsOf K
under tokens [] = []
under tokens ((t, k) ∷ rows) = (tokens ++ t, k) ∷ under tokens rows

-- behind a segment: rows that go on after a slash, and one that may end here
abbrev pub level : {K : Type 0} → Option K → RowsOf K → RowsOf K
level None [] = []
level (Some k) [] = ([], k) ∷ []
level end ((t, k) ∷ rows) = (slash ∷ t, k) ∷ level end rows

pub under_nothing : {K : Type 0} (rows : RowsOf K) → under [] rows ≡ rows
under_nothing [] = refl
under_nothing ((t, k) ∷ rows) = ap (λ rest. (t, k) ∷ rest) (under_nothing rows)

same_token : (x : ℕ) → (x == x) ≡ true
same_token x = grind (arith, nat_tests)

pub step_same : {K : Type 0} (x : ℕ) (tokens : List ℕ) (rows : RowsOf K)
    → step x (under (x ∷ tokens) rows) ≡ under tokens rows
step_same x tokens [] = refl
step_same x tokens ((t, k) ∷ rows) = rw (same_token x, step_same x tokens rows)

pub step_other : {K : Type 0} (b x : ℕ) (tokens : List ℕ) (rows : RowsOf K) → (x == b) ≡ false
    → step b (under (x ∷ tokens) rows) ≡ []
step_other b x tokens [] other = refl
step_other b x tokens ((t, k) ∷ rows) other = rw (other, step_other b x tokens rows other)

pub own_under : {K : Type 0} (x : ℕ) (tokens : List ℕ) (rows : RowsOf K)
    → own (under (x ∷ tokens) rows) ≡ None
own_under x tokens [] = refl
own_under x tokens ((t, k) ∷ rows) = own_under x tokens rows

pub own_level : {K : Type 0} (end : Option K) (rows : RowsOf K) → own (level end rows) ≡ end
own_level None [] = refl
own_level (Some k) [] = refl
own_level None ((t, k) ∷ rows) = own_level None rows
own_level (Some e) ((t, k) ∷ rows) = own_level (Some e) rows

pub step_slash : {K : Type 0} (end : Option K) (rows : RowsOf K)
    → step slash (level end rows) ≡ rows
step_slash None [] = refl
step_slash (Some k) [] = refl
step_slash None ((t, k) ∷ rows) = ap (λ rest. (t, k) ∷ rest) (step_slash None rows)
step_slash (Some e) ((t, k) ∷ rows) = ap (λ rest. (t, k) ∷ rest) (step_slash (Some e) rows)

pub step_level : {K : Type 0} (b : ℕ) (end : Option K) (rows : RowsOf K) → (slash == b) ≡ false
    → step b (level end rows) ≡ []
step_level b None [] other = refl
step_level b (Some k) [] other = refl
step_level b None ((t, k) ∷ rows) other = rw (other, step_level b None rows other)
step_level b (Some e) ((t, k) ∷ rows) other = rw (other, step_level b (Some e) rows other)

-- ---- the router's walk

or_else_none : {K : Type 0} (o : Option K) → or_else o None ≡ o
or_else_none None = refl
or_else_none (Some k) = refl

-- a parameter without rows leads nowhere
param_nothing : {K : Type 0} (path : List ℕ) → (param_step {K = K} [] path).1 ≡ []
unfolding param_step
param_nothing {K = K} path = elim (has_slash path) as (λ b.
    (cond {A = ℕ × RowsOf K} b (0, []) (length path, [])).1 ≡ [])
    [ true ↦ refl | false ↦ refl ]

pub seek_nothing : {K : Type 0} (skip : ℕ) (path : List ℕ) → seek {K = K} skip [] path ≡ None
unfolding seek
seek_nothing zero [] = refl
seek_nothing (suc skip) [] = refl
seek_nothing (suc skip) (b ∷ path) = seek_nothing skip path
seek_nothing {K = K} zero (b ∷ path) =
    rw (seek_nothing {K = K} 0 path, param_nothing {K = K} (b ∷ path))
    (or_else_none _ ∙ seek_nothing {K = K} _ path)

pub seek_end : {K : Type 0} (rows : RowsOf K) → seek 0 rows [] ≡ own rows
unfolding seek
seek_end rows = refl

-- where no row goes on by a parameter
pub seek_byte : {K : Type 0} (rows : RowsOf K) (b : ℕ) (path : List ℕ)
    → step param_token rows ≡ [] → step catch_all_token rows ≡ []
    → seek 0 rows (b ∷ path) ≡ seek 0 (step b rows) path
unfolding seek
seek_byte {K = K} rows b path no_param no_rest =
    rw (no_param, no_rest, param_nothing {K = K} (b ∷ path))
    (ap (or_else (seek 0 (step b rows) path)) (or_else_none _ ∙ seek_nothing {K = K} _ path)
    ∙ or_else_none _)

-- where all rows go on by a parameter
pub seek_param : {K : Type 0} (rows : RowsOf K) (b : ℕ) (path : List ℕ) → b < 256
    → seek 0 (under (param_token ∷ []) rows) (b ∷ path)
    ≡ seek ((param_step rows (b ∷ path)).0 - 1) (param_step rows (b ∷ path)).1 path
unfolding seek
seek_param {K = K} rows b path small =
    rw (
      step_other b param_token [] rows (grind (arith, nat_tests)),
      step_same param_token [] rows,
      step_other catch_all_token param_token [] rows refl,
      under_nothing rows,
    )
    (ap (λ first. or_else first
    (or_else (seek ((param_step rows (b ∷ path)).0 - 1) (param_step rows (b ∷ path)).1 path)
    None))
    (seek_nothing {K = K} 0 path)
    ∙ or_else_none _)

-- what was taken is skipped
pub seek_skip : {K : Type 0} (rows : RowsOf K) (taken rest : List ℕ)
    → seek (length taken) rows (taken ++ rest) ≡ seek 0 rows rest
unfolding seek
seek_skip rows [] rest = refl
seek_skip rows (b ∷ taken) rest = seek_skip rows taken rest

pub seek_all : {K : Type 0} (rows : RowsOf K) (path : List ℕ)
    → seek (length path) rows path ≡ own rows
seek_all rows path =
    subst (λ text. seek (length path) rows text ≡ own rows) (append-nil path)
    (seek_skip rows path [] ∙ seek_end rows)
