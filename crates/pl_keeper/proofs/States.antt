-- What one call of the database leaves: the rows as they were, unless it writes, and no database open that was shut.
use Rattle.std.proofs.Common.{◌≡◌, ◌⊎◌, inl, inr, ℕ, List, false, Bool, Some, None, Option, Ok, Err, Result, sym, ap, subst, ◌∙◌, arith}
use Rattle.std.specs.Prelude.{IsTrue, Vec, IfOk, IfErr, OnOk, OnErr}
use Rattle.sqlite.specs.Order.{Row}
use Rattle.std.specs.declared.alloc.Global.{Global}
use Rattle.sqlite.specs.Schema.{Schema}
use Rattle.sqlite.specs.Effect.{Database}
use Rattle.sqlite_resolve.specs.declared.compiled.Compiled.{Compiled}
use Rattle.sqlite.specs.declared.error.Error.{Error}
use Rattle.sqlite_schema.specs.declared.command.Returning.{Returning}
use Rattle.sqlite.specs.Listing.{understood}
use Rattle.sqlite.specs.State.{State, IsUnchanged, IsRolledBack, KeepsCommit, Shown, ShowsRows, FailsToQuery, FailsToShow, IsNotRun, IsTooLate, Runs, RunsCommand, RunsAlone, shows_rows, ReleasesAt, ExecutesIn, Executes, ExecutesInside}
use Rattle.sqlite.specs.Command.{Command}
use Rattle.sqlite.specs.Command.TheVariants.{Select, Insert, InsertOr, Update, Delete, CreateTable, CreateIndex, DropTable, DropIndex, Begin, Commit, Rollback, Savepoint as Save, Release, RollbackTo, Nothing, CreateView, DropView, Rows}
use Rattle.std.proofs.lemmas.Bool.{cases_Bool}
use Rattle.sqlite.specs.Clock.{timed}
use Rattle.sqlite.proofs.Callers.{IsPlain}
use Rattle.pl_keeper.specs.Archive.{Archive}
use Rattle.pl_keeper.specs.Rows.{Holds}
use Rattle.pl_keeper.specs.Settled.{Lives, Continues, Settled, Within}

-- the call changed nothing, or it failed and the transaction was undone
abbrev pub IsSameOrUndone : State → State → Type 0
IsSameOrUndone old new = IsUnchanged old new ⊎ IsRolledBack old new

pub settled_stays : (Has : Database → Archive → Type 0) (old new : State) (a : Archive) → IsSameOrUndone old new → IsTrue new.is_open → Settled Has old a → Settled Has new a
settled_stays Has old new a (inl same) on s = record {
  is_open = on;
  autocommit = same.0.mode ∙ s.autocommit;
  committed = same.0.committed_is ∙ s.committed ∙ sym same.0.now_is;
  has = subst (λ d. Has d a) (sym same.0.now_is) s.has;
}
settled_stays Has old new a (inr undone) on s =
    let now : new.now ≡ old.now = (undone.undone on).0 ∙ s.committed in record {
      is_open = on;
      autocommit = undone.autocommit;
      committed = (undone.undone on).1 ∙ sym (undone.undone on).0;
      has = subst (λ d. Has d a) (sym now) s.has;
    }

pub within_stays : (old new : State) (a : Archive) → IsUnchanged old new → Within old a → Within new a
within_stays old new a same w = record {
  is_open = same.0.is_open;
  inside = subst (λ b. IsTrue b) (sym same.0.mode) w.inside;
  has = subst (λ d. Holds d a) (sym same.0.now_is) w.has;
}

pub commit_stays : (old new : State) → IsSameOrUndone old new → KeepsCommit old new
commit_stays old new (inl same) = record { was_open = λ _. same.0.was_open; committed = λ _. same.0.committed_is }
commit_stays old new (inr undone) = record { was_open = undone.was_open; committed = λ on. (undone.undone on).1 }

not_run : (old new : State) (sql : List ℕ) (params : Row) (e : Error) → IsNotRun old new sql params e → IsSameOrUndone old new
unfolding IsNotRun
not_run old new sql params e (inl none) = inl none.1
not_run old new sql params e (inr fails) = inr fails.3

module _ (sql : List ℕ) (params : Row) (old new : State) (schema : Schema) (has : old.now.schema ≡ schema) (plain : IsPlain (understood schema sql)) where
  pub shown_same : (rows : List Row) → Shown sql params old new rows → IsUnchanged old new
  unfolding Shown
  shown_same rows h =
      let known : understood schema sql ≡ Ok h.0 = ap (λ s. understood s sql) (sym has) ∙ h.1.is in
      let none = (subst IsPlain known plain).0 in
      (subst (ShowsRows old new sql h.0 (timed params h.0.formats h.1.now) rows) none h.2).3

  pub fails_same : (e : Error) → FailsToQuery sql params old new e → IsSameOrUndone old new
  unfolding FailsToQuery
  fails_same e (inl none) = not_run old new sql params e none
  fails_same e (inr h) =
      let known : understood schema sql ≡ Ok h.0 = ap (λ s. understood s sql) (sym has) ∙ h.1.is in
      let none = (subst IsPlain known plain).0 in
      inl (subst (FailsToShow old new sql h.0 (timed params h.0.formats h.1.now) e) none h.2).3

  pub too_late_same : (e : Error) → IsTooLate sql params old new e → IsSameOrUndone old new
  too_late_same e h = inl h.5

  pub within_after : (a : Archive) (r : Result (Vec Row Global) Error) → Within old a → IfOk r (λ rows. Shown sql params old new rows.items) → OnOk r (Within new a)
  within_after a (Ok rows) w h = within_stays old new a (shown_same rows.items h) w
  within_after a (Err e) w h = tt

  pub outside_same : (r : Result (Vec Row Global) Error) → IfOk r (λ rows. Shown sql params old new rows.items) → IfErr r (FailsToQuery sql params old new) → IsSameOrUndone old new
  outside_same (Ok rows) ok err = inl (shown_same rows.items ok)
  outside_same (Err e) ok err = fails_same e err

  pub inside_same : (r : Result (Vec Row Global) Error) → IfOk r (λ rows. Shown sql params old new rows.items) → IfErr r (λ e. FailsToQuery sql params old new e ⊎ IsTooLate sql params old new e) → IsSameOrUndone old new
  inside_same (Ok rows) ok err = inl (shown_same rows.items ok)
  inside_same (Err e) ok (inl fails) = fails_same e fails
  inside_same (Err e) ok (inr late) = too_late_same e late

-- ---- a call that ends with the database open began with it open

or_undone_open : (old new : State) → IsTrue new.is_open → IsSameOrUndone old new → IsTrue old.is_open
or_undone_open old new on (inl same) = same.0.was_open
or_undone_open old new on (inr undone) = undone.was_open on

runs_open : (old new : State) (returning : Option Returning) (command : Command) (text : List ℕ) (params : Row) (count : ℕ) → IsTrue new.is_open → Runs old new returning command text params count → IsTrue old.is_open
runs_open old new returning (Select q names) text params count on h = absurd h
runs_open old new returning (Insert at from) text params count on h = h.shown.was_open
runs_open old new returning (InsertOr at how from clauses) text params count on h = h.shown.was_open
runs_open old new returning (Update at q) text params count on h = h.shown.was_open
runs_open old new returning (Delete at q) text params count on h = h.shown.was_open
runs_open old new returning CreateTable text params count on h = h.shown.was_open
runs_open old new returning (CreateIndex at) text params count on h = h.shown.was_open
runs_open old new returning (DropTable at) text params count on h = h.shown.was_open
runs_open old new returning (DropIndex at) text params count on h = h.shown.was_open
runs_open old new returning Begin text params count on h = h.1.was_open
runs_open old new returning Commit text params count on h = h.1.was_open
runs_open old new returning Rollback text params count on h = h.1.was_open on
runs_open old new returning (Save name) text params count on h = h.0.0.was_open
runs_open old new returning (Release name) text params count on h = released_open old new h.0 h.2
  where
    released_open : (old new : State) (at : ℕ) → ReleasesAt old new at → IsTrue old.is_open
    released_open old new at (inl commits) = commits.1.0.was_open
    released_open old new at (inr drops) = drops.1.0.was_open
runs_open old new returning (RollbackTo name) text params count on h = h.2.2.was_open
runs_open old new returning (Rows values width names) text params count on h = h.0.0.was_open
runs_open old new returning Nothing text params count on h = h.0.0.was_open
runs_open old new returning CreateView text params count on h = h.shown.was_open
runs_open old new returning (DropView at) text params count on h = h.shown.was_open

command_open : (old new : State) (sql : List ℕ) (c : Compiled) (params : Row) (r : Result ℕ Error) → IsTrue new.is_open → RunsCommand old new sql c params r → IsTrue old.is_open
command_open old new sql c params (Ok count) on h = runs_open old new c.returning c.command _ params count on h
command_open old new sql c params (Err e) on (inl refused) = refused.1.0.was_open
command_open old new sql c params (Err e) on (inr fails) = fails.3.was_open on

alone_open : (in_batch : Bool) (old new : State) (sql : List ℕ) (c : Compiled) (params : Row) (r : Result ℕ Error) → IsTrue new.is_open → RunsAlone in_batch old new sql c params r → IsTrue old.is_open
alone_open in_batch old new sql c params r on h = elim (cases_Bool (shows_rows in_batch c)) [
  | inl shows ↦ (rw shows at h).1.0.was_open
  | inr runs ↦ command_open old new sql c params r on (rw runs at h)
]

pub executes_open : (in_batch : Bool) (sql : List ℕ) (params : Row) (old new : State) (r : Result ℕ Error) → ExecutesIn in_batch sql params old new r → IsTrue new.is_open → IsTrue old.is_open
unfolding ExecutesIn
executes_open in_batch sql params old new (Ok count) h on = alone_open in_batch old new sql h.0 _ (Ok count) on h.2
executes_open in_batch sql params old new (Err e) (inl none) on = or_undone_open old new on (not_run old new sql params e none)
executes_open in_batch sql params old new (Err e) (inr h) on = alone_open in_batch old new sql h.0 _ (Err e) on h.2

pub inside_open : (sql : List ℕ) (params : Row) (old new : State) (r : Result ℕ Error) → ExecutesInside 0 sql params old new r → IsTrue new.is_open → IsTrue old.is_open
inside_open sql params old new (Ok count) h on = h.1.was_open
inside_open sql params old new (Err e) (inl h) on = executes_open false sql params old new (Err e) h.0 on
inside_open sql params old new (Err e) (inr h) on = h.2.0.was_open

shows_open : (old new : State) (sql : List ℕ) (c : Compiled) (params : Row) (rows : List Row) (returning : Option Returning) → ShowsRows old new sql c params rows returning → IsTrue old.is_open
shows_open old new sql c params rows None h = h.3.0.was_open
shows_open old new sql c params rows (Some what) h = h.1.shown.was_open

not_shown_open : (old new : State) (sql : List ℕ) (c : Compiled) (params : Row) (e : Error) (returning : Option Returning) → FailsToShow old new sql c params e returning → IsTrue new.is_open → IsTrue old.is_open
not_shown_open old new sql c params e None h on = h.3.0.was_open
not_shown_open old new sql c params e (Some what) h on = command_open old new sql c params (Err e) on h

pub fails_open : (sql : List ℕ) (params : Row) (old new : State) (e : Error) → FailsToQuery sql params old new e → IsTrue new.is_open → IsTrue old.is_open
unfolding FailsToQuery
fails_open sql params old new e (inl none) on = or_undone_open old new on (not_run old new sql params e none)
fails_open sql params old new e (inr h) on = not_shown_open old new sql h.0 _ e _ h.2 on

pub shown_open : (sql : List ℕ) (params : Row) (old new : State) (rows : List Row) → Shown sql params old new rows → IsTrue new.is_open → IsTrue old.is_open
unfolding Shown
shown_open sql params old new rows h on = shows_open old new sql h.0 _ rows _ h.2

pub query_open : (sql : List ℕ) (params : Row) (old new : State) (r : Result (Vec Row Global) Error) → IfOk r (λ rows. Shown sql params old new rows.items) → IfErr r (FailsToQuery sql params old new) → IsTrue new.is_open → IsTrue old.is_open
query_open sql params old new (Ok rows) ok err on = shown_open sql params old new rows.items ok on
query_open sql params old new (Err e) ok err on = fails_open sql params old new e err on

pub query_inside_open : (sql : List ℕ) (params : Row) (old new : State) (r : Result (Vec Row Global) Error) → IfOk r (λ rows. Shown sql params old new rows.items) → IfErr r (λ e. FailsToQuery sql params old new e ⊎ IsTooLate sql params old new e) → IsTrue new.is_open → IsTrue old.is_open
query_inside_open sql params old new (Ok rows) ok err on = shown_open sql params old new rows.items ok on
query_inside_open sql params old new (Err e) ok (inl fails) on = fails_open sql params old new e fails on
query_inside_open sql params old new (Err e) ok (inr late) on = late.5.0.was_open

-- a statement that is refused changed nothing, or was undone
pub executes_err : (sql : List ℕ) (params : Row) (old new : State) (e : Error) → Executes sql params old new (Err e) → IsSameOrUndone old new
unfolding ExecutesIn
executes_err sql params old new e (inl none) = not_run old new sql params e none
executes_err sql params old new e (inr h) = elim (cases_Bool (shows_rows false h.0)) [
  | inl shows ↦ inl (rw shows at h.2).1
  | inr runs ↦ command_err (rw runs at h.2)
]
  where
    command_err : RunsCommand old new sql h.0 (timed params h.0.formats h.1.now) (Err e) → IsSameOrUndone old new
    command_err (inl refused) = inl refused.1
    command_err (inr fails) = inr fails.3

pub if_ok : {T E : Type 0} (r : Result T E) (P Q : T → Type 0) → ((x : T) → P x → Q x) → IfOk r P → IfOk r Q
if_ok (Ok x) P Q f h = f x h
if_ok (Err e) P Q f h = tt

pub either_way : {T E : Type 0} (r : Result T E) (P : T → Type 0) (Q : E → Type 0) (R : Type 0) → ((x : T) → P x → R) → ((e : E) → Q e → R) → IfOk r P → IfErr r Q → R
either_way (Ok x) P Q R f g h k = f x h
either_way (Err e) P Q R f g h k = g e k

pub if_err : {T E : Type 0} (r : Result T E) (P Q : Type 0) → (P → Q) → OnErr r P → OnErr r Q
if_err (Ok x) P Q f h = tt
if_err (Err e) P Q f h = f h

-- what lives after a call lived before it
pub lived : (old new : State) → Continues old new → Lives new → Lives old
lived old new on lives = record { clean = omega (arith, on.clean, lives.clean); is_open = on.was_open lives.clean lives.is_open }
