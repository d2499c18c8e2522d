-- What a statement writes that adds one row.
use Rattle.std.proofs.Common.{◌≡◌, ◌≢◌, ◌⊎◌, inl, inr, ℕ, List, [], ◌∷◌, Bool, true, false, cond, None, Ok, Err, Result, refl, sym, ap, subst, ◌∙◌, arith}
use Rattle.std.specs.Prelude.{if◌then◌else◌, ◌&&◌, not}
use Rattle.sqlite.specs.declared.types.Value.{Value}
use Rattle.sqlite.specs.declared.types.Value.TheVariants.{Null, Int, Text, Blob}
use Rattle.sqlite.specs.Order.{Row}
use Rattle.sqlite.specs.Ops.{unary}
use Rattle.sqlite.specs.Kind.TheVariants.{Integer}
use Rattle.sqlite.specs.Source.TheVariants.{Values}
use Rattle.sqlite.specs.Command.TheVariants.{Insert}
use Rattle.sqlite.specs.Edit.{edit_of, edited, next_rowid}
use Rattle.sqlite_rules.specs.Edit.{Edit, left_by, are_fresh, is_taken}
use Rattle.sqlite.specs.Cast.{cast}
use Rattle.sqlite.specs.Rowids.TheVariants.{Chosen}
use Rattle.sqlite.specs.Does.{Tally, Does}
use Rattle.sqlite.specs.Rows.{Written, Edited}
use Rattle.sqlite_schema.specs.declared.schema.Keys.TheVariants.{Enforced}
use Rattle.sqlite.specs.Tree.{Trees, put_row}
use Rattle.sqlite.specs.Effect.{Database}
use Rattle.sqlite.specs.Listing.{understood}
use Rattle.sqlite.specs.State.{State, mode_of, Executes, Shows}
use Rattle.sqlite.proofs.Callers.{statement_of, runs_as, one_step}
use Rattle.pl_keeper.specs.Schema.{profiles_at, captures_at, both_tables}
use Rattle.pl_keeper.proofs.Texts.{profile_cells, capture_cells, add_profile_text, add_profile_adds, add_capture_text, add_capture_adds}

either_way : (b : Bool) (x : Value) → cond b x x ≡ x
either_way true x = refl
either_way false x = refl

cast_null : cast Integer Null ≡ Null
unfolding unary
cast_null = either_way _ Null

-- a part that gave a value did not stop on the way
pub went : {B E R : Type 0} {b : B} {Stops : E → Type 0} → ((stop : E) × Stops stop × (Ok b ≡ Err stop)) ⊎ R → R
went (inl stopped) = absurd (let e = stopped.2 in cc)
went (inr on) = on

pub same_value : {B E : Type 0} {a b : B} → ◌≡◌ {A = Result B E} (Ok a) (Ok b) → a ≡ b
same_value e = cc

not_taken : (b : Bool) → (not b && true) ≡ true → b ≡ false
not_taken true e = absurd cc
not_taken false e = refl

two_zero : ◌≢◌ {A = ℕ} 2 0
two_zero e = omega arith

zero_two : ◌≢◌ {A = ℕ} 0 2
zero_two e = omega arith

-- the cells went into one tree under the number that was next, which no row had, the other tree is as it was, and the transaction goes on
pub record AddsRow (tree other : ℕ) (cells : Row) (old new : State) : Type 0 where
  pub schema : new.now.schema ≡ both_tables
  pub written : new.now.trees tree ≡ put_row (Int (next_rowid (old.now.trees tree)) ∷ cells) (old.now.trees tree)
  pub free : is_taken (old.now.trees tree) (Int (next_rowid (old.now.trees tree)) ∷ cells) ≡ false
  pub other_table : new.now.trees other ≡ old.now.trees other
  pub shown : Shows old new new.now (if old.in_transaction then old.committed else new.now) old.in_transaction

pub adds_profile : (old new : State) (bench name bytes : List ℕ) (count : ℕ) → old.now.schema ≡ both_tables → Executes add_profile_text (Text bench ∷ Text name ∷ Blob bytes ∷ []) old new (Ok count)
    → AddsRow 0 2 (Text bench ∷ Text name ∷ Blob bytes ∷ []) old new
adds_profile old new bench name bytes count has h =
    let params = Text bench ∷ Text name ∷ Blob bytes ∷ [] in
    let db = old.now.trees in
    let command = Insert 0 (Values profile_cells 4) in
    let w = runs_as add_profile_text params old new both_tables has command add_profile_adds.0 add_profile_adds.1 count h in
    let text = statement_of add_profile_text (understood both_tables add_profile_text) in
    let done = went (subst (λ s. Does old.step_limit (mode_of old) params (record old.now { schema = s }) text None command (Ok (w.tally, new.now))) has w.changed) in
    let now = ap (λ (p : Tally × Database). p.1) (same_value (went (went done.2).2).2) in
    let given = went done.1 in
    let written = went (went given.2).2 in
    let counted = went written.2 in
    let trees : done.0.trees ≡ written.0 = ap (λ (it : Written). it.trees) (same_value counted.2) ∙ same_value counted.1 in
    let applied = one_step both_tables Enforced db written.0 (edit_of db (profiles_at 0) [] Chosen 0 ((Null ∷ params) ∷ [])) refl (subst (λ all. Edited both_tables Enforced db (edit_of db (profiles_at 0) [] Chosen 0 all) (Ok written.0)) given.1.1 written.1) in
    let edit : edited db (edit_of db (profiles_at 0) [] Chosen 0 ((Null ∷ params) ∷ [])) ≡ put_row (Int (next_rowid (db 0)) ∷ params) (db 0) = rw cast_null in
    let free : are_fresh (left_by db (edit_of db (profiles_at 0) [] Chosen 0 ((Null ∷ params) ∷ []))) ((λ (e : Edit). e.news) (edit_of db (profiles_at 0) [] Chosen 0 ((Null ∷ params) ∷ [])))
    ≡ (not (is_taken (db 0) (Int (next_rowid (db 0)) ∷ params)) && true) = rw cast_null in
    record {
      schema = ap (λ (d : Database). d.schema) now;
      free = not_taken _ (sym free ∙ applied.fresh);
      written = ap (λ (d : Database). d.trees 0) now ∙ ap (λ (t : Trees). t 0) trees ∙ applied.rows ∙ edit;
      other_table = ap (λ (d : Database). d.trees 2) now ∙ ap (λ (t : Trees). t 2) trees ∙ applied.tables.1.0 two_zero;
      shown = w.shown;
    }

pub adds_capture : (old new : State) (bench key profile bytes : List ℕ) (count : ℕ) → old.now.schema ≡ both_tables → Executes add_capture_text (Text bench ∷ Text key ∷ Text profile ∷ Blob bytes ∷ []) old new (Ok count)
    → AddsRow 2 0 (Text bench ∷ Text key ∷ Text profile ∷ Blob bytes ∷ []) old new
adds_capture old new bench key profile bytes count has h =
    let params = Text bench ∷ Text key ∷ Text profile ∷ Blob bytes ∷ [] in
    let db = old.now.trees in
    let command = Insert 1 (Values capture_cells 5) in
    let w = runs_as add_capture_text params old new both_tables has command add_capture_adds.0 add_capture_adds.1 count h in
    let text = statement_of add_capture_text (understood both_tables add_capture_text) in
    let done = went (subst (λ s. Does old.step_limit (mode_of old) params (record old.now { schema = s }) text None command (Ok (w.tally, new.now))) has w.changed) in
    let now = ap (λ (p : Tally × Database). p.1) (same_value (went (went done.2).2).2) in
    let given = went done.1 in
    let written = went (went given.2).2 in
    let counted = went written.2 in
    let trees : done.0.trees ≡ written.0 = ap (λ (it : Written). it.trees) (same_value counted.2) ∙ same_value counted.1 in
    let applied = one_step both_tables Enforced db written.0 (edit_of db (captures_at 2) [] Chosen 0 ((Null ∷ params) ∷ [])) refl (subst (λ all. Edited both_tables Enforced db (edit_of db (captures_at 2) [] Chosen 0 all) (Ok written.0)) given.1.1 written.1) in
    let edit : edited db (edit_of db (captures_at 2) [] Chosen 0 ((Null ∷ params) ∷ [])) ≡ put_row (Int (next_rowid (db 2)) ∷ params) (db 2) = rw cast_null in
    let free : are_fresh (left_by db (edit_of db (captures_at 2) [] Chosen 0 ((Null ∷ params) ∷ []))) ((λ (e : Edit). e.news) (edit_of db (captures_at 2) [] Chosen 0 ((Null ∷ params) ∷ [])))
    ≡ (not (is_taken (db 2) (Int (next_rowid (db 2)) ∷ params)) && true) = rw cast_null in
    record {
      schema = ap (λ (d : Database). d.schema) now;
      free = not_taken _ (sym free ∙ applied.fresh);
      written = ap (λ (d : Database). d.trees 2) now ∙ ap (λ (t : Trees). t 2) trees ∙ applied.rows ∙ edit;
      other_table = ap (λ (d : Database). d.trees 0) now ∙ ap (λ (t : Trees). t 0) trees ∙ applied.tables.0 zero_two;
      shown = w.shown;
    }
