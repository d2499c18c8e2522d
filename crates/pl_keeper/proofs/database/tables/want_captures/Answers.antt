use Rattle.std.proofs.Common.{◌≡◌, false, ◌∙◌, sym, ap, subst, codes}
use Rattle.std.specs.Prelude.{bytes_eq}
use Rattle.std.specs.List.{list_any}
use Rattle.sqlite.specs.Schema.{Schema}
use Rattle.sqlite.specs.Held.{state}
use Rattle.pl_keeper.proofs.Creates.{lacks_captures}
use Rattle.pl_keeper.proofs.database.tables.want_captures.Goals as goal

pub returns-clause-made : goal.returns-clause-made
returns-clause-made g c lives a s =
    let old = state g.S.Store c.args.db.now in
    let lacks = subst (λ ts. list_any (λ t. bytes_eq t.name (codes "captures")) ts ≡ false) (c.as_slice.ensures ∙ ap (λ (s : Schema). s.tables) c.schema.ensures.value) (sym c.has_table.ensures ∙ c.if-has_table.false) in
    c.in_ok-create_captures.ensures.made lives a (record { is_open = s.is_open; autocommit = s.autocommit; committed = s.committed; has = lacks_captures old.now a s.has lacks })
