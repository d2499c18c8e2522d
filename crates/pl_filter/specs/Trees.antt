-- A filter as contracts see it: all of it but the places in memory where its parts lie.
use Rattle.std.specs.Prelude.{ℕ, suc, max}
use Rattle.pl_filter.specs.declared.filter.Filter.{Filter}
use Rattle.pl_filter.specs.declared.filter.Filter.TheVariants.{And', Or', Not', Is}
use Rattle.pl_filter.specs.declared.filter.Test.{Test}

pub data Tree : Type 0 where
  Both : Tree → Tree → Tree
  Either : Tree → Tree → Tree
  Negated : Tree → Tree
  Passes : Test → Tree

abbrev pub tree : Filter → Tree
tree (And' p f q g) = Both (tree f) (tree g)
tree (Or' p f q g) = Either (tree f) (tree g)
tree (Not' p f) = Negated (tree f)
tree (Is t) = Passes t

-- the most of And, Or and Not on one path
abbrev pub nesting : Tree → ℕ
nesting (Both f g) = suc (max (nesting f) (nesting g))
nesting (Either f g) = suc (max (nesting f) (nesting g))
nesting (Negated f) = suc (nesting f)
nesting (Passes t) = 0
