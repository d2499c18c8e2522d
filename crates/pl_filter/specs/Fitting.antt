-- Filters of the code: their numbers have 64 bits.
use Rattle.std.specs.Prelude.{◌<◌, ◌^◌}
use Rattle.pl_filter.specs.Trees.{Tree, Both, Either, Negated, Passes}
use Rattle.pl_filter.specs.declared.filter.Test.{Test}
use Rattle.pl_filter.specs.declared.filter.Test.TheVariants as test

abbrev pub NumberFits : Test → Type 0
NumberFits test.Any = Unit {0}
NumberFits test.Up = Unit {0}
NumberFits test.Down = Unit {0}
NumberFits test.Tlp = Unit {0}
NumberFits test.Dllp = Unit {0}
NumberFits test.LinkDown = Unit {0}
NumberFits test.Spoiled = Unit {0}
NumberFits test.Nullified = Unit {0}
NumberFits (test.Kind name) = Unit {0}
NumberFits (test.Number n) = n < 2 ^ 64
NumberFits (test.Tag n) = n < 2 ^ 64
NumberFits (test.Requester n) = n < 2 ^ 64
NumberFits (test.Tc n) = n < 2 ^ 64
NumberFits (test.Before n) = n < 2 ^ 64
NumberFits (test.After n) = n < 2 ^ 64

abbrev pub NumbersFit : Tree → Type 0
NumbersFit (Both f g) = NumbersFit f × NumbersFit g
NumbersFit (Either f g) = NumbersFit f × NumbersFit g
NumbersFit (Negated f) = NumbersFit f
NumbersFit (Passes t) = NumberFits t
