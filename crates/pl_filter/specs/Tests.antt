-- How tests and filters are written.
use Rattle.std.specs.Prelude.{ℕ, List, [], ◌++◌, codes, decimal}
use Rattle.pl_filter.specs.Names.{text_of}
use Rattle.pl_filter.specs.Trees.{Tree, Both, Either, Negated, Passes}
use Rattle.pl_filter.specs.declared.filter.Test.{Test}
use Rattle.pl_filter.specs.declared.filter.Test.TheVariants as test

-- the word of a test, up to its value where it has one
abbrev pub front_of : Test → List ℕ
front_of test.Any = codes "any"
front_of test.Up = codes "up"
front_of test.Down = codes "down"
front_of test.Tlp = codes "tlp"
front_of test.Dllp = codes "dllp"
front_of test.LinkDown = codes "linkdown"
front_of test.Spoiled = codes "spoiled"
front_of test.Nullified = codes "nullified"
front_of (test.Kind name) = codes "kind="
front_of (test.Number n) = codes "number="
front_of (test.Tag n) = codes "tag="
front_of (test.Requester n) = codes "requester="
front_of (test.Tc n) = codes "tc="
front_of (test.Before n) = codes "time<"
front_of (test.After n) = codes "time>"

-- the value as it is printed
abbrev pub value_text : Test → List ℕ
value_text test.Any = []
value_text test.Up = []
value_text test.Down = []
value_text test.Tlp = []
value_text test.Dllp = []
value_text test.LinkDown = []
value_text test.Spoiled = []
value_text test.Nullified = []
value_text (test.Kind name) = text_of name
value_text (test.Number n) = decimal n
value_text (test.Tag n) = decimal n
value_text (test.Requester n) = decimal n
value_text (test.Tc n) = decimal n
value_text (test.Before n) = decimal n
value_text (test.After n) = decimal n

-- the printed text of a filter: one space between parts, and none beside the edge of a parenthesis
abbrev pub printed : Tree → List ℕ
printed (Both f g) = codes "(and " ++ printed f ++ codes " " ++ printed g ++ codes ")"
printed (Either f g) = codes "(or " ++ printed f ++ codes " " ++ printed g ++ codes ")"
printed (Negated f) = codes "(not " ++ printed f ++ codes ")"
printed (Passes t) = front_of t ++ value_text t
