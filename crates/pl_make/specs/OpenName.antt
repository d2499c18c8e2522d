-- The name of the open file.
use Rattle.std.specs.Prelude.{ℕ, List, map}
use Rattle.pl_make.specs.declared.name.OpenName.{OpenName}

abbrev pub name_in : OpenName → List ℕ
name_in name = map (λ pair. pair.0) name.bytes.items
