-- The verdicts on a capture as JSON. An object has its members in the order of their keys.
-- `quoted` sets a text between quotes and escapes what has to be, as RFC 8259 says.
use Rattle.std.specs.Prelude.{ℕ, List, [], ◌∷◌, ◌++◌, Option, Some, None, codes, decimal}
use Rattle.std.specs.List.{flat_map}
use Rattle.json.specs.Print.{quoted}
use Rattle.pl_base.specs.Rule.{name_of}
use Rattle.pl_base.specs.declared.verdict.Verdict.{Verdict}
use Rattle.pl_engine.specs.declared.judged.Judged.{Judged}

-- a cited item: its number, or null where none is cited
abbrev pub cited_value : Option ℕ → List ℕ
cited_value None = codes "null"
cited_value (Some item) = decimal item

-- a verdict: the judged item, the cited earlier items and the broken rule
unfoldable pub verdict_object : Verdict → List ℕ
verdict_object v =
    codes "{\"at\":" ++ decimal v.at ++ codes ",\"first\":" ++ cited_value v.first
    ++ codes ",\"rule\":\"" ++ name_of v.rule ++ codes "\",\"second\":" ++ cited_value v.second
    ++ codes "}"

-- a verdict behind another one
abbrev pub next_object : Verdict → List ℕ
next_object v = codes "," ++ verdict_object v

abbrev pub objects : List Verdict → List ℕ
objects [] = []
objects (v ∷ vs) = verdict_object v ++ flat_map next_object vs

-- whose capture it is, how many items and verdicts it has, and the first of the verdicts
unfoldable pub verdicts_object : List ℕ → List ℕ → Judged → List ℕ
verdicts_object bench key judged =
    codes "{\"bench\":" ++ quoted bench ++ codes ",\"items\":" ++ decimal judged.items
    ++ codes ",\"key\":" ++ quoted key ++ codes ",\"total\":" ++ decimal judged.total
    ++ codes ",\"verdicts\":[" ++ objects judged.verdicts.items ++ codes "]}"
