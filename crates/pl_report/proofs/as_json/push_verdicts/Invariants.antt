use Rattle.std.proofs.Common.{◌≡◌, ◌++◌, take}
use Rattle.std.specs.List.{flat_map}
use Rattle.std.specs.String.{string_bytes}
use Rattle.pl_report.specs.Json.{next_object}
use Rattle.pl_report.proofs.as_json.push_verdicts.Given as goal

-- each verdict that was passed, behind a comma
abbrev pub invariant-loop-verdict : goal.invariant-loop-verdict
invariant-loop-verdict l =
    string_bytes l.text
    ≡ string_bytes l.initial.text ++ flat_map next_object (take l.verdict-index l.rest)
