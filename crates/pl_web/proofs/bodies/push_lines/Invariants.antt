use Rattle.std.proofs.Common.{◌≡◌, ◌++◌, take}
use Rattle.std.specs.List.{flat_map}
use Rattle.pl_web.specs.Bodies.{next_line}
use Rattle.pl_web.proofs.bodies.push_lines.Given as goal

-- each line that was passed, behind a comma
abbrev pub invariant-loop-row : goal.invariant-loop-row
invariant-loop-row l =
    l.text.items ≡ l.initial.text.items ++ flat_map next_line (take l.row-index l.rest)
