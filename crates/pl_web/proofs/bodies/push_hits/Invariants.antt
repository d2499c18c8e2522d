use Rattle.std.proofs.Common.{◌≡◌, ◌++◌, take}
use Rattle.std.specs.List.{flat_map}
use Rattle.pl_web.specs.Bodies.{next_hit}
use Rattle.pl_web.proofs.bodies.push_hits.Given as goal

-- each hit that was passed, behind a comma
abbrev pub invariant-loop-next : goal.invariant-loop-next
invariant-loop-next l =
    l.text.items ≡ l.initial.text.items ++ flat_map next_hit (take l.next-index l.rest)
