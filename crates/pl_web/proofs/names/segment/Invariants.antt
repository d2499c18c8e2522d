use Rattle.std.proofs.Common.{◌≡◌, get_or, []}
use denote.Text.{Utf8}
use denote.Shadow.{shadow}
use Rattle.pl_web.specs.Paths.{segments_of}
use Rattle.pl_web.proofs.names.segment.Given as goal

abbrev pub invariant-loop-left : goal.invariant-loop-left
invariant-loop-left l = shadow (Utf8 l.text)
    × (get_or (segments_of l.text) l.left [] ≡ get_or (segments_of l.path) l.place [])

abbrev pub decreases-loop-left : goal.decreases-loop-left
decreases-loop-left l = l.left
