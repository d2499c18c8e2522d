-- Positions that rise, as TLPs come and go.
use Rattle.std.proofs.Common.{ℕ, zero, suc, ◌<◌, ◌≤◌, List, [], ◌∷◌, ◌++◌, drop, arith}
use Rattle.pl_seq.specs.Sent.{Sent}
use Rattle.pl_seq.specs.Lane.{Rise}

-- the first stands above what lies lower too
rise-from : (lower before last : ℕ) (tlps : List Sent) → lower ≤ before → Rise before tlps last
    → Rise lower tlps last
rise-from lower before last [] below rises = omega (arith, below, rises)
rise-from lower before last (tlp ∷ later) below rises = (omega (arith, below, rises.0), rises.1)

-- the latest position grows
pub rise-to : (before last more : ℕ) (tlps : List Sent) → last ≤ more → Rise before tlps last
    → Rise before tlps more
rise-to before last more [] grows rises = omega (arith, grows, rises)
rise-to before last more (tlp ∷ later) grows rises =
    (rises.0, rise-to tlp.at last more later grows rises.1)

-- one TLP more, above all
pub rise-push : (before last : ℕ) (tlps : List Sent) (tlp : Sent) → last < tlp.at
    → Rise before tlps last → Rise before (tlps ++ tlp ∷ []) tlp.at
rise-push before last [] tlp above rises = (omega (arith, above, rises), omega arith)
rise-push before last (first ∷ later) tlp above rises =
    (rises.0, rise-push first.at last later tlp above rises.1)

-- the oldest leave
pub rise-drop : (count before last : ℕ) (tlps : List Sent) → Rise before tlps last
    → Rise before (drop count tlps) last
rise-drop zero before last tlps rises = rises
rise-drop (suc count) before last [] rises = rises
rise-drop (suc count) before last (tlp ∷ later) rises =
    rise-drop count before last later
    (rise-from before tlp.at last later (omega (arith, rises.0)) rises.1)
