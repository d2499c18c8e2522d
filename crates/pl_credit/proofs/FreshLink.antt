-- A gap begins a torn span on every virtual channel, and nothing else does.
use Rattle.std.proofs.Common.{◌≡◌, ℕ, Bool, true, false, ◌&&◌, ◌==◌, nat_lt, if◌then◌else◌}
use Rattle.std.proofs.Common.{List, [], ◌∷◌, ◌++◌, None, refl, ap, ◌∙◌}
use Rattle.pl_base.specs.Link.{is_same_direction, opposite_of}
use Rattle.pl_base.specs.declared.link.Dir.{Dir}
use Rattle.pl_base.specs.declared.rule.Rule.TheVariants.{F11}
use Rattle.pl_base.specs.declared.verdict.Verdict.{Verdict}
use Rattle.pl_base.specs.Verdict.{verdict_if}
use Rattle.pl_tlp.specs.declared.tlp.Cost.{Cost}
use Rattle.pl_profile.specs.declared.profile.Profile.{Profile}
use Rattle.pl_credit.specs.FreshLink as fresh
use Rattle.pl_credit.specs.FreshLink.{has_gap}
use Rattle.pl_credit.specs.History.{Event, Flow, Spoiled, Heard, Sent, is_torn}
use Rattle.pl_credit.specs.Link.{LinkEvent, FlowControl, SpoiledDllp, Tlp, Gap, credit_verdicts}
use Rattle.pl_credit.specs.Link.{receiver_of, seen}
use Rattle.pl_credit.proofs.Fresh.{verdicts-fresh}

-- an event that is no gap, if it comes to a channel
torn-if : (b : Bool) (event : Event) (past : List Event) → is_torn (event ∷ past) ≡ is_torn past
    → is_torn ((if b then event ∷ [] else []) ++ past) ≡ is_torn past
torn-if true event past same = same
torn-if false event past same = refl

torn-either : (b : Bool) (cost : Cost) (at : ℕ) (past : List Event)
    → is_torn ((if b then Sent cost at else Heard) ∷ past) ≡ is_torn past
torn-either true cost at past = refl
torn-either false cost at past = refl

pub torn-everywhere : (dir : Dir) (vc : ℕ) (past : List LinkEvent)
    → is_torn (seen dir vc past) ≡ has_gap past
torn-everywhere dir vc [] = refl
torn-everywhere dir vc (FlowControl from fc at ∷ past) =
    torn-if (is_same_direction from (opposite_of dir) && (fc.vc == vc)) (Flow fc at)
    (seen dir vc past) refl ∙ torn-everywhere dir vc past
torn-everywhere dir vc (SpoiledDllp from at ∷ past) =
    torn-if (is_same_direction from (opposite_of dir)) Spoiled (seen dir vc past) refl
    ∙ torn-everywhere dir vc past
torn-everywhere dir vc (Tlp from on cost at ∷ past) =
    torn-if (on == vc) (if is_same_direction from dir then Sent cost at else Heard)
    (seen dir vc past) (torn-either (is_same_direction from dir) cost at (seen dir vc past))
    ∙ torn-everywhere dir vc past
torn-everywhere dir vc (Gap ∷ past) = refl

pub link-fresh : (profile : Profile) (past : List LinkEvent) → has_gap past ≡ false
    → (event : LinkEvent) → credit_verdicts profile past event ≡ fresh.verdicts profile past event
unfolding credit_verdicts fresh.verdicts
link-fresh profile past whole (FlowControl from fc at) =
    ap (λ (verdicts : List Verdict).
    if nat_lt fc.vc profile.vcs then verdicts else verdict_if true F11 at None None)
    (verdicts-fresh (receiver_of profile (opposite_of from)) (seen (opposite_of from) fc.vc past)
    (torn-everywhere (opposite_of from) fc.vc past ∙ whole) (Flow fc at))
link-fresh profile past whole (SpoiledDllp from at) = refl
link-fresh profile past whole (Tlp from vc cost at) =
    verdicts-fresh (receiver_of profile from) (seen from vc past)
    (torn-everywhere from vc past ∙ whole) (Sent cost at)
link-fresh profile past whole Gap = refl
