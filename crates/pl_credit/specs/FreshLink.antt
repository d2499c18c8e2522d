-- A link whose span no gap began, in terms that know of none: what a capture without gaps gives.
-- PCI Express Base Specification 5.0, chapter 2, flow control.
use Rattle.std.specs.Prelude.{Bool, true, false, nat_lt, if◌then◌else◌, List, [], ◌∷◌, None}
use Rattle.pl_base.specs.Link.{opposite_of}
use Rattle.pl_base.specs.declared.rule.Rule.TheVariants.{F11}
use Rattle.pl_base.specs.declared.verdict.Verdict.{Verdict}
use Rattle.pl_base.specs.Verdict.{verdict_if}
use Rattle.pl_profile.specs.declared.profile.Profile.{Profile}
use Rattle.pl_credit.specs.Fresh as channel
use Rattle.pl_credit.specs.History.{Flow, Sent}
use Rattle.pl_credit.specs.Link.{LinkEvent, FlowControl, SpoiledDllp, Tlp, Gap, receiver_of, seen}

-- a gap stands in the history
abbrev pub has_gap : List LinkEvent → Bool
has_gap [] = false
has_gap (FlowControl from fc at ∷ past) = has_gap past
has_gap (SpoiledDllp from at ∷ past) = has_gap past
has_gap (Tlp from vc cost at ∷ past) = has_gap past
has_gap (Gap ∷ past) = true

-- the verdicts of an event after a history without a gap
unfoldable pub verdicts : Profile → List LinkEvent → LinkEvent → List Verdict
verdicts profile past (FlowControl from fc at) =
    if nat_lt fc.vc profile.vcs
    then channel.verdicts (receiver_of profile (opposite_of from))
    (seen (opposite_of from) fc.vc past) (Flow fc at)
    else verdict_if true F11 at None None
verdicts profile past (SpoiledDllp from at) = []
verdicts profile past (Tlp from vc cost at) =
    channel.verdicts (receiver_of profile from) (seen from vc past) (Sent cost at)
verdicts profile past Gap = []
