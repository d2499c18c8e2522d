-- A span that no gap began, in terms that know of none: what a capture without gaps gives.
-- PCI Express Base Specification 5.0, chapter 2, flow control, and chapter 3, flow control
-- initialization.
use Rattle.std.specs.Prelude.{ℕ, ◌+◌, ◌/◌, Bool, false, not, ◌&&◌, ◌||◌, ◌==◌, nat_lt}
use Rattle.std.specs.Prelude.{List, [], ◌∷◌, ◌++◌, Option, Some, None, is_some}
use Rattle.std.specs.Option.{option_or}
use Rattle.pl_base.specs.declared.link.Class.{Class}
use Rattle.pl_base.specs.declared.link.Class.TheVariants.{P, Np, Cpl}
use Rattle.pl_base.specs.declared.rule.Rule.TheVariants.{F1, F2, F3, F4, F5, F6, F7, F8, F9, F10}
use Rattle.pl_base.specs.declared.verdict.Verdict.{Verdict}
use Rattle.pl_base.specs.Verdict.{verdict_if}
use Rattle.pl_dllp.specs.declared.packet.Fc.{Fc}
use Rattle.pl_tlp.specs.declared.tlp.Cost.{Cost}
use Rattle.pl_credit.specs.declared.advert.Advert.{Advert}
use Rattle.pl_credit.specs.declared.advert.Receiver.{Receiver}
use Rattle.pl_credit.specs.declared.pool.Pool.TheVariants.{Header, Data}
use Rattle.pl_credit.specs.Pools.{advertised, cost_in, is_infinite}
use Rattle.pl_credit.specs.History.{Event, Flow, Spoiled, Heard, Sent, Gap, is_class, is_init1}
use Rattle.pl_credit.specs.History.{is_spoiled_since, is_update, latest_init1, next_turn, some_if}
use Rattle.pl_credit.specs.History.{turn_of, used}
use Rattle.pl_credit.specs.Rules.{breaks_f3, breaks_f5, grants_too_much, overspends, position_of}

-- the first InitFC1 or InitFC2 of a class
abbrev pub initial : Class → List Event → Option Advert
initial class [] = None
initial class (Flow fc at ∷ past) =
    option_or (initial class past)
    (some_if (is_class fc.class class && not (is_update fc.stage)) fc at)
initial class (Spoiled ∷ past) = initial class past
initial class (Heard ∷ past) = initial class past
initial class (Sent cost at ∷ past) = initial class past
initial class (Gap ∷ past) = None

-- the latest UpdateFC of a class after its initial
abbrev pub update : Class → List Event → Option Advert
update class [] = None
update class (Flow fc at ∷ past) =
    option_or (some_if (is_class fc.class class
    && (is_update fc.stage && is_some (initial class past))) fc at) (update class past)
update class (Spoiled ∷ past) = update class past
update class (Heard ∷ past) = update class past
update class (Sent cost at ∷ past) = update class past
update class (Gap ∷ past) = None

abbrev pub grant : Class → List Event → Option Advert
grant class past = option_or (update class past) (initial class past)

abbrev pub is_advertised : List Event → Bool
is_advertised past =
    is_some (initial P past) && (is_some (initial Np past) && is_some (initial Cpl past))

-- after the latest of the three initials the receiver sent an InitFC2, an UpdateFC or a TLP
abbrev pub is_ready : List Event → Bool
is_ready [] = false
is_ready (Flow fc at ∷ past) = is_ready past || (is_advertised past && not (is_init1 fc.stage))
is_ready (Spoiled ∷ past) = is_ready past
is_ready (Heard ∷ past) = is_ready past || is_advertised past
is_ready (Sent cost at ∷ past) = is_ready past
is_ready (Gap ∷ past) = false

-- the DLLP is the initial of its class: the first InitFC1 or InitFC2
abbrev pub is_initial : Option Advert → Fc → Bool
is_initial None fc = not (is_update fc.stage)
is_initial (Some first) fc = false

abbrev pub breaks_f1 : List Event → Bool
breaks_f1 past = not (is_ready past)

abbrev pub breaks_f2 : List Event → Fc → Bool
breaks_f2 past fc =
    is_init1 fc.stage
    && (not (turn_of fc.class == next_turn (latest_init1 past)) && not (is_spoiled_since past))

abbrev pub breaks_f4 : Receiver → Option Advert → Fc → Bool
breaks_f4 receiver first fc =
    is_initial first fc
    && (is_class fc.class P
    && (not (is_infinite Data fc) && nat_lt (advertised Data fc) (receiver.max_payload / 16)))

abbrev pub breaks_f6 : Receiver → Option Advert → Fc → Bool
breaks_f6 receiver first fc =
    is_initial first fc
    && (is_class fc.class Cpl
    && (receiver.is_endpoint && (not (is_infinite Header fc) || not (is_infinite Data fc))))

abbrev pub breaks_f7 : Option Advert → Fc → Bool
breaks_f7 None fc = is_update fc.stage
breaks_f7 (Some first) fc = false

abbrev pub breaks_f8 : List Event → Option Advert → Fc → Bool
breaks_f8 past None fc = not (is_update fc.stage) && grants_too_much fc fc past
breaks_f8 past (Some first) fc = is_update fc.stage && grants_too_much first.fc fc past

abbrev pub breaks_f9 : List Event → Cost → Bool
breaks_f9 past cost =
    overspends Header (initial cost.class past) (grant cost.class past)
    (used Header cost.class past + cost_in Header cost)

abbrev pub breaks_f10 : List Event → Cost → Bool
breaks_f10 past cost =
    not (cost_in Data cost == 0)
    && overspends Data (initial cost.class past) (grant cost.class past)
    (used Data cost.class past + cost_in Data cost)

abbrev pub class_verdicts : Receiver → List Event → Option Advert → Fc → ℕ → List Verdict
class_verdicts receiver past first fc at =
    verdict_if (breaks_f3 first fc) F3 at (position_of first) None
    ++ (verdict_if (breaks_f4 receiver first fc) F4 at None None
    ++ (verdict_if (breaks_f5 first fc) F5 at (position_of first) None
    ++ (verdict_if (breaks_f6 receiver first fc) F6 at None None
    ++ (verdict_if (breaks_f7 first fc) F7 at None None
    ++ verdict_if (breaks_f8 past first fc) F8 at (position_of first) None))))

-- the verdicts of an event on a virtual channel, after a history without a gap
unfoldable pub verdicts : Receiver → List Event → Event → List Verdict
verdicts receiver past (Flow fc at) =
    verdict_if (breaks_f2 past fc) F2 at (position_of (latest_init1 past)) None
    ++ class_verdicts receiver past (initial fc.class past) fc at
verdicts receiver past Spoiled = []
verdicts receiver past Heard = []
verdicts receiver past Gap = []
verdicts receiver past (Sent cost at) =
    verdict_if (breaks_f1 past) F1 at None None
    ++ (verdict_if (breaks_f9 past cost) F9 at (position_of (grant cost.class past)) None
    ++ verdict_if (breaks_f10 past cost) F10 at (position_of (grant cost.class past)) None)
