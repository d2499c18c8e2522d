-- In a span that no gap began the terms and the rules of a channel are those that know of none.
use Rattle.std.proofs.Common.{◌≡◌, ℕ, ◌+◌, ◌/◌, Bool, true, false, not, ◌&&◌, ◌||◌, ◌==◌, nat_lt}
use Rattle.std.proofs.Common.{is_some, List, [], ◌∷◌, ◌++◌, Option, Some, None, refl, ap, ◌∙◌}
use Rattle.std.specs.Option.{option_or}
use Rattle.pl_base.specs.declared.link.Class.{Class}
use Rattle.pl_base.specs.declared.link.Class.TheVariants.{P, Np, Cpl}
use Rattle.pl_base.specs.declared.rule.Rule.TheVariants.{F1, F2, F3, F4, F5, F6, F7, F8, F9, F10}
use Rattle.pl_base.specs.declared.verdict.Verdict.{Verdict}
use Rattle.pl_base.specs.Verdict.{verdict_if}
use Rattle.pl_dllp.specs.declared.packet.Fc.{Fc}
use Rattle.pl_dllp.specs.declared.packet.Stage.{Stage}
use Rattle.pl_dllp.specs.declared.packet.Stage.TheVariants.{Init1, Init2, Update}
use Rattle.pl_tlp.specs.declared.tlp.Cost.{Cost}
use Rattle.pl_credit.specs.declared.advert.Advert.{Advert}
use Rattle.pl_credit.specs.declared.advert.Receiver.{Receiver}
use Rattle.pl_credit.specs.declared.pool.Pool.TheVariants.{Header, Data}
use Rattle.pl_credit.specs.Fresh as fresh
use Rattle.pl_credit.specs.Pools.{advertised, cost_in, is_infinite}
use Rattle.pl_credit.specs.History.{Event, Flow, Spoiled, Heard, Sent, Gap, grant, has_turn}
use Rattle.pl_credit.specs.History.{initial, is_advertised, is_class, is_init1, is_ready}
use Rattle.pl_credit.specs.History.{is_spoiled_since, is_torn, is_update, latest_init1, may_open}
use Rattle.pl_credit.specs.History.{next_turn, some_if, turn_of, update, used}
use Rattle.pl_credit.specs.Rules.{breaks_f1, breaks_f10, breaks_f2, breaks_f3, breaks_f4}
use Rattle.pl_credit.specs.Rules.{breaks_f5, breaks_f6, breaks_f7, breaks_f8, breaks_f9}
use Rattle.pl_credit.specs.Rules.{channel_verdicts, grants_too_much, overspends, position_of}

and-true : (b : Bool) → (b && true) ≡ b
and-true true = refl
and-true false = refl

-- each InitFC1 or InitFC2 may open its class
opens : (torn : Bool) (stage : Stage) → torn ≡ false → may_open torn stage ≡ not (is_update stage)
opens false Init1 whole = refl
opens false Init2 whole = refl
opens false Update whole = refl
opens true stage whole = cc

pub initial-fresh : (class : Class) (past : List Event) → is_torn past ≡ false
    → initial class past ≡ fresh.initial class past
initial-fresh class [] whole = refl
initial-fresh class (Flow fc at ∷ past) whole =
    ap (λ (b : Bool). option_or (initial class past) (some_if (is_class fc.class class && b) fc at))
    (opens (is_torn past) fc.stage whole)
    ∙ ap (λ (first : Option Advert).
    option_or first (some_if (is_class fc.class class && not (is_update fc.stage)) fc at))
    (initial-fresh class past whole)
initial-fresh class (Spoiled ∷ past) whole = initial-fresh class past whole
initial-fresh class (Heard ∷ past) whole = initial-fresh class past whole
initial-fresh class (Sent cost at ∷ past) whole = initial-fresh class past whole
initial-fresh class (Gap ∷ past) whole = cc

update-fresh : (class : Class) (past : List Event) → is_torn past ≡ false
    → update class past ≡ fresh.update class past
update-fresh class [] whole = refl
update-fresh class (Flow fc at ∷ past) whole =
    ap (λ (first : Option Advert).
    option_or (some_if (is_class fc.class class && (is_update fc.stage && is_some first)) fc at)
    (update class past)) (initial-fresh class past whole)
    ∙ ap (λ (latest : Option Advert).
    option_or (some_if (is_class fc.class class
    && (is_update fc.stage && is_some (fresh.initial class past))) fc at) latest)
    (update-fresh class past whole)
update-fresh class (Spoiled ∷ past) whole = update-fresh class past whole
update-fresh class (Heard ∷ past) whole = update-fresh class past whole
update-fresh class (Sent cost at ∷ past) whole = update-fresh class past whole
update-fresh class (Gap ∷ past) whole = cc

pub grant-fresh : (class : Class) (past : List Event) → is_torn past ≡ false
    → grant class past ≡ fresh.grant class past
grant-fresh class past whole =
    ap (λ (latest : Option Advert). option_or latest (initial class past))
    (update-fresh class past whole)
    ∙ ap (λ (first : Option Advert). option_or (fresh.update class past) first)
    (initial-fresh class past whole)

advertised-fresh : (past : List Event) → is_torn past ≡ false
    → is_advertised past ≡ fresh.is_advertised past
advertised-fresh past whole =
    ap (λ (p : Option Advert).
    is_some p && (is_some (initial Np past) && is_some (initial Cpl past)))
    (initial-fresh P past whole)
    ∙ ap (λ (np : Option Advert).
    is_some (fresh.initial P past) && (is_some np && is_some (initial Cpl past)))
    (initial-fresh Np past whole)
    ∙ ap (λ (cpl : Option Advert).
    is_some (fresh.initial P past) && (is_some (fresh.initial Np past) && is_some cpl))
    (initial-fresh Cpl past whole)

pub ready-fresh : (past : List Event) → is_torn past ≡ false → is_ready past ≡ fresh.is_ready past
ready-fresh [] whole = refl
ready-fresh (Flow fc at ∷ past) whole =
    ap (λ (ready : Bool). ready || (is_advertised past && not (is_init1 fc.stage)))
    (ready-fresh past whole)
    ∙ ap (λ (all : Bool). fresh.is_ready past || (all && not (is_init1 fc.stage)))
    (advertised-fresh past whole)
ready-fresh (Spoiled ∷ past) whole = ready-fresh past whole
ready-fresh (Heard ∷ past) whole =
    ap (λ (ready : Bool). ready || is_advertised past) (ready-fresh past whole)
    ∙ ap (λ (all : Bool). fresh.is_ready past || all) (advertised-fresh past whole)
ready-fresh (Sent cost at ∷ past) whole = ready-fresh past whole
ready-fresh (Gap ∷ past) whole = cc

-- the rules, one by one
module _ (past : List Event) (whole : is_torn past ≡ false) where
  pub f1-fresh : breaks_f1 past ≡ fresh.breaks_f1 past
  f1-fresh =
      ap (λ (torn : Bool). not (is_ready past) && (not torn || is_advertised past)) whole
      ∙ and-true (not (is_ready past))
      ∙ ap (λ (ready : Bool). not ready) (ready-fresh past whole)

  pub f2-fresh : (fc : Fc) → breaks_f2 past fc ≡ fresh.breaks_f2 past fc
  f2-fresh fc =
      ap (λ (torn : Bool). is_init1 fc.stage
      && (has_turn torn (latest_init1 past)
      && (not (turn_of fc.class == next_turn (latest_init1 past))
      && not (is_spoiled_since past)))) whole

  pub f3-fresh : (fc : Fc)
      → breaks_f3 (initial fc.class past) fc ≡ breaks_f3 (fresh.initial fc.class past) fc
  f3-fresh fc =
      ap (λ (first : Option Advert). breaks_f3 first fc) (initial-fresh fc.class past whole)

  pub f5-fresh : (fc : Fc)
      → breaks_f5 (initial fc.class past) fc ≡ breaks_f5 (fresh.initial fc.class past) fc
  f5-fresh fc =
      ap (λ (first : Option Advert). breaks_f5 first fc) (initial-fresh fc.class past whole)

  f4-of : (receiver : Receiver) (first : Option Advert) (fc : Fc)
      → breaks_f4 receiver (is_torn past) first fc ≡ fresh.breaks_f4 receiver first fc
  f4-of receiver None fc =
      ap (λ (b : Bool). b && (is_class fc.class P && (not (is_infinite Data fc)
      && nat_lt (advertised Data fc) (receiver.max_payload / 16))))
      (opens (is_torn past) fc.stage whole)
  f4-of receiver (Some first) fc = refl

  f6-of : (receiver : Receiver) (first : Option Advert) (fc : Fc)
      → breaks_f6 receiver (is_torn past) first fc ≡ fresh.breaks_f6 receiver first fc
  f6-of receiver None fc =
      ap (λ (b : Bool). b && (is_class fc.class Cpl && (receiver.is_endpoint
      && (not (is_infinite Header fc) || not (is_infinite Data fc)))))
      (opens (is_torn past) fc.stage whole)
  f6-of receiver (Some first) fc = refl

  f7-of : (first : Option Advert) (fc : Fc)
      → breaks_f7 (is_torn past) first fc ≡ fresh.breaks_f7 first fc
  f7-of None fc =
      ap (λ (torn : Bool). is_update fc.stage && not torn) whole ∙ and-true (is_update fc.stage)
  f7-of (Some first) fc = refl

  f8-of : (first : Option Advert) (fc : Fc)
      → breaks_f8 past first fc ≡ fresh.breaks_f8 past first fc
  f8-of None fc =
      ap (λ (b : Bool). b && grants_too_much fc fc past) (opens (is_torn past) fc.stage whole)
  f8-of (Some first) fc = refl

  pub f4-fresh : (receiver : Receiver) (fc : Fc)
      → breaks_f4 receiver (is_torn past) (initial fc.class past) fc
      ≡ fresh.breaks_f4 receiver (fresh.initial fc.class past) fc
  f4-fresh receiver fc =
      f4-of receiver (initial fc.class past) fc
      ∙ ap (λ (first : Option Advert). fresh.breaks_f4 receiver first fc)
      (initial-fresh fc.class past whole)

  pub f6-fresh : (receiver : Receiver) (fc : Fc)
      → breaks_f6 receiver (is_torn past) (initial fc.class past) fc
      ≡ fresh.breaks_f6 receiver (fresh.initial fc.class past) fc
  f6-fresh receiver fc =
      f6-of receiver (initial fc.class past) fc
      ∙ ap (λ (first : Option Advert). fresh.breaks_f6 receiver first fc)
      (initial-fresh fc.class past whole)

  pub f7-fresh : (fc : Fc) → breaks_f7 (is_torn past) (initial fc.class past) fc
      ≡ fresh.breaks_f7 (fresh.initial fc.class past) fc
  f7-fresh fc =
      f7-of (initial fc.class past) fc
      ∙ ap (λ (first : Option Advert). fresh.breaks_f7 first fc) (initial-fresh fc.class past whole)

  pub f8-fresh : (fc : Fc) → breaks_f8 past (initial fc.class past) fc
      ≡ fresh.breaks_f8 past (fresh.initial fc.class past) fc
  f8-fresh fc =
      f8-of (initial fc.class past) fc
      ∙ ap (λ (first : Option Advert). fresh.breaks_f8 past first fc)
      (initial-fresh fc.class past whole)

  pub f9-fresh : (cost : Cost) → breaks_f9 past cost ≡ fresh.breaks_f9 past cost
  f9-fresh cost =
      ap (λ (first : Option Advert). overspends Header first (grant cost.class past)
      (used Header cost.class past + cost_in Header cost)) (initial-fresh cost.class past whole)
      ∙ ap (λ (latest : Option Advert). overspends Header (fresh.initial cost.class past) latest
      (used Header cost.class past + cost_in Header cost)) (grant-fresh cost.class past whole)

  pub f10-fresh : (cost : Cost) → breaks_f10 past cost ≡ fresh.breaks_f10 past cost
  f10-fresh cost =
      ap (λ (first : Option Advert). not (cost_in Data cost == 0)
      && overspends Data first (grant cost.class past)
      (used Data cost.class past + cost_in Data cost)) (initial-fresh cost.class past whole)
      ∙ ap (λ (latest : Option Advert). not (cost_in Data cost == 0)
      && overspends Data (fresh.initial cost.class past) latest
      (used Data cost.class past + cost_in Data cost)) (grant-fresh cost.class past whole)

-- their verdicts side by side
abbrev of_dllp : Bool → Bool → Bool → Bool → Bool → Bool → Bool → ℕ → Option ℕ → Option ℕ
    → List Verdict
of_dllp f2 f3 f4 f5 f6 f7 f8 at latest first =
    verdict_if f2 F2 at latest None
    ++ (verdict_if f3 F3 at first None
    ++ (verdict_if f4 F4 at None None
    ++ (verdict_if f5 F5 at first None
    ++ (verdict_if f6 F6 at None None
    ++ (verdict_if f7 F7 at None None
    ++ verdict_if f8 F8 at first None)))))

of_dllp-same : (f2 f3 f4 f5 f6 f7 f8 g2 g3 g4 g5 g6 g7 g8 : Bool) (at : ℕ)
    (latest first other : Option ℕ)
    → f2 ≡ g2 → f3 ≡ g3 → f4 ≡ g4 → f5 ≡ g5 → f6 ≡ g6 → f7 ≡ g7 → f8 ≡ g8 → first ≡ other
    → of_dllp f2 f3 f4 f5 f6 f7 f8 at latest first ≡ of_dllp g2 g3 g4 g5 g6 g7 g8 at latest other
of_dllp-same f2 f3 f4 f5 f6 f7 f8 g2 g3 g4 g5 g6 g7 g8 at latest first other
    e2 e3 e4 e5 e6 e7 e8 e = rw (e2, e3, e4, e5, e6, e7, e8, e) refl

abbrev of_tlp : Bool → Bool → Bool → ℕ → Option ℕ → List Verdict
of_tlp f1 f9 f10 at latest =
    verdict_if f1 F1 at None None
    ++ (verdict_if f9 F9 at latest None ++ verdict_if f10 F10 at latest None)

of_tlp-same : (f1 f9 f10 g1 g9 g10 : Bool) (at : ℕ) (latest other : Option ℕ)
    → f1 ≡ g1 → f9 ≡ g9 → f10 ≡ g10 → latest ≡ other
    → of_tlp f1 f9 f10 at latest ≡ of_tlp g1 g9 g10 at other
of_tlp-same f1 f9 f10 g1 g9 g10 at latest other e1 e9 e10 e = rw (e1, e9, e10, e) refl

pub verdicts-fresh : (receiver : Receiver) (past : List Event) → is_torn past ≡ false
    → (event : Event) → channel_verdicts receiver past event ≡ fresh.verdicts receiver past event
unfolding channel_verdicts fresh.verdicts
verdicts-fresh receiver past whole Spoiled = refl
verdicts-fresh receiver past whole Heard = refl
verdicts-fresh receiver past whole Gap = refl
verdicts-fresh receiver past whole (Flow fc at) =
    of_dllp-same _ _ _ _ _ _ _ _ _ _ _ _ _ _ at (position_of (latest_init1 past)) _ _
    (f2-fresh past whole fc) (f3-fresh past whole fc) (f4-fresh past whole receiver fc)
    (f5-fresh past whole fc) (f6-fresh past whole receiver fc) (f7-fresh past whole fc)
    (f8-fresh past whole fc) (ap position_of (initial-fresh fc.class past whole))
verdicts-fresh receiver past whole (Sent cost at) =
    of_tlp-same _ _ _ _ _ _ at _ _ (f1-fresh past whole) (f9-fresh past whole cost)
    (f10-fresh past whole cost) (ap position_of (grant-fresh cost.class past whole))
