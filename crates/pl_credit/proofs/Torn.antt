-- Behind a gap each rule waits for what it has to know.
use Rattle.std.proofs.Common.{◌≡◌, ℕ, Bool, true, false, not, ◌&&◌, ◌||◌, ◌==◌, List, []}
use Rattle.std.proofs.Common.{◌∷◌, Option, Some, None, refl, ap, ◌∙◌, arith}
use Rattle.pl_base.specs.declared.link.Class.{Class}
use Rattle.pl_dllp.specs.declared.packet.Fc.{Fc}
use Rattle.pl_dllp.specs.declared.packet.Stage.{Stage}
use Rattle.pl_dllp.specs.declared.packet.Stage.TheVariants.{Init1, Init2, Update}
use Rattle.pl_credit.specs.declared.advert.Advert.{Advert}
use Rattle.pl_credit.specs.History.{Event, Flow, Spoiled, Heard, Sent, Gap, has_turn, initial}
use Rattle.pl_credit.specs.History.{is_advertised, is_class, is_init1, is_ready, is_spoiled_since}
use Rattle.pl_credit.specs.History.{is_torn, is_update, latest_init1, may_open, next_turn, some_if}
use Rattle.pl_credit.specs.History.{turn_of}
use Rattle.pl_credit.specs.Rules.{breaks_f1, breaks_f2, breaks_f7}
use Rattle.pl_credit.proofs.Terms.{from_either}

and-false : (b : Bool) → (b && false) ≡ false
and-false true = refl
and-false false = refl

waits : (ready torn all : Bool) → torn ≡ true → (not ready && (not torn || all)) ≡ true
    → all ≡ true
waits true torn all gap e = absurd cc
waits false false all gap e = absurd cc
waits false true all gap e = e

pub f1-torn : (past : List Event) → is_torn past ≡ true → breaks_f1 past ≡ true
    → is_advertised past ≡ true
f1-torn past gap e = waits (is_ready past) (is_torn past) (is_advertised past) gap e

no-turn : (init1 torn : Bool) (latest : Option Advert) (rest : Bool) → torn ≡ true
    → latest ≡ None → (init1 && (has_turn torn latest && rest)) ≡ false
no-turn false torn latest rest gap none = refl
no-turn true false latest rest gap none = absurd cc
no-turn true true None rest gap none = refl
no-turn true true (Some latest) rest gap none = absurd cc

pub f2-torn : (past : List Event) (fc : Fc) → is_torn past ≡ true → latest_init1 past ≡ None
    → breaks_f2 past fc ≡ false
f2-torn past fc gap none =
    no-turn (is_init1 fc.stage) (is_torn past) (latest_init1 past)
    (not (turn_of fc.class == next_turn (latest_init1 past)) && not (is_spoiled_since past))
    gap none

pub f7-torn : (past : List Event) (first : Option Advert) (fc : Fc) → is_torn past ≡ true
    → breaks_f7 (is_torn past) first fc ≡ false
f7-torn past None fc gap =
    ap (λ (torn : Bool). breaks_f7 torn None fc) gap ∙ and-false (is_update fc.stage)
f7-torn past (Some first) fc gap = refl

-- only an InitFC1 opens its class
opener : (own torn : Bool) (stage : Stage) → torn ≡ true → (own && may_open torn stage) ≡ true
    → stage ≡ Init1
opener false torn stage gap e = absurd cc
opener true false stage gap e = absurd cc
opener true true Init1 gap e = refl
opener true true Init2 gap e = absurd cc
opener true true Update gap e = absurd cc

some-is : (b : Bool) (fc : Fc) (at : ℕ) (advert : Advert) → some_if b fc at ≡ Some advert
    → (b ≡ true) × (advert.fc ≡ fc)
some-is true fc at advert e = (refl, grind arith)
some-is false fc at advert e = absurd cc

opened : (own torn : Bool) (fc : Fc) (at : ℕ) (advert : Advert) → torn ≡ true
    → some_if (own && may_open torn fc.stage) fc at ≡ Some advert → advert.fc.stage ≡ Init1
opened own torn fc at advert gap e =
    let it = some-is (own && may_open torn fc.stage) fc at advert e in
    ap (λ (given : Fc). given.stage) it.1 ∙ opener own torn fc.stage gap it.0

pub initial-torn : (class : Class) (advert : Advert) (past : List Event) → is_torn past ≡ true
    → initial class past ≡ Some advert → advert.fc.stage ≡ Init1
initial-torn class advert [] gap e = absurd cc
initial-torn class advert (Flow fc at ∷ past) gap e =
    from_either (initial class past)
    (some_if (is_class fc.class class && may_open (is_torn past) fc.stage) fc at) advert
    (advert.fc.stage ≡ Init1)
    (λ was. initial-torn class advert past gap was)
    (λ was. opened (is_class fc.class class) (is_torn past) fc at advert gap was) e
initial-torn class advert (Spoiled ∷ past) gap e = initial-torn class advert past gap e
initial-torn class advert (Heard ∷ past) gap e = initial-torn class advert past gap e
initial-torn class advert (Sent cost at ∷ past) gap e = initial-torn class advert past gap e
initial-torn class advert (Gap ∷ past) gap e = absurd cc
