-- The judging of a list of items, one part after another.
use Rattle.std.proofs.Common.{◌≡◌, ◌++◌, List, ℕ, [], ◌∷◌, refl, ap, ◌∙◌, sym, append_assoc}
use Rattle.std.proofs.Common.{append-nil, length, ◌+◌, arith, Option, Some, None}
use Rattle.pl_base.specs.declared.stop.Stop.{Stop}
use Rattle.pl_capture.specs.Entry.{Entry}
use Rattle.pl_profile.specs.declared.profile.Profile.{Profile}
use Rattle.pl_engine.specs.declared.refused.Refused.{Refused}
use Rattle.pl_engine.specs.Events.{number_after}
use Rattle.pl_engine.specs.Verdicts.{accept, accepted, blocked, history_after, refusal, refuse}
use Rattle.pl_engine.specs.Verdicts.{verdicts_after, verdicts_at}

pub history-append : (past xs ys : List Entry) → history_after past (xs ++ ys)
    ≡ history_after (history_after past xs) ys
history-append past [] ys = refl
history-append past (x ∷ xs) ys = history-append (x ∷ past) xs ys

pub verdicts-append : (p : Profile) (past xs ys : List Entry) →
    verdicts_after p past (xs ++ ys) ≡ verdicts_after p past xs
    ++ verdicts_after p (history_after past xs) ys
verdicts-append p past [] ys = refl
verdicts-append p past (x ∷ xs) ys =
    ap (λ l. verdicts_at p past x ++ l) (verdicts-append p (x ∷ past) xs ys)
    ∙ sym (append_assoc (verdicts_at p past x) (verdicts_after p (x ∷ past) xs)
    (verdicts_after p (history_after (x ∷ past) xs) ys))

not_refused : (o : Option Refused) (n : ℕ) (later : Option Stop) → refuse o n later ≡ None
    → (o ≡ None) × (later ≡ None)
not_refused None n later h = (refl, h)
not_refused (Some r) n later h = cc

-- Items of which none is refused leave the refusal to those behind them.
pub refusal-append : (p : Profile) (past xs ys : List Entry) → refusal p past xs ≡ None →
    refusal p past (xs ++ ys) ≡ refusal p (history_after past xs) ys
refusal-append p past [] ys h = refl
refusal-append p past (x ∷ xs) ys h =
    let k : (blocked p past x ≡ None) × (refusal p (x ∷ past) xs ≡ None) =
    not_refused (blocked p past x) _ _ h in
    ap (λ o. refuse o (number_after past) (refusal p (x ∷ past) (xs ++ ys))) k.0
    ∙ refusal-append p (x ∷ past) xs ys k.1

pub accepted-append : (p : Profile) (past xs ys : List Entry) → refusal p past xs ≡ None →
    accepted p past (xs ++ ys) ≡ xs ++ accepted p (history_after past xs) ys
accepted-append p past [] ys h = refl
accepted-append p past (x ∷ xs) ys h =
    let k : (blocked p past x ≡ None) × (refusal p (x ∷ past) xs ≡ None) =
    not_refused (blocked p past x) _ _ h in
    ap (λ o. accept o x (accepted p (x ∷ past) (xs ++ ys))) k.0
    ∙ ap (λ l. x ∷ l) (accepted-append p (x ∷ past) xs ys k.1)

pub accepted_all : (p : Profile) (past xs : List Entry) → refusal p past xs ≡ None
    → accepted p past xs ≡ xs
accepted_all p past xs h =
    ap (accepted p past) (sym (append-nil xs)) ∙ accepted-append p past xs [] h ∙ append-nil xs

-- items behind a refusal change nothing
refuse_stays : (o : Option Refused) (n : ℕ) (s : Stop) (a b : Option Stop)
    → (a ≡ Some s → b ≡ Some s) → refuse o n a ≡ Some s → refuse o n b ≡ Some s
refuse_stays None n s a b f h = f h
refuse_stays (Some r) n s a b f h = h

pub refusal-stays : (p : Profile) (past xs ys : List Entry) (s : Stop) → refusal p past xs ≡ Some s
    → refusal p past (xs ++ ys) ≡ Some s
refusal-stays p past [] ys s h = cc
refusal-stays p past (x ∷ xs) ys s h =
    refuse_stays (blocked p past x) (number_after past) s (refusal p (x ∷ past) xs)
    (refusal p (x ∷ past) (xs ++ ys)) (refusal-stays p (x ∷ past) xs ys s) h

pub length-history : (past xs : List Entry) → length (history_after past xs)
    ≡ length past + length xs
length-history past [] = omega arith
length-history past (x ∷ xs) = omega (arith, length-history (x ∷ past) xs)
