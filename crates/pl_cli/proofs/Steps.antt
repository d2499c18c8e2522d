-- Judging goes on by one answer of the reader.
use Rattle.std.proofs.Common.{◌≡◌, ◌++◌, ◌+◌, List, ℕ, [], ◌∷◌, ap, ◌∙◌, sym, subst, length, append-nil, length-append, None}
use Rattle.pl_base.specs.declared.stop.Stop.{Stop}
use Rattle.pl_base.specs.declared.verdict.Verdict.{Verdict}
use Rattle.pl_capture.specs.Entry.{Entry}
use Rattle.pl_capture.specs.Reading.{reading, Bad}
use Rattle.pl_capture.specs.Standing as reader
use Rattle.pl_profile.specs.declared.profile.Profile.{Profile}
use Rattle.pl_engine.specs.declared.engine.Engine.{Engine}
use Rattle.pl_engine.specs.Engine as engine
use Rattle.pl_engine.specs.Verdicts.{blocked, history_after, refusal, verdicts_after, verdicts_at}
use Rattle.pl_cli.specs.declared.judging.Judging.{Judging}
use Rattle.pl_cli.specs.Output.{View, lines_after, lines_at, listed}
use Rattle.pl_cli.specs.Progress.{lines_in, verdicts_in, Accepts, Gathering, Gathers, Tells}
use Rattle.pl_engine.proofs.Lists.{history-append, refusal-append, verdicts-append}
use Rattle.pl_cli.proofs.Gathered.{gathers_then}
use Rattle.pl_cli.proofs.Texts.{lines_after-more, listed-append}

-- by an answer that gave no item
pub gathering_on : {v : View} {p : Profile} {k : Engine} {h : List ℕ} {w w1 : Tells} {j : Judging} (before bytes : List ℕ) (j' : Judging) →
    Gathering v p before j k h w w1 → (reading bytes).items ≡ (reading before).items → reader.StandsFor j'.reader bytes →
    ((s : Stop) → (reading bytes).ending ≡ Bad s → ⊥) → j'.items ≡ j.items → j'.listed ≡ j.listed → j'.verdicts ≡ j.verdicts → Gathering v p bytes j' k h w w1
gathering_on {v} {p} {k} {h} {w} {w1} {j} before bytes j' g same stands goes i l n =
    let f = g.judged in
    let vs : verdicts_in p bytes ≡ verdicts_in p before = ap (verdicts_after p []) same in
    let ls : lines_in v p bytes ≡ lines_in v p before = ap (λ (xs : List Entry). lines_after v p [] xs) same in
    record {
      judged = record {
        profile_is = f.profile_is;
        reader_stands = stands;
        goes_on = goes;
        engine_stands = subst (λ (xs : List Entry). engine.StandsFor k (history_after [] xs)) (sym same) f.engine_stands;
        accepted = ap (refusal p []) same ∙ f.accepted;
        items = i ∙ f.items ∙ sym (ap (λ (xs : List Entry). length xs) same);
        listed = l ∙ f.listed ∙ sym (ap (listed v) same);
        verdicts = n ∙ f.verdicts ∙ sym (ap (λ (xs : List Verdict). length xs) vs);
      };
      gathers = subst (λ (xs : List ℕ). Gathers [] h xs w w1) (sym ls) g.gathers;
    }

-- by an item that was judged
pub gathering_item : {v : View} {p : Profile} {k k' : Engine} {h h' : List ℕ} {w w1 w2 : Tells} {j j' : Judging} (before bytes : List ℕ) (x : Entry) (j1 : Judging) →
    Gathering v p before j k h w w1 → (reading bytes).items ≡ (reading before).items ++ x ∷ [] → reader.StandsFor j'.reader bytes →
    ((s : Stop) → (reading bytes).ending ≡ Bad s → ⊥) → j1.items ≡ j.items → j1.listed ≡ j.listed → j1.verdicts ≡ j.verdicts →
    Accepts v (history_after [] (reading before).items) x j1 j' k k' h h' w1 w2 → Gathering v p bytes j' k' h' w w2
gathering_item {v} {p} {k} {k'} {h} {h'} {w} {w1} {w2} {j} {j'} before bytes x j1 g more stands goes i l n a =
    let f = g.judged in
    let xs : List Entry = (reading before).items in
    let past : List Entry = history_after [] xs in
    let here : List Verdict = verdicts_at p past x in
    let here_is : verdicts_at k.profile past x ≡ here = ap (λ (q : Profile). verdicts_at q past x) f.profile_is in
    let shown : List ℕ = lines_at v p past x in
    let shown_is : lines_at v k.profile past x ≡ shown = ap (λ (q : Profile). lines_at v q past x) f.profile_is in
    let vs : verdicts_in p bytes ≡ verdicts_in p before ++ here =
    ap (verdicts_after p []) more ∙ verdicts-append p [] xs (x ∷ []) ∙ ap (λ (l : List Verdict). verdicts_after p [] xs ++ l) (append-nil here) in
    let ls : lines_in v p bytes ≡ lines_in v p before ++ shown =
    ap (λ (ys : List Entry). lines_after v p [] ys) more ∙ lines_after-more v p xs x in
    record {
      judged = record {
        profile_is = a.profile_is ∙ f.profile_is;
        reader_stands = stands;
        goes_on = goes;
        engine_stands = subst (engine.StandsFor k') (sym (ap (history_after []) more ∙ history-append [] xs (x ∷ []))) a.engine_stands;
        accepted = ap (refusal p []) more ∙ refusal-append p [] xs (x ∷ []) f.accepted ∙ no_more p past x (ap (λ (q : Profile). blocked q past x) (sym f.profile_is) ∙ a.allowed);
        items = a.items ∙ ap (λ (n : ℕ). n + 1) (i ∙ f.items) ∙ sym (ap (λ (l : List Entry). length l) more ∙ length-append xs (x ∷ []));
        listed = a.listed ∙ ap (λ (m : ℕ). m + listed v (x ∷ [])) (l ∙ f.listed)
            ∙ sym (ap (listed v) more ∙ listed-append v xs (x ∷ []));
        verdicts = a.verdicts ∙ ap (λ (m : ℕ). m + length (verdicts_at k.profile past x)) (n ∙ f.verdicts)
            ∙ ap (λ (l : List Verdict). length (verdicts_in p before) + length l) here_is
            ∙ sym (ap (λ (l : List Verdict). length l) vs ∙ length-append (verdicts_in p before) here);
      };
      gathers = subst (λ (l : List ℕ). Gathers [] h' l w w2) (sym ls)
          (gathers_then [] h h' (lines_in v p before) shown g.gathers (subst (λ (l : List ℕ). Gathers h h' l w1 w2) shown_is a.gathers));
    }
  where
    no_more : (p : Profile) (past : List Entry) (x : Entry) → blocked p past x ≡ None → refusal p past (x ∷ []) ≡ None
    no_more p past x h = ap (λ o. Rattle.pl_engine.specs.Verdicts.refuse o (Rattle.pl_engine.specs.Events.number_after past) None) h
