-- The lines of an item's verdicts, one after another.
use Rattle.std.proofs.Common.{◌≡◌, ◌++◌, ◌+◌, ◌<◌, ◌≤◌, List, ℕ, suc, ap, ◌∙◌, sym, subst, length, take, drop, get_or, drop-cons, append_assoc, arith}
use Rattle.std.proofs.lemmas.List.{append_cancel_right, take-append-drop, take_all}
use Rattle.pl_base.specs.declared.verdict.Verdict.{Verdict}
use Rattle.pl_report.specs.Lines.{verdict_text}
use Rattle.pl_cli.specs.Output.{lines}
use Rattle.pl_cli.specs.Progress.{Fails, Gathers, Tells}
use Rattle.pl_cli.proofs.Gathered.{fails_first, fails_then, gathers_then}
use Rattle.pl_cli.proofs.Texts.{lines-append}

-- the lines before a verdict, its own, and those behind it
pub lines-at : (vs : List Verdict) (i : ℕ) (d : Verdict) → i < length vs → lines vs ≡ lines (take i vs) ++ (verdict_text (get_or vs i d) ++ lines (drop (suc i) vs))
lines-at vs i d lt =
    ap lines (sym (take-append-drop i vs)) ∙ lines-append (take i vs) (drop i vs)
    ∙ ap (λ (l : List Verdict). lines (take i vs) ++ lines l) (drop-cons vs i d lt)

-- those before a verdict, and its own
lines-more : (vs : List Verdict) (i : ℕ) (d : Verdict) → i < length vs → lines (take (i + 1) vs) ≡ lines (take i vs) ++ verdict_text (get_or vs i d)
lines-more vs i d lt =
    let next : i + 1 ≡ suc i = omega arith in
    let rest : List ℕ = lines (drop (suc i) vs) in
    let own : List ℕ = verdict_text (get_or vs i d) in
    ap (λ (n : ℕ). lines (take n vs)) next
    ∙ append_cancel_right (lines (take (suc i) vs)) (lines (take i vs) ++ own) rest
    (sym (lines-append (take (suc i) vs) (drop (suc i) vs)) ∙ ap lines (take-append-drop (suc i) vs) ∙ lines-at vs i d lt
    ∙ sym (append_assoc (lines (take i vs)) own rest))

module _ {h h1 : List ℕ} {t t1 : Tells} (vs items : List Verdict) (i : ℕ) (same : items ≡ vs) (gathers : Gathers h h1 (lines (take i vs)) t t1) where
  -- the line of a verdict is gathered
  pub line_gathers : {h2 : List ℕ} {t2 : Tells} (d : Verdict) (line : List ℕ) → i < length items → line ≡ verdict_text (get_or items i d) →
      Gathers h1 h2 line t1 t2 → Gathers h h2 (lines (take (i + 1) vs)) t t2
  line_gathers {h2} {t2} d line lt is g =
      let here : line ≡ verdict_text (get_or vs i d) = is ∙ ap (λ (l : List Verdict). verdict_text (get_or l i d)) same in
      let more : lines (take (i + 1) vs) ≡ lines (take i vs) ++ line =
      lines-more vs i d (subst (λ (l : List Verdict). i < length l) same lt) ∙ ap (λ (l : List ℕ). lines (take i vs) ++ l) (sym here) in
      subst (λ (l : List ℕ). Gathers h h2 l t t2) (sym more) (gathers_then h h1 h2 (lines (take i vs)) line gathers g)

  -- the sink fails at it
  pub line_lost : {t2 : Tells} (d : Verdict) (line : List ℕ) → i < length items → line ≡ verdict_text (get_or items i d) →
      Fails (h1 ++ line) t1 t2 → Fails (h ++ lines vs) t t2
  line_lost {t2} d line lt is x =
      let here : line ≡ verdict_text (get_or vs i d) = is ∙ ap (λ (l : List Verdict). verdict_text (get_or l i d)) same in
      let rest : List ℕ = lines (drop (suc i) vs) in
      let at : lines vs ≡ lines (take i vs) ++ (line ++ rest) =
      lines-at vs i d (subst (λ (l : List Verdict). i < length l) same lt) ∙ ap (λ (l : List ℕ). lines (take i vs) ++ (l ++ rest)) (sym here) in
      subst (λ (l : List ℕ). Fails (h ++ l) t t2) (sym at)
      (fails_then h h1 (lines (take i vs)) (line ++ rest) gathers (fails_first h1 line rest x))

  -- all lines are gathered
  pub lines_gathered : length items ≤ i → Gathers h h1 (lines vs) t t1
  lines_gathered le =
      subst (λ (l : List Verdict). Gathers h h1 (lines l) t t1) (take_all i vs (subst (λ (l : List Verdict). length l ≤ i) same le)) gathers
