-- Lines that are gathered, one after another, and at last written.
use Rattle.std.proofs.Common.{◌≡◌, ◌++◌, ◌+◌, List, ℕ, [], refl, ap, ◌∙◌, sym, subst, length, append_assoc, append-nil, length-append, arith, Option, Result, Ok, Err, zero-add}
use Rattle.pl_io.specs.Told.{plus, HasRoom, Partly}
use Rattle.pl_io.proofs.Told.{plus-plus}
use Rattle.pl_io.specs.declared.failed.Failed.{Failed}
use Rattle.pl_page.specs.Gathers.{AreGathered, Fails, Gathers, Tells}
use Rattle.pl_page.proofs.Texts.{first_fits, first_lost, plus-nothing}

-- no line
pub gathers_nothing : (held : List ℕ) (t : Tells) → Gathers held held [] t t
gathers_nothing held t = record {
  sent = [];
  written = plus-nothing t.written;
  in_order = sym (append-nil held);
  room_left = λ k room. subst (λ (l : List ℕ). HasRoom t.room (length l + k)) (append-nil held) room;
}

-- a line that is held
pub gathers_line : (held line held' : List ℕ) (t : Tells) → held' ≡ held ++ line → Gathers held held' line t t
gathers_line held line held' t h = record {
  sent = [];
  written = plus-nothing t.written;
  in_order = h;
  room_left = λ k room. subst (λ (l : List ℕ). HasRoom t.room (length l + k)) (sym h) room;
}

-- all that is held is written
pub gathers_all : (held : List ℕ) (t t1 : Tells) → t1.written ≡ plus t.written held →
    ((k : ℕ) → HasRoom t.room (length held + k) → HasRoom t1.room k) → Gathers held [] [] t t1
gathers_all held t t1 written left = record {
  sent = held;
  written = written;
  in_order = refl;
  room_left = λ k room. subst (HasRoom t1.room) (sym (zero-add k))
      (left k (subst (λ (l : List ℕ). HasRoom t.room (length l + k)) (append-nil held) room));
}

-- some lines, and then others
pub gathers_then : (h h1 h2 a b : List ℕ) {t t1 t2 : Tells} → Gathers h h1 a t t1 → Gathers h1 h2 b t1 t2 → Gathers h h2 (a ++ b) t t2
gathers_then h h1 h2 a b {t} {t1} f g = record {
  sent = f.sent ++ g.sent;
  written = g.written ∙ ap (λ (o : Option (List ℕ)). plus o g.sent) f.written ∙ plus-plus t.written f.sent g.sent;
  in_order = append_assoc f.sent g.sent h2 ∙ ap (λ (l : List ℕ). f.sent ++ l) g.in_order ∙ sym (append_assoc f.sent h1 b)
      ∙ ap (λ (l : List ℕ). l ++ b) f.in_order ∙ append_assoc h a b;
  room_left = λ k room.
      let before : length (h ++ (a ++ b)) + k ≡ length (h ++ a) + (length b + k) =
      omega (arith, length-append h (a ++ b), length-append a b, length-append h a) in
      let behind : length h1 + (length b + k) ≡ length (h1 ++ b) + k = omega (arith, length-append h1 b) in
      g.room_left k (subst (HasRoom t1.room) behind (f.room_left (length b + k) (subst (HasRoom t.room) before room)));
}

-- some lines, and then the sink fails
pub fails_then : (h h1 a b : List ℕ) {t t1 t2 : Tells} → Gathers h h1 a t t1 → Fails (h1 ++ b) t1 t2 → Fails (h ++ (a ++ b)) t t2
fails_then h h1 a b {t} {t1} f x = record {
  part = record {
    part = f.sent ++ x.part.part;
    missing = x.part.missing;
    whole = append_assoc f.sent x.part.part x.part.missing ∙ ap (λ (l : List ℕ). f.sent ++ l) x.part.whole ∙ sym (append_assoc f.sent h1 b)
        ∙ ap (λ (l : List ℕ). l ++ b) f.in_order ∙ append_assoc h a b;
    written = x.part.written ∙ ap (λ (o : Option (List ℕ)). plus o x.part.part) f.written ∙ plus-plus t.written f.sent x.part.part;
  };
  no_room = λ room.
      let before : length (h ++ (a ++ b)) ≡ length (h ++ a) + length b =
      omega (arith, length-append h (a ++ b), length-append a b, length-append h a) in
      x.no_room (subst (HasRoom t1.room) (sym (length-append h1 b)) (f.room_left (length b) (subst (HasRoom t.room) before room)));
}

-- within the first of two texts
pub fails_more : (text rest : List ℕ) {t t1 : Tells} → Fails text t t1 → Fails (text ++ rest) t t1
fails_more text rest {t} {t1} x = record {
  part = first_lost t.written t1.written text rest x.part;
  no_room = λ room. x.no_room (first_fits t.room text rest room);
}

pub fails_first : (held a b : List ℕ) {t t1 : Tells} → Fails (held ++ a) t t1 → Fails (held ++ (a ++ b)) t t1
fails_first held a b {t} {t1} x = subst (λ (l : List ℕ). Fails l t t1) (append_assoc held a b) (fails_more (held ++ a) b x)

-- within what is held
pub fails_held : (held : List ℕ) {t t1 : Tells} → Partly t.written t1.written held → (HasRoom t.room (length held) → ⊥) → Fails (held ++ []) t t1
fails_held held {t} {t1} part full = subst (λ (l : List ℕ). Fails l t t1) (sym (append-nil held)) (record { part = part; no_room = full })

-- a line, and then others, by what a call answered for them
pub are_then : {T : Type 0} (r : Result T Failed) (h h1 h2 line a b : List ℕ) {t t1 : Tells} (t2 : Tells) → line ≡ a →
    Gathers h h1 line t t1 → AreGathered r h1 h2 b t1 t2 → AreGathered r h h2 (a ++ b) t t2
are_then (Ok value) h h1 h2 line a b {t} {t1} t2 same f g =
    subst (λ (l : List ℕ). Gathers h h2 (l ++ b) t t2) same (gathers_then h h1 h2 line b f g)
are_then (Err failed) h h1 h2 line a b {t} {t1} t2 same f x =
    subst (λ (l : List ℕ). Fails (h ++ (l ++ b)) t t2) same (fails_then h h1 line b f x)

-- or the sink fails at the line
pub line_fails : (h line a b : List ℕ) {t t1 : Tells} → line ≡ a → Fails (h ++ line) t t1 → Fails (h ++ (a ++ b)) t t1
line_fails h line a b {t} {t1} same x = subst (λ (l : List ℕ). Fails (h ++ (l ++ b)) t t1) same (fails_first h line b x)

-- Once all that is held is written, all lines are.
pub all_sent : (lines held held' : List ℕ) {w t t1 : Tells} → Gathers [] held lines w t → Gathers held held' [] t t1 → held' ≡ [] →
    (t1.written ≡ plus w.written lines) × ((k : ℕ) → HasRoom w.room (length lines + k) → HasRoom t1.room k)
all_sent lines held held' {w} {t} {t1} f g none =
    let all : Gathers [] held' (lines ++ []) w t1 = gathers_then [] held held' lines [] f g in
    let sent : all.sent ≡ lines =
    sym (append-nil all.sent) ∙ ap (λ (l : List ℕ). all.sent ++ l) (sym none) ∙ all.in_order ∙ append-nil lines in (
      all.written ∙ ap (plus w.written) sent,
      λ k room. subst (HasRoom t1.room) (ap (λ (l : List ℕ). length l + k) none ∙ zero-add k)
          (all.room_left k (subst (λ (l : List ℕ). HasRoom w.room (length l + k)) (sym (append-nil lines)) room)),
    )

-- The sink fails within what is held.
pub held_lost : (lines held : List ℕ) {w t t1 : Tells} → Gathers [] held lines w t → Fails (held ++ []) t t1 → Fails lines w t1
held_lost lines held {w} {t} {t1} f x = subst (λ (l : List ℕ). Fails l w t1) (append-nil lines) (fails_then [] held lines [] f x)

-- What was written before is written, and nothing is held.
pub gathers_written : (lines : List ℕ) (w t : Tells) → t.written ≡ plus w.written lines →
    ((k : ℕ) → HasRoom w.room (length lines + k) → HasRoom t.room k) → Gathers [] [] lines w t
gathers_written lines w t written left = record {
  sent = lines;
  written = written;
  in_order = append-nil lines;
  room_left = λ k room. subst (HasRoom t.room) (sym (zero-add k)) (left k room);
}

-- a line behind what is still held
pub line_behind : (h h1 h2 line : List ℕ) {t t1 : Tells} → Gathers h h1 [] t t1 → h2 ≡ h1 ++ line → Gathers h h2 line t t1
line_behind h h1 h2 line {t} {t1} f e = gathers_then h h1 h2 [] line f (gathers_line h1 line h2 t1 e)

-- all that was held was written
pub wrote_all : (held held' piece : List ℕ) {t t1 : Tells} → piece ≡ held → held' ≡ [] → t1.written ≡ plus t.written piece →
    ((k : ℕ) → HasRoom t.room (length piece + k) → HasRoom t1.room k) → Gathers held held' [] t t1
wrote_all held held' piece {t} {t1} same none written left =
    subst (λ (h : List ℕ). Gathers held h [] t t1) (sym none)
    (subst (λ (h : List ℕ). Gathers h [] [] t t1) same (gathers_all piece t t1 written left))

-- or a part of it
pub wrote_part : (held piece : List ℕ) {t t1 : Tells} → piece ≡ held → Partly t.written t1.written piece → (HasRoom t.room (length piece) → ⊥) → Fails (held ++ []) t t1
wrote_part held piece {t} {t1} same part full = subst (λ (h : List ℕ). Fails (h ++ []) t t1) same (fails_held piece part full)
