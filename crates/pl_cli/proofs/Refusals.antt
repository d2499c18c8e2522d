-- Judging stops: at a refusal of the reader or the engine, or at a sink that fails.
use Rattle.std.proofs.Common.{◌≡◌, ◌++◌, ◌+◌, ◌≤◌, ◌<◌, List, ℕ, [], ◌∷◌, refl, ap, ◌∙◌, sym, subst, length, append_assoc, length-append, arith, Option, Some, None}
use Rattle.pl_base.specs.declared.stop.Stop.{Stop}
use Rattle.pl_io.specs.Told.{HasRoom, Partly}
use Rattle.pl_capture.specs.Entry.{Entry}
use Rattle.pl_capture.specs.Reading.{Reading, Ending, reading, Bad}
use Rattle.pl_profile.specs.declared.profile.Profile.{Profile}
use Rattle.pl_engine.specs.declared.engine.Engine.{Engine}
use Rattle.pl_engine.specs.Engine as engine
use Rattle.pl_engine.specs.declared.refused.Refused.{Refused}
use Rattle.pl_engine.specs.Events.{number_after}
use Rattle.pl_engine.specs.Verdicts.{accepted, blocked, history_after, refusal, refuse}
use Rattle.pl_report.specs.Lines.{stop_text}
use Rattle.pl_engine.specs.Judged.{judged_items}
use Rattle.pl_cli.specs.declared.judging.Judging.{Judging}
use Rattle.pl_cli.specs.Output.{How, View, cause_of_ending, lines_after, lines_at, status, stop_status, summary, tally_after, text, text_of}
use Rattle.pl_cli.specs.Progress.{lines_in, CutIn, Blocks, Fails, Gathering, Gathers, Loses, LostAtItem, RefusedHolding, Tells}
use Rattle.pl_cli.proofs.Known.{engine_known, reader_known}
use Rattle.pl_engine.proofs.Lists.{accepted_all, history-append, refusal-append}
use Rattle.pl_cli.proofs.Gathered.{fails_then, held_lost}
use Rattle.pl_cli.proofs.Lost.{accepted_front, accepted_goes, items_some, lost_at}
use Rattle.pl_cli.proofs.Written.{first_fits, first_lost}
use Rattle.pl_cli.proofs.Texts.{all_judged, front_text, lines_after-more, one_refused, status_by}

-- What is known of a longer reading: the items of these bytes come first, and a refusal stays.
pub record Prefix (bytes : List ℕ) : Type 0 where
  pub items : (more : List ℕ) → (tail : List Entry) × ((reading (bytes ++ more)).items ≡ (reading bytes).items ++ tail)

-- the reader refuses a record
pub reader_refuses : {v : View} {p : Profile} {k : Engine} {h : List ℕ} {w w1 : Tells} {j : Judging} (before bytes : List ℕ) (s : Stop) →
    Gathering v p before j k h w w1 → (reading bytes).items ≡ (reading before).items → (reading bytes).ending ≡ Bad s →
    ((more : List ℕ) → reading (bytes ++ more) ≡ reading bytes) → RefusedHolding v p bytes s k h w w1
reader_refuses {v} {p} {k} before bytes s g same bad stays =
    let f = g.judged in
    let none : refusal p [] (reading bytes).items ≡ None = ap (refusal p []) same ∙ f.accepted in
    let judged : (more : List ℕ) → judged_items p (reading (bytes ++ more)) ≡ (reading bytes).items =
    λ more. ap (judged_items p) (stays more) ∙ accepted_all p [] (reading bytes).items none in
    record {
      before = lines_in v p before;
      refused = record {
        profile_is = f.profile_is;
        known = reader_known bytes s bad;
        same_text = λ more how.
            ap (λ (x : Reading). text v p x how) (stays more) ∙ (all_judged v p (reading bytes) how none).0
            ∙ ap (λ (e : Ending). text_of v p (reading bytes).items (cause_of_ending e how)) bad
            ∙ ap (λ (xs : List Entry). lines_after v p [] xs ++ (summary v (tally_after p (reading bytes).items) ++ stop_text s)) same
            ∙ ap (λ (xs : List Entry). lines_in v p before ++ (summary v (tally_after p xs) ++ stop_text s)) (sym (judged more));
        same_status = λ more how.
            ap (λ (x : Reading). status p x how) (stays more) ∙ (all_judged v p (reading bytes) how none).1
            ∙ ap (λ (e : Ending). status_by p (reading bytes).items (cause_of_ending e how)) bad;
        engine_stands = λ more. subst (λ (xs : List Entry). engine.StandsFor k (history_after [] xs)) (sym (judged more ∙ same)) f.engine_stands;
        lines_are = λ more. sym (ap (lines_after v p []) (judged more ∙ same));
      };
      gathers = g.gathers;
    }

-- the engine refuses the item that ends these bytes
pub engine_refuses : {v : View} {p : Profile} {k k' : Engine} {h h' : List ℕ} {w w1 w2 : Tells} {j : Judging} (before bytes : List ℕ) (x : Entry) (s : Stop) →
    Gathering v p before j k h w w1 → (reading bytes).items ≡ (reading before).items ++ x ∷ [] → Prefix bytes →
    Blocks (history_after [] (reading before).items) x s k k' h h' w1 w2 → RefusedHolding v p bytes s k' h' w w2
engine_refuses {v} {p} {k} {k'} {h} {h'} {w} {w1} {w2} before bytes x s g more prefix b =
    let f = g.judged in
    let xs : List Entry = (reading before).items in
    let past : List Entry = history_after [] xs in
    let is_blocked : blocked p past x ≡ Some b.refused = ap (λ (q : Profile). blocked q past x) (sym f.profile_is) ∙ b.is_blocked in
    let items : (m : List ℕ) → (reading (bytes ++ m)).items ≡ xs ++ x ∷ (prefix.items m).0 =
    λ m. (prefix.items m).1 ∙ ap (λ (l : List Entry). l ++ (prefix.items m).0) more ∙ append_assoc xs (x ∷ []) (prefix.items m).0 in
    let one = λ (m : List ℕ) (how : How). one_refused v p (reading (bytes ++ m)) how xs x (prefix.items m).0 b.refused (items m) f.accepted is_blocked in
    record {
      before = lines_in v p before;
      refused = record {
        profile_is = ap (λ (e : Engine). e.profile) b.same_engine ∙ f.profile_is;
        known = subst (λ (t : Stop). stop_status t ≤ 6) (sym b.stop_is) (engine_known b.refused (number_after past));
        same_text = λ m how. (one m how).1
            ∙ ap (λ (t : Stop). lines_in v p before ++ (summary v (tally_after p xs) ++ stop_text t)) (sym b.stop_is)
            ∙ ap (λ (ys : List Entry). lines_in v p before ++ (summary v (tally_after p ys) ++ stop_text s)) (sym (one m how).0);
        same_status = λ m how. (one m how).2 ∙ ap stop_status (sym b.stop_is);
        engine_stands = λ m. subst (λ (xs : List Entry). engine.StandsFor k' (history_after [] xs)) (sym (one m Rattle.pl_cli.specs.Output.Whole).0)
            (subst (λ (e : Engine). engine.StandsFor e past) (sym b.same_engine) f.engine_stands);
        lines_are = λ m. sym (ap (lines_after v p []) (one m Rattle.pl_cli.specs.Output.Whole).0);
      };
      gathers = same_gathers g.gathers b.same_held b.same_written b.same_room;
    }
  where
    same_gathers : {h h' lines : List ℕ} {w w1 w2 : Tells} → Gathers [] h lines w w1 → h' ≡ h → w2.written ≡ w1.written → w2.room ≡ w1.room → Gathers [] h' lines w w2
    same_gathers {h} {h'} {lines} {w} {w1} {w2} f same written room = record {
      sent = f.sent;
      written = written ∙ f.written;
      in_order = ap (λ (l : List ℕ). f.sent ++ l) same ∙ f.in_order;
      room_left = λ n r. subst (λ (o : Option ℕ). HasRoom o (length h' + n)) (sym room)
          (subst (λ (l : List ℕ). HasRoom w1.room (length l + n)) (sym same) (f.room_left n r));
    }

-- bytes behind a refusal change nothing
pub refused_before : {v : View} {p : Profile} {s : Stop} {k : Engine} {h : List ℕ} {w w1 : Tells} (bytes rest : List ℕ) →
    RefusedHolding v p bytes s k h w w1 → RefusedHolding v p (bytes ++ rest) s k h w w1
refused_before {v} {p} {s} {k} bytes rest g =
    let f = g.refused in
    let group : (more : List ℕ) → reading ((bytes ++ rest) ++ more) ≡ reading (bytes ++ (rest ++ more)) = λ more. ap reading (append_assoc bytes rest more) in
    record {
      before = g.before;
      refused = record {
        profile_is = f.profile_is;
        known = f.known;
        same_text = λ more how. ap (λ (x : Reading). text v p x how) (group more) ∙ f.same_text (rest ++ more) how
            ∙ sym (ap (λ (x : Reading). g.before ++ (summary v (tally_after p (judged_items p x)) ++ stop_text s)) (group more));
        same_status = λ more how. ap (λ (x : Reading). status p x how) (group more) ∙ f.same_status (rest ++ more) how;
        engine_stands = λ more. subst (λ (x : Reading). engine.StandsFor k (history_after [] (judged_items p x))) (sym (group more)) (f.engine_stands (rest ++ more));
        lines_are = λ more. f.lines_are (rest ++ more) ∙ sym (ap (λ (x : Reading). lines_after v p [] (judged_items p x)) (group more));
      };
      gathers = g.gathers;
    }

-- the sink fails within the lines of the first items, whatever follows
cut_of : {v : View} {p : Profile} {k : Engine} {w w1 : Tells} (bytes lines : List ℕ) (xs : List ℕ → List Entry) →
    ((more : List ℕ) → (tail : List Entry) × ((reading (bytes ++ more)).items ≡ xs more ++ tail)) →
    ((more : List ℕ) → refusal p [] (xs more) ≡ None) → ((more : List ℕ) → engine.StandsFor k (history_after [] (xs more))) →
    ((more : List ℕ) → 0 < length (xs more)) → ((more : List ℕ) → lines ≡ lines_after v p [] (xs more)) →
    Fails lines w w1 → CutIn v p bytes k w w1
cut_of {v} {p} {k} {w} {w1} bytes lines xs items none stands some are f =
    let here : (m : List ℕ) → Fails (lines_after v p [] (xs m)) w w1 = λ m. subst (λ (l : List ℕ). Fails l w w1) (are m) f in
    let front = λ (m : List ℕ) (how : How). front_text v p (reading (bytes ++ m)) how (xs m) (items m).0 (items m).1 (none m) in
    record {
      at_item = λ m. lost_at v p k w.written w1.written (reading (bytes ++ m)).items (xs m) (items m).0 (items m).1 (none m) (stands m) (some m) (here m).part;
      part = λ m how. subst (Partly w.written w1.written) (sym (front m how).1)
          (first_lost w.written w1.written (lines_after v p [] (xs m)) (front m how).0 (here m).part);
      no_room = λ m how room. (here m).no_room
          (first_fits w.room (lines_after v p [] (xs m)) (front m how).0 (subst (λ (t : List ℕ). HasRoom w.room (length t)) (front m how).1 room));
    }

-- the sink fails within the lines up to the item that ends these bytes
pub sink_fails : {v : View} {p : Profile} {k k' : Engine} {h : List ℕ} {w w1 w2 : Tells} {j : Judging} (before bytes : List ℕ) (x : Entry) →
    Gathering v p before j k h w w1 → (reading bytes).items ≡ (reading before).items ++ x ∷ [] → Prefix bytes →
    Loses v (history_after [] (reading before).items) x k k' h w1 w2 → CutIn v p bytes k' w w2
sink_fails {v} {p} {k} {k'} {h} {w} {w1} {w2} before bytes x g more prefix l =
    let f = g.judged in
    let xs : List Entry = (reading before).items in
    let past : List Entry = history_after [] xs in
    let allowed : blocked p past x ≡ None = ap (λ (q : Profile). blocked q past x) (sym f.profile_is) ∙ l.allowed in
    let here_is : lines_at v k.profile past x ≡ lines_at v p past x = ap (λ (q : Profile). lines_at v q past x) f.profile_is in
    cut_of bytes (lines_in v p before ++ lines_at v p past x) (λ m. xs ++ x ∷ [])
    (λ m. ((prefix.items m).0, (prefix.items m).1 ∙ ap (λ (l : List Entry). l ++ (prefix.items m).0) more))
    (λ m. refusal-append p [] xs (x ∷ []) f.accepted ∙ ap (λ (o : Option Refused). refuse o (number_after past) None) allowed)
    (λ m. subst (engine.StandsFor k') (sym (history-append [] xs (x ∷ []))) l.engine_stands)
    (λ m. omega (arith, length-append xs (x ∷ [])))
    (λ m. sym (lines_after-more v p xs x))
    (fails_then [] h (lines_in v p before) (lines_at v p past x) g.gathers (subst (λ (t : List ℕ). Fails (h ++ t) w1 w2) here_is l.fails))

-- what is held is some of the lines
held_some : (h lines : List ℕ) {w w1 : Tells} → Gathers [] h lines w w1 → 0 < length h → 0 < length lines
held_some h lines f some = omega (arith, ap (λ (l : List ℕ). length l) f.in_order, length-append f.sent h, some)

-- the sink fails within what is held of the lines so far
pub gathering_lost : {v : View} {p : Profile} {k : Engine} {h : List ℕ} {w w1 w2 : Tells} {j : Judging} (bytes : List ℕ) →
    Gathering v p bytes j k h w w1 → Prefix bytes → 0 < length h → Fails (h ++ []) w1 w2 → CutIn v p bytes k w w2
gathering_lost {v} {p} {h = h} bytes g prefix some x =
    let f = g.judged in
    let xs : List Entry = (reading bytes).items in
    cut_of bytes (lines_in v p bytes) (λ m. xs) prefix.items (λ m. f.accepted) (λ m. f.engine_stands)
    (λ m. items_some v p [] xs (held_some h (lines_in v p bytes) g.gathers some)) (λ m. refl) (held_lost (lines_in v p bytes) h g.gathers x)

-- or of the lines before a refusal
pub refused_lost : {v : View} {p : Profile} {k : Engine} {h : List ℕ} {w w1 w2 : Tells} (bytes : List ℕ) (s : Stop) →
    RefusedHolding v p bytes s k h w w1 → 0 < length h → Fails (h ++ []) w1 w2 → CutIn v p bytes k w w2
refused_lost {v} {p} {h = h} bytes s g some x =
    let f = g.refused in
    let all : List ℕ → List Entry = λ m. (reading (bytes ++ m)).items in
    cut_of bytes g.before (λ m. accepted p [] (all m)) (λ m. accepted_front p [] (all m)) (λ m. accepted_goes p [] (all m)) f.engine_stands
    (λ m. items_some v p [] (accepted p [] (all m)) (subst (λ (l : List ℕ). 0 < length l) (f.lines_are m) (held_some h g.before g.gathers some)))
    f.lines_are (held_lost g.before h g.gathers x)

pub cut_before : {v : View} {p : Profile} {k : Engine} {w w1 : Tells} (bytes rest : List ℕ) → CutIn v p bytes k w w1 → CutIn v p (bytes ++ rest) k w w1
cut_before {v} {p} {k} {w} {w1} bytes rest f =
    let group : (more : List ℕ) (how : How) → text v p (reading ((bytes ++ rest) ++ more)) how ≡ text v p (reading (bytes ++ (rest ++ more))) how =
    λ more how. ap (λ (l : List ℕ). text v p (reading l) how) (append_assoc bytes rest more) in
    record {
      at_item = λ more. subst (λ (l : List ℕ). LostAtItem v p (reading l).items k w.written w1.written) (sym (append_assoc bytes rest more)) (f.at_item (rest ++ more));
      part = λ more how. subst (Partly w.written w1.written) (sym (group more how)) (f.part (rest ++ more) how);
      no_room = λ more how room. f.no_room (rest ++ more) how (subst (λ (t : List ℕ). HasRoom w.room (length t)) (group more how) room);
    }
