-- The clauses of the top call, from what was read and what the last line led to.
use Rattle.std.proofs.Common.{◌≡◌, ◌≢◌, ◌++◌, ◌+◌, ◌≤◌, ◌⊎◌, inl, inr, List, ℕ, Bool, true, false, [], refl, ap, ◌∙◌, sym, subst, length, take, append-nil, arith, Option, Some, zero-add}
use Rattle.std.proofs.lemmas.List.{take_all, take_at}
use Rattle.pl_base.specs.declared.stop.Stop.{Stop}
use Rattle.pl_io.specs.declared.sink.Sink as sink
use Rattle.pl_io.specs.Told.{plus, ahead, HasRoom, Partly}
use Rattle.pl_io.proofs.Told.{plus-plus}
use Rattle.pl_base.specs.declared.tally.Tally.{Tally}
use Rattle.pl_capture.specs.Entry.{Entry}
use Rattle.pl_capture.specs.Reading.{Reading, reading, Open}
use Rattle.pl_capture.proofs.Answered.{start_stands}
use Rattle.pl_capture.proofs.Wholes.{reading_short}
use Rattle.pl_profile.specs.declared.profile.Profile.{Profile}
use Rattle.pl_engine.specs.declared.engine.Engine.{Engine}
use Rattle.pl_engine.specs.Engine as engine
use Rattle.pl_engine.specs.Verdicts.{accepted, history_after, refusal, verdicts_after}
use Rattle.pl_engine.specs.Judged.{judged_items}
use Rattle.pl_cli.specs.declared.judging.Judging.{Judging}
use Rattle.pl_cli.specs.declared.judging.Ended as declared
use Rattle.pl_cli.specs.declared.judging.Ended.TheVariants as ended
use Rattle.pl_cli.specs.Output.{AtFault, Fault, View, cause, cause_status, cut, limit, lines_after, listed, output, status_of}
use Rattle.pl_cli.specs.Promise.{Answers, IsFront}
use Rattle.pl_cli.specs.Progress.{Asked, IsTallyOf, Tells, tells, EndsAs, LostAtEnd, LostAtItem, ReadOf, RefusedIn, SoFar, Taken, TakenCut, is_fault, last_cause, last_lines, lines_in, nothing_judged}
use Rattle.pl_engine.proofs.Lists.{accepted_all}
use Rattle.pl_cli.proofs.Ends.{Finishes, fault_cause, fault_text, finishes}
use Rattle.pl_cli.proofs.Written.{plus-nothing}

-- the last line was written, or a part of it for which there was no room
pub record Closed (old new : Tells) (last : List ℕ) (status answer : ℕ) : Type 0 where
  pub done : answer ≢ 8 → (new.written ≡ plus old.written last) × (answer ≡ status)
  pub part : answer ≡ 8 → Partly old.written new.written last
  pub no_room : answer ≡ 8 → HasRoom old.room (length last) → ⊥

pub closed_of : {O : Type 0} {T : sink.Ghosts O} {last : List ℕ} {status : ℕ} {old new : O} {answer : ℕ} →
    Answers T last status old new answer → Closed (tells T old) (tells T new) last status answer
closed_of a = record { done = λ n8. (a.written n8, a.answered n8); part = a.part; no_room = a.no_room }

-- a file that is told, as the bytes that were read and the rest
pub front_ahead : (read : List ℕ) (file rest : Option (List ℕ)) → IsFront read file rest → file ≡ ahead read rest
front_ahead read file rest f = f.1 ∙ ap (ahead read) (sym f.2)

some_same : (a b : List ℕ) (file : Option (List ℕ)) → file ≡ Some a → file ≡ Some b → a ≡ b
some_same a b file h k = cc

pub false_is_true : false ≡ true → ⊥
false_is_true h = cc

-- a fault of the shelf is the status 7, unless the sink failed
pub not_fault : (e : declared.Ended) (answer : ℕ) → (is_fault e ≡ true → answer ≢ 8 → answer ≡ 7) → answer ≢ 7 → answer ≢ 8 → is_fault e ≡ false
not_fault ended.Whole answer f n7 n8 = refl
not_fault ended.Fault answer f n7 n8 = absurd (n7 (f refl n8))
not_fault ended.TooLong answer f n7 n8 = refl
not_fault (ended.Refused s) answer f n7 n8 = refl

pub was_opened : (opened : Bool) (read : List ℕ) (e : declared.Ended) → (opened ≡ false → (read ≡ []) × (is_fault e ≡ true)) → is_fault e ≡ false → opened ≡ true
was_opened true read e h fine = refl
was_opened false read e h fine = absurd (false_is_true (sym fine ∙ (h refl).1))

-- where no fault of the shelf came, what was taken of a told file is all that is judged
pub taken_finishes : {v : View} {p : Profile} {e : declared.Ended} {j : Judging} {k : Engine} {w w1 : Tells} {at : Asked} {counts : Tally} →
    Taken v p e j k w w1 at → IsTallyOf k counts → (b : List ℕ) → at.told ≡ true → at.file ≡ Some b → is_fault e ≡ false →
    Finishes v p b j k counts (last_cause e j.reader) w w1
taken_finishes {v} {p} {e} {j} {k} {w} {w1} {at = at} t is b told_is file_is fine =
    let o : at.opened ≡ true = was_opened at.opened t.read e t.nothing fine in
    let q = t.from_file told_is o in
    finishes b t.read t.extra q.0 e (subst (λ (x : Option (List ℕ)). EndsAs v p e t.read t.extra x j k w w1) q.2 t.ends) is t.size (some_same b _ _ file_is q.1) fine

pub top_exact : {v : View} {p : Profile} {e : declared.Ended} {j : Judging} {k : Engine} {w w1 w2 : Tells} {at : Asked} {counts : Tally} (answer : ℕ) →
    Taken v p e j k w w1 at → IsTallyOf k counts →
    Closed w1 w2 (last_lines v counts j (last_cause e j.reader)) (cause_status j.verdicts (last_cause e j.reader)) answer →
    (is_fault e ≡ true → answer ≢ 8 → answer ≡ 7) →
    at.told ≡ true → (b : List ℕ) → at.file ≡ Some b → answer ≢ 7 → answer ≢ 8 →
    (w2.written ≡ plus w.written (output v p b)) × (answer ≡ status_of p b) × engine.StandsFor k (history_after [] (judged_items p (reading (take limit b))))
top_exact {v} {p} {e} {j} {w = w} {w2 = w2} {counts = counts} answer t is cl f told_is b file_is n7 n8 =
    let fin = taken_finishes t is b told_is file_is (not_fault e answer f n7 n8) in
    let last : List ℕ = last_lines v counts j (last_cause e j.reader) in
    let written : w2.written ≡ plus w.written (output v p b) =
    (cl.done n8).0 ∙ ap (λ (o : Option (List ℕ)). plus o last) fin.written ∙ plus-plus w.written fin.before last ∙ ap (plus w.written) (sym fin.text) in
    (written, (cl.done n8).1 ∙ sym fin.status, fin.engine_stands)

-- what was read of a told file before a fault of the shelf
fault_read : {v : View} {p : Profile} {j : Judging} {k : Engine} {w w1 : Tells} {at : Asked} →
    (t : Taken v p ended.Fault j k w w1 at) → (b : List ℕ) → at.told ≡ true → at.file ≡ Some b → ReadOf b at.opened at.rest t.read
fault_read {at = at} t b told_is file_is = record {
  from_file = λ o. sym file_is ∙ front_ahead (t.read ++ t.extra) at.file at.rest (t.from_file told_is o) ∙ ap (λ (l : List ℕ). ahead (t.read ++ l) at.rest) t.ends.0 ∙ ap (λ (l : List ℕ). ahead l at.rest) (append-nil t.read);
  nothing = λ o. (t.nothing o).0;
}

pub top_cut : {v : View} {p : Profile} {j : Judging} {k : Engine} {w w1 w2 : Tells} {at : Asked} {counts : Tally} (e : declared.Ended) (answer : ℕ) →
    Taken v p e j k w w1 at → IsTallyOf k counts →
    Closed w1 w2 (last_lines v counts j (last_cause e j.reader)) (cause_status j.verdicts (last_cause e j.reader)) answer →
    (answer ≡ 7 → is_fault e ≡ true) → at.told ≡ true → (b : List ℕ) → at.file ≡ Some b → answer ≡ 7 →
    (read : List ℕ) × ReadOf b at.opened at.rest read × (cause p (reading read) Fault ≡ AtFault) × (w2.written ≡ plus w.written (cut v p read))
    × engine.StandsFor k (history_after [] (reading read).items)
top_cut ended.Whole answer t is cl f told_is b file_is is7 = absurd (false_is_true (f is7))
top_cut {v} {p} {j} {w = w} {w2 = w2} {counts = counts} ended.Fault answer t is cl f told_is b file_is is7 =
    let n8 : answer ≢ 8 = omega arith in
    let s = t.ends.1 in
    let before : List ℕ = lines_in v p t.read in
    let last : List ℕ = last_lines v counts j AtFault in
    let written : w2.written ≡ plus w.written (cut v p t.read) =
    (cl.done n8).0 ∙ ap (λ (o : Option (List ℕ)). plus o last) s.written ∙ plus-plus w.written before last ∙ ap (plus w.written) (sym (fault_text t.read s is)) in
    (t.read, fault_read t b told_is file_is, fault_cause t.read s, written, s.judged.engine_stands)
top_cut ended.TooLong answer t is cl f told_is b file_is is7 = absurd (false_is_true (f is7))
top_cut (ended.Refused s) answer t is cl f told_is b file_is is7 = absurd (false_is_true (f is7))

-- the sink failed within the last lines behind these bytes
so_far_lost : {v : View} {p : Profile} {j : Judging} {k : Engine} {w w1 : Tells} {now : Option (List ℕ)} (read last : List ℕ) →
    SoFar v p read j k w w1 → Partly w1.written now last → LostAtEnd v p (reading read).items k w.written now
so_far_lost {v} {p} {k = k} {w = w} {now = now} read last f part =
    let all : accepted p [] (reading read).items ≡ (reading read).items = accepted_all p [] (reading read).items f.judged.accepted in
    record {
      engine_stands = subst (λ (xs : List Entry). engine.StandsFor k (history_after [] xs)) (sym all) f.judged.engine_stands;
      last = last;
      part = subst (λ (o : Option (List ℕ)). Partly o now last) (f.written ∙ ap (λ (xs : List Entry). plus w.written (lines_after v p [] xs)) (sym all)) part;
    }

refused_lost : {v : View} {p : Profile} {k : Engine} {w w1 : Tells} {now : Option (List ℕ)} (read last : List ℕ) (s : Stop) →
    RefusedIn v p read s k w w1 → Partly w1.written now last → LostAtEnd v p (reading read).items k w.written now
refused_lost {v} {p} {k} {w} {now = now} read last s f part =
    let same : reading (read ++ []) ≡ reading read = ap reading (append-nil read) in
    record {
      engine_stands = subst (λ (x : Reading). engine.StandsFor k (history_after [] (judged_items p x))) same (f.refused.engine_stands []);
      last = last;
      part = subst (λ (o : Option (List ℕ)). Partly o now last)
          (f.written ∙ ap (plus w.written) (f.refused.lines_are [] ∙ ap (λ (x : Reading). lines_after v p [] (judged_items p x)) same)) part;
    }

-- what was seen past the most bytes that are judged isn't judged
front_judged : (read extra : List ℕ) → length read ≤ limit → (extra ≡ []) ⊎ (length read ≡ limit) → take limit (read ++ extra) ≡ read
front_judged read extra le (inl none) = ap (λ (l : List ℕ). take limit (read ++ l)) none ∙ ap (take limit) (append-nil read) ∙ take_all limit read le
front_judged read extra le (inr all) = take_at read extra limit all

-- for which items the engine stands, where the sink failed within the last lines
pub top_lost_end : {v : View} {p : Profile} {j : Judging} {k : Engine} {w w1 w2 : Tells} {at : Asked} (counts : Tally) (e : declared.Ended) (answer : ℕ) →
    Taken v p e j k w w1 at →
    Closed w1 w2 (last_lines v counts j (last_cause e j.reader)) (cause_status j.verdicts (last_cause e j.reader)) answer →
    at.told ≡ true → (b : List ℕ) → at.file ≡ Some b → answer ≡ 8 →
    (read : List ℕ) × ReadOf b at.opened at.rest read × (LostAtItem v p (reading (take limit read)).items k w.written w2.written ⊎ LostAtEnd v p (reading (take limit read)).items k w.written w2.written)
top_lost_end {v} {p} {j} {k} {w} {w1} {w2} {at = at} counts e answer t cl told_is b file_is is8 =
    let both = by e t.ends in (
      t.read ++ t.extra,
      record {
        from_file = λ o. sym file_is ∙ front_ahead (t.read ++ t.extra) at.file at.rest (t.from_file told_is o);
        nothing = λ o. ap (λ (l : List ℕ). l ++ t.extra) (t.nothing o).0 ∙ no_extra e (t.nothing o).1 t.ends;
      },
      inr (subst (λ (l : List ℕ). LostAtEnd v p (reading l).items k w.written w2.written) (sym (front_judged t.read t.extra t.size both.0)) (both.1 (cl.part is8))),
    )
  where
    last : declared.Ended → List ℕ
    last x = last_lines v counts j (last_cause x j.reader)

    by : (x : declared.Ended) → EndsAs v p x t.read t.extra at.rest j k w w1 →
        ((t.extra ≡ []) ⊎ (length t.read ≡ limit)) × (Partly w1.written w2.written (last x) → LostAtEnd v p (reading t.read).items k w.written w2.written)
    by ended.Whole h = (inl h.0, so_far_lost t.read (last ended.Whole) h.2)
    by ended.Fault h = (inl h.0, so_far_lost t.read (last ended.Fault) h.1)
    by ended.TooLong h = (inr h.0, so_far_lost t.read (last ended.TooLong) h.2)
    by (ended.Refused s) h = (inl h.0, refused_lost t.read (last (ended.Refused s)) s h.1)

    no_extra : (x : declared.Ended) → is_fault x ≡ true → EndsAs v p x t.read t.extra at.rest j k w w1 → t.extra ≡ []
    no_extra ended.Whole faulty h = h.0
    no_extra ended.Fault faulty h = h.0
    no_extra ended.TooLong faulty h = absurd (false_is_true faulty)
    no_extra (ended.Refused s) faulty h = h.0

-- or within those of an item
pub top_lost_item : {v : View} {p : Profile} {k : Engine} {w w1 : Tells} {at : Asked} →
    TakenCut v p k w w1 at → at.opened ≡ true → at.told ≡ true → (b : List ℕ) → at.file ≡ Some b →
    (read : List ℕ) × ReadOf b at.opened at.rest read × (LostAtItem v p (reading (take limit read)).items k w.written w1.written ⊎ LostAtEnd v p (reading (take limit read)).items k w.written w1.written)
top_lost_item {v} {p} {k} {w} {w1} {at = at} t is_open told_is b file_is =
    let front : t.read ++ [] ≡ take limit t.read = append-nil t.read ∙ sym (take_all limit t.read t.size) in (
      t.read,
      record { from_file = λ o. sym file_is ∙ front_ahead t.read at.file at.rest (t.from_file told_is); nothing = λ closed. absurd (false_is_true (sym closed ∙ is_open)) },
      inl (subst (λ (l : List ℕ). LostAtItem v p (reading l).items k w.written w1.written) front (t.cut.at_item [])),
    )

-- before anything is read
pub so_far_nothing : {v : View} {k : Engine} {w : Tells} (j : Judging) → j ≡ nothing_judged → engine.StandsFor k [] → SoFar v k.profile [] j k w w
so_far_nothing {v} {k} {w} j start stands = subst (λ (x : Judging). SoFar v k.profile [] x k w w) (sym start) nothing
  where
    none : (reading []).items ≡ []
    none = ap (λ (x : Reading). x.items) (reading_short [] (omega arith))

    open_is : (reading []).ending ≡ Open 0 []
    open_is = ap (λ (x : Reading). x.ending) (reading_short [] (omega arith))

    nothing : SoFar v k.profile [] nothing_judged k w w
    nothing = record {
      judged = record {
        profile_is = refl;
        reader_stands = start_stands;
        goes_on = λ s bad. let o = open_is in cc;
        engine_stands = subst (λ (xs : List Entry). engine.StandsFor k (history_after [] xs)) (sym none) stands;
        accepted = ap (refusal k.profile []) none;
        items = sym (ap (λ (xs : List Entry). length xs) none);
        listed = sym (ap (listed v) none);
        verdicts = sym (ap (λ (xs : List Entry). length (verdicts_after k.profile [] xs)) none);
      };
      written = plus-nothing w.written ∙ sym (ap (λ (xs : List Entry). plus w.written (lines_after v k.profile [] xs)) none);
      room_left = λ n room. subst (λ (xs : List Entry). HasRoom w.room (length (lines_after v k.profile [] xs) + n) → HasRoom w.room n) (sym none) (λ h. subst (HasRoom w.room) (zero-add n) h) room;
    }
