-- What `check_with` promises, from what was read and what the last line led to.
use Rattle.std.proofs.Common.{◌≡◌, ◌≢◌, ◌++◌, ◌+◌, ◌≤◌, ◌==◌, ◌⊎◌, inl, inr, if◌then◌else◌, List, ℕ, Bool, true, false, [], ◌∷◌, refl, ap, ◌∙◌, sym, subst, length, take, append-nil, length-append, arith, Option, Some, None, IsSome}
use Rattle.std.proofs.lemmas.Bool.{cases_eq}
use Rattle.pl_base.specs.declared.stop.Stop.{Stop}
use Rattle.pl_base.specs.declared.tally.Tally.{Tally}
use Rattle.pl_base.specs.declared.stop.Stop.TheVariants.{Malformed, Unsupported, Outstanding, Unacknowledged, Memory}
use Rattle.pl_io.specs.declared.shelf.Shelf as shelf
use Rattle.pl_io.specs.declared.sink.Sink as sink
use Rattle.pl_io.specs.Faults.{Rose}
use Rattle.pl_io.specs.Told.{plus, HasRoom}
use Rattle.pl_io.proofs.Told.{plus-plus}
use Rattle.pl_capture.specs.Entry.{Entry}
use Rattle.pl_capture.specs.Reading.{Reading, Ending, reading, Ended, Bad, Open}
use Rattle.pl_capture.proofs.Wholes.{reading_short}
use Rattle.pl_engine.specs.declared.engine.Engine.{Engine}
use Rattle.pl_engine.specs.declared.refused.Refused.{Refused}
use Rattle.pl_engine.specs.Events.{number_after}
use Rattle.pl_engine.specs.Verdicts.{blocked, refusal, refuse, stop_of}
use Rattle.pl_profile.specs.declared.profile.Profile.{Profile}
use Rattle.pl_engine.specs.Judged.{judged_verdicts}
use Rattle.pl_cli.specs.declared.judging.Judging.{Judging}
use Rattle.pl_cli.specs.declared.judging.Ended as declared
use Rattle.pl_cli.specs.declared.judging.Ended.TheVariants as ended
use Rattle.pl_cli.specs.Output.{How, Whole, TooLong, Fault, View, cause_of, cause_of_ending, cause_status, cut, how_of, limit, output, status, status_of, stop_status, text_of}
use Rattle.pl_cli.specs.Progress.{IsTallyOf, Tells, asked, tells, EndsAs, ShelfCause, Taken, TakenCut, is_fault, last_cause, last_lines, lines_in}
use Rattle.pl_cli.specs.Promise.{Answers, CaptureRead, IsFront, Judges, Opens, judged, unread}
use Rattle.pl_cli.specs.Words.{IsJudged, nothing_read}
use Rattle.pl_cli.proofs.Ends.{Finishes, cut_part, fault_cause, fault_text, finishes}
use Rattle.pl_cli.proofs.Known.{engine_known, reader_known}
use Rattle.pl_cli.proofs.Texts.{all_judged}
use Rattle.pl_cli.proofs.Tops.{false_is_true, was_opened}
use Rattle.pl_cli.proofs.Written.{behind_lines}

-- lines, and then what the last one led to
pub answers_behind : {O : Type 0} {T : sink.Ghosts O} {last : List ℕ} {status : ℕ} {old mid new : O} {answer : ℕ} (before : List ℕ) →
    T.written mid ≡ plus (T.written old) before → ((k : ℕ) → HasRoom (T.room old) (length before + k) → HasRoom (T.room mid) k) → T.faults mid ≡ T.faults old →
    Answers T last status mid new answer → Answers T (before ++ last) status old new answer
answers_behind {T = T} {last} {old = old} {mid} {new} before written room kept a = record {
  written = λ n8. a.written n8 ∙ ap (λ (o : Option (List ℕ)). plus o last) written ∙ plus-plus (T.written old) before last;
  answered = a.answered;
  kept = λ n8. a.kept n8 ∙ kept;
  rose = λ is8. subst (λ (n : ℕ). Rose n (T.faults new)) kept (a.rose is8);
  part = λ is8. behind_lines (T.written old) (T.written mid) (T.written new) before last written (a.part is8);
  no_room = λ is8 room-old. a.no_room is8 (room (length last) (subst (HasRoom (T.room old)) (length-append before last) room-old));
}

pub answers_text : {O : Type 0} {T : sink.Ghosts O} {text text' : List ℕ} {status status' : ℕ} {old new : O} {answer : ℕ} → text ≡ text' → status ≡ status' →
    Answers T text status old new answer → Answers T text' status' old new answer
answers_text {T = T} {text} {text'} {status} {status'} {old} {new} {answer} t s a =
    subst (λ (x : List ℕ). Answers T x status' old new answer) t (subst (λ (n : ℕ). Answers T text n old new answer) s a)

-- where nothing more is told, what was read is the whole
ends_untold : (v : View) (p : Profile) (j : Judging) (k : Engine) (w w1 : Tells) (rest : Option (List ℕ)) (e : declared.Ended) (read extra : List ℕ) →
    EndsAs v p e read extra rest j k w w1 → EndsAs v p e read extra (Some []) j k w w1
ends_untold v p j k w w1 rest ended.Whole read extra h = (h.0, refl, h.2)
ends_untold v p j k w w1 rest ended.Fault read extra h = h
ends_untold v p j k w w1 rest ended.TooLong read extra h = h
ends_untold v p j k w w1 rest (ended.Refused s) read extra h = h

module _ {H O : Type 0} {S : shelf.Ghosts H} {T : sink.Ghosts O} {v : View} {p : Profile} {capture : List ℕ} {old new : H} {out mid out' : O} {answer : ℕ} where
  judges_file : {j : Judging} {k : Engine} {counts : Tally} (e : declared.Ended) (bytes : List ℕ) →
      Finishes v p bytes j k counts (last_cause e j.reader) (tells T out) (tells T mid) →
      CaptureRead S capture bytes old new → T.faults mid ≡ T.faults out →
      Answers T (last_lines v counts j (last_cause e j.reader)) (cause_status j.verdicts (last_cause e j.reader)) mid out' answer →
      Judges S T v p capture old new out out' answer
  judges_file e bytes f read kept a =
      judged bytes read (answers_text (sym f.text) (sym f.status) (answers_behind f.before f.written f.room_left kept a))

  -- no fault of the shelf came
  judges_fine : {j : Judging} {k : Engine} {counts : Tally} (e : declared.Ended) →
      Taken v p e j k (tells T out) (tells T mid) (asked S capture old new) → IsTallyOf k counts →
      is_fault e ≡ false → Opens S capture old new → S.faults new ≡ S.faults old → T.faults mid ≡ T.faults out →
      Answers T (last_lines v counts j (last_cause e j.reader)) (cause_status j.verdicts (last_cause e j.reader)) mid out' answer →
      Judges S T v p capture old new out out' answer
  judges_fine {j} {k} e t is fine opens kept out-kept a = by (S.told old) refl
    where
      is_open : S.is_open new ≡ true
      is_open = was_opened (S.is_open new) t.read e t.nothing fine

      by : (b : Bool) → S.told old ≡ b → Judges S T v p capture old new out out' answer
      by true told =
          let q = t.from_file told is_open in
          let bytes : List ℕ = (t.read ++ t.extra) ++ q.0 in
          judges_file e bytes
          (finishes bytes t.read t.extra q.0 e
          (subst (λ (x : Option (List ℕ)). EndsAs v p e t.read t.extra x j k (tells T out) (tells T mid)) q.2 t.ends) is t.size refl fine)
          (record { opens = opens; is_open = is_open; is_file = λ _. q.1; kept = kept }) out-kept a
      by false untold =
          let bytes : List ℕ = (t.read ++ t.extra) ++ [] in
          judges_file e bytes (finishes bytes t.read t.extra [] e (ends_untold v p j k (tells T out) (tells T mid) (S.rest new) e t.read t.extra t.ends) is t.size refl fine)
          (record { opens = opens; is_open = is_open; is_file = λ told. absurd (false_is_true (sym untold ∙ told)); kept = kept }) out-kept a

  pub judges : {j : Judging} {k : Engine} {counts : Tally} (e : declared.Ended) →
      Taken v p e j k (tells T out) (tells T mid) (asked S capture old new) → IsTallyOf k counts →
      Opens S capture old new → ShelfCause e (S.faults old) (S.faults new) → (S.sure old ≡ true → IsSome (S.file old capture) → is_fault e ≡ false) →
      T.faults mid ≡ T.faults out →
      Answers T (last_lines v counts j (last_cause e j.reader)) (cause_status j.verdicts (last_cause e j.reader)) mid out' answer →
      Judges S T v p capture old new out out' answer
  judges ended.Whole t is opens cause sure kept a = judges_fine ended.Whole t is refl opens cause kept a
  judges ended.Fault t is opens cause sure kept a =
      let front : (told : S.told old ≡ true) → S.is_open new ≡ true → IsFront t.read (S.file old capture) (S.rest new) =
      λ told o. subst (λ (l : List ℕ). IsFront l (S.file old capture) (S.rest new))
      (ap (λ (l : List ℕ). t.read ++ l) t.ends.0 ∙ append-nil t.read) (t.from_file told o) in
      unread t.read
      (record {
        reads = record { opens = opens; nothing = λ closed. (t.nothing closed).0; from_file = front };
        size = t.size;
        none_refused = fault_cause t.read t.ends.1;
        rose = cause;
        not_sure = λ s f. false_is_true (sym (sure s f));
      })
      (answers_text (sym (fault_text t.read t.ends.1 is)) refl
      (answers_behind (lines_in v p t.read) t.ends.1.written t.ends.1.room_left kept a))
  judges ended.TooLong t is opens cause sure kept a = judges_fine ended.TooLong t is refl opens cause kept a
  judges (ended.Refused s) t is opens cause sure kept a = judges_fine (ended.Refused s) t is refl opens cause kept a

module _ {H O : Type 0} {S : shelf.Ghosts H} {T : sink.Ghosts O} {v : View} {p : Profile} {capture : List ℕ} {old new : H} {out out' : O} {answer : ℕ} where
  -- the sink failed within the lines of an item
  pub judges_lost : {k : Engine} →
      TakenCut v p k (tells T out) (tells T out') (asked S capture old new) →
      Opens S capture old new → S.is_open new ≡ true → S.faults new ≡ S.faults old → Rose (T.faults out) (T.faults out') → answer ≡ 8 →
      Judges S T v p capture old new out out' answer
  judges_lost t opens is_open kept rose is8 = by (S.told old) refl
    where
      lost : (bytes left : List ℕ) → bytes ≡ t.read ++ left → Answers T (output v p bytes) (status_of p bytes) out out' answer
      lost bytes left e =
          let both = cut_part bytes t.read left t.cut e t.size in
          record {
            written = λ n8. absurd (n8 is8);
            answered = λ n8. absurd (n8 is8);
            kept = λ n8. absurd (n8 is8);
            rose = λ _. rose;
            part = λ _. both.0;
            no_room = λ _. both.1;
          }

      by : (b : Bool) → S.told old ≡ b → Judges S T v p capture old new out out' answer
      by true told =
          let q = t.from_file told in
          judged (t.read ++ q.0) (record { opens = opens; is_open = is_open; is_file = λ _. q.1; kept = kept }) (lost (t.read ++ q.0) q.0 refl)
      by false untold =
          judged (t.read ++ []) (record { opens = opens; is_open = is_open; is_file = λ told. absurd (false_is_true (sym untold ∙ told)); kept = kept })
          (lost (t.read ++ []) [] refl)

-- ---- the status of a capture that was judged

stop_least : (s : Stop) → 4 ≤ stop_status s
stop_least (Malformed fault item) = omega arith
stop_least (Unsupported form item) = omega arith
stop_least (Outstanding count item) = omega arith
stop_least (Unacknowledged count item) = omega arith
stop_least Memory = omega arith

refuse_known : (o : Option Refused) (n : ℕ) (later : Option Stop) (s : Stop) → ((t : Stop) → later ≡ Some t → stop_status t ≤ 6) → refuse o n later ≡ Some s → stop_status s ≤ 6
refuse_known None n later s known h = known s h
refuse_known (Some r) n later s known h =
    let same : stop_of r n ≡ s = cc in
    subst (λ (x : Stop). stop_status x ≤ 6) same (engine_known r n)

refusal_known : (p : Profile) (past xs : List Entry) (s : Stop) → refusal p past xs ≡ Some s → stop_status s ≤ 6
refusal_known p past [] s h = absurd cc
refusal_known p past (x ∷ xs) s h =
    refuse_known (blocked p past x) (number_after past) (refusal p (x ∷ past) xs) s (λ t. refusal_known p (x ∷ past) xs t) h

zero_or_one : (b : Bool) → (if b then 0 else 1) ≤ 1
zero_or_one true = omega arith
zero_or_one false = omega arith

ending_judged : (n : ℕ) (b : List ℕ) (e : Ending) (how : How) → (reading b).ending ≡ e → how ≢ Fault → IsJudged (cause_status n (cause_of_ending e how))
ending_judged n b (Bad s) how is nf = inr (stop_least s, reader_known b s is)
ending_judged n b Ended Whole is nf = inl (zero_or_one (n == 0))
ending_judged n b Ended TooLong is nf = inr (omega arith, omega arith)
ending_judged n b Ended Fault is nf = absurd (nf refl)
ending_judged n b (Open place pending) Whole is nf = inr (omega arith, omega arith)
ending_judged n b (Open place pending) TooLong is nf = inr (omega arith, omega arith)
ending_judged n b (Open place pending) Fault is nf = absurd (nf refl)

cause_judged : (n : ℕ) (b : List ℕ) (o : Option Stop) (how : How) → ((s : Stop) → o ≡ Some s → stop_status s ≤ 6) → how ≢ Fault →
    IsJudged (cause_status n (cause_of o (reading b).ending how))
cause_judged n b None how known nf = ending_judged n b (reading b).ending how refl nf
cause_judged n b (Some s) how known nf = inr (stop_least s, known s refl)

how_no_fault : (long : Bool) → (if long then TooLong else Whole) ≢ Fault
how_no_fault true h = cc
how_no_fault false h = cc

pub judged_status : (p : Profile) (file : List ℕ) → IsJudged (status_of p file)
unfolding status
judged_status p file =
    cause_judged (length (judged_verdicts p (reading (take limit file)))) (take limit file) (refusal p [] (reading (take limit file)).items) (how_of file)
    (refusal_known p [] (reading (take limit file)).items) (how_no_fault _)

-- ---- a capture of which nothing was read

pub cut_nothing : (v : View) (p : Profile) → cut v p [] ≡ nothing_read v p
cut_nothing v p =
    let none : (reading []).items ≡ [] = ap (λ (x : Reading). x.items) (reading_short [] (omega arith)) in
    let open_is : (reading []).ending ≡ Open 0 [] = ap (λ (x : Reading). x.ending) (reading_short [] (omega arith)) in
    (all_judged v p (reading []) Fault (ap (refusal p []) none)).0
    ∙ ap (λ (xs : List Entry). text_of v p xs (cause_of_ending (reading []).ending Fault)) none
    ∙ ap (λ (e : Ending). text_of v p [] (cause_of_ending e Fault)) open_is

pub judges_status : {H O : Type 0} {S : shelf.Ghosts H} {T : sink.Ghosts O} {v : View} {p : Profile} {capture : List ℕ} {old new : H} {out out' : O} {answer : ℕ} →
    Judges S T v p capture old new out out' answer → (answer ≤ 1) ⊎ ((4 ≤ answer) × (answer ≤ 8))
judges_status {p = p} {answer = answer} (judged bytes c a) = by (cases_eq answer 8) (judged_status p bytes)
  where
    by : (answer ≡ 8) ⊎ (answer ≢ 8) → IsJudged (status_of p bytes) → (answer ≤ 1) ⊎ ((4 ≤ answer) × (answer ≤ 8))
    by (inl is8) k = inr (omega arith, omega arith)
    by (inr n8) (inl low) = let e = a.answered n8 in inl (omega arith)
    by (inr n8) (inr mid) = let e = a.answered n8 in inr (omega (arith, e, mid.0), omega (arith, e, mid.1))
judges_status {answer = answer} (unread read c a) = by (cases_eq answer 8)
  where
    by : (answer ≡ 8) ⊎ (answer ≢ 8) → (answer ≤ 1) ⊎ ((4 ≤ answer) × (answer ≤ 8))
    by (inl is8) = inr (omega arith, omega arith)
    by (inr n8) = let e = a.answered n8 in inr (omega arith, omega arith)
