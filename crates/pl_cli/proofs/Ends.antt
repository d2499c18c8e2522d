-- From what was read of a file to the output for the whole file.
use Rattle.std.proofs.Common.{◌≡◌, ◌++◌, ◌+◌, ◌-◌, ◌≤◌, ◌<◌, List, ℕ, false, [], refl, ap, ◌∙◌, sym, subst, length, take, append_assoc, append-nil, length-append, arith, Option, Some, None}
use Rattle.std.proofs.Math.Seq.{take-append-add}
use Rattle.std.proofs.lemmas.List.{take_all, take_at}
use Rattle.std.proofs.lemmas.Grind.{common_steps}
use Rattle.std.proofs.lemmas.Bool.Decides.{nat_tests}
use Rattle.pl_base.specs.declared.stop.Stop.{Stop}
use Rattle.pl_base.specs.declared.tally.Tally.{Tally}
use Rattle.pl_io.specs.Told.{plus, ahead, HasRoom, Partly}
use Rattle.pl_capture.specs.Entry.{Entry}
use Rattle.pl_capture.specs.Reading.{Reading, Ending, reading, Ended, Bad, Open}
use Rattle.pl_capture.specs.Standing.{Phase, Waiting, Holding, Done, Stopped, Shows, finished_step}
use Rattle.pl_profile.specs.declared.profile.Profile.{Profile}
use Rattle.pl_report.specs.Lines.{stop_text}
use Rattle.pl_engine.specs.declared.engine.Engine.{Engine}
use Rattle.pl_engine.specs.Engine as engine
use Rattle.pl_engine.specs.Verdicts.{history_after}
use Rattle.pl_engine.specs.Judged.{judged_items}
use Rattle.pl_engine.specs.Tally.{tally_of}
use Rattle.pl_cli.specs.declared.judging.Judging.{Judging}
use Rattle.pl_cli.specs.declared.judging.Ended as declared
use Rattle.pl_cli.specs.declared.judging.Ended.TheVariants as ended
use Rattle.pl_cli.specs.Output.{Cause, AtRefusal, AtLimit, AtFault, How, Whole, TooLong, Fault, cause, cause_of, cause_of_ending, View, cause_status, cut, how_of, last_text, limit, listed, output, status, status_of, summary, tally_after, text, text_of}
use Rattle.pl_cli.specs.Progress.{IsTallyOf, last_lines, lines_in, verdicts_in, SoFar, RefusedIn, CutIn, EndsAs, Tells, is_fault, cause_of_step, last_cause}
use Rattle.pl_engine.proofs.Lists.{accepted_all}
use Rattle.pl_cli.proofs.Texts.{all_judged, status_by}

-- where the file is told, so is the rest
pub rest_told : (bytes file : List ℕ) (rest : Option (List ℕ)) → Some file ≡ ahead bytes rest → (left : List ℕ) × (rest ≡ Some left) × (file ≡ bytes ++ left)
rest_told bytes file None h = cc
rest_told bytes file (Some left) h = (left, refl, cc)

-- the bytes up to the limit are those that were read, and some of the rest
pub up_to_limit : (read rest : List ℕ) → length read ≤ limit → take limit (read ++ rest) ≡ read ++ take (limit - length read) rest
up_to_limit read rest le =
    let e : length read + (limit - length read) ≡ limit = omega arith in
    ap (λ (n : ℕ). take n (read ++ rest)) (sym e) ∙ take-append-add read rest (limit - length read)

long_file : (file : List ℕ) → limit < length file → how_of file ≡ TooLong
long_file file lt = grind (arith, nat_tests, common_steps)

short_file : (file : List ℕ) → length file ≤ limit → how_of file ≡ Whole
short_file file le = grind (arith, nat_tests, common_steps)

-- the reader's last word, where it refused nothing
open_cause : (place : ℕ) (phase : Phase) (r : Reading) → Shows place phase r → ((s : Stop) → r.ending ≡ Bad s → ⊥) →
    cause_of_ending r.ending Whole ≡ cause_of_step (finished_step place phase)
open_cause place (Waiting pending) r h goes = ap (λ (e : Ending). cause_of_ending e Whole) h
open_cause place (Holding x) r h goes = ap (λ (e : Ending). cause_of_ending e Whole) h.0
open_cause place Done r h goes = ap (λ (e : Ending). cause_of_ending e Whole) h.0
open_cause place (Stopped s) r h goes = absurd (goes s h.0)

going : (e : Ending) → ((s : Stop) → e ≡ Bad s → ⊥) → (cause_of_ending e TooLong ≡ AtLimit) × (cause_of_ending e Fault ≡ AtFault)
going Ended goes = (refl, refl)
going (Bad s) goes = absurd (goes s refl)
going (Open place pending) goes = (refl, refl)

-- what an engine counted is what is counted of the items for which it stands
tally_is : {k : Engine} {p : Profile} {t : Tally} (xs : List Entry) → k.profile ≡ p → engine.StandsFor k (history_after [] xs) → IsTallyOf k t → t ≡ tally_after p xs
unfolding tally_after
tally_is xs same stands is = is.counted (history_after [] xs) stands ∙ ap (λ (q : Profile). tally_of q (history_after [] xs)) same

-- the output for bytes of which all items are judged and nothing is refused
so_far_text : {v : View} {p : Profile} {k : Engine} {w w1 : Tells} {j : Judging} {t : Tally} (bytes : List ℕ) (how : How) (c : Cause) →
    SoFar v p bytes j k w w1 → IsTallyOf k t → cause_of_ending (reading bytes).ending how ≡ c →
    (text v p (reading bytes) how ≡ lines_in v p bytes ++ last_lines v t j c) × (status p (reading bytes) how ≡ cause_status j.verdicts c)
so_far_text {v} {p} {j = j} {t} bytes how c f is h =
    let both = all_judged v p (reading bytes) how f.judged.accepted in
    let xs : List Entry = (reading bytes).items in
    let shown : List ℕ = lines_in v p bytes in (
      both.0 ∙ ap (text_of v p xs) h
          ∙ ap (λ (q : Tally). shown ++ (summary v q ++ last_text v (length xs) (listed v xs) (length (verdicts_in p bytes)) c)) (sym (tally_is xs f.judged.profile_is f.judged.engine_stands is))
          ∙ ap (λ (n : ℕ). shown ++ (summary v t ++ last_text v n (listed v xs) (length (verdicts_in p bytes)) c)) (sym f.judged.items)
          ∙ ap (λ (n : ℕ). shown ++ (summary v t ++ last_text v j.items n (length (verdicts_in p bytes)) c)) (sym f.judged.listed)
          ∙ ap (λ (n : ℕ). shown ++ (summary v t ++ last_text v j.items j.listed n c)) (sym f.judged.verdicts),
      both.1 ∙ ap (status_by p xs) h ∙ ap (λ (n : ℕ). cause_status n c) (sym f.judged.verdicts),
    )

-- what the whole run is, once all that is judged was read: these lines, and then the last ones
pub record Finishes (v : View) (p : Profile) (file : List ℕ) (j : Judging) (k : Engine) (t : Tally) (c : Cause) (w w1 : Tells) : Type 0 where
  pub before : List ℕ
  pub written : w1.written ≡ plus w.written before
  pub room_left : (n : ℕ) → HasRoom w.room (length before + n) → HasRoom w1.room n
  pub text : output v p file ≡ before ++ last_lines v t j c
  pub status : status_of p file ≡ cause_status j.verdicts c
  pub engine_stands : engine.StandsFor k (history_after [] (judged_items p (reading (take limit file))))

so_far_finishes : {v : View} {p : Profile} {k : Engine} {w w1 : Tells} {j : Judging} {t : Tally} (file read : List ℕ) (how : How) (c : Cause) →
    SoFar v p read j k w w1 → IsTallyOf k t → take limit file ≡ read → how_of file ≡ how → cause_of_ending (reading read).ending how ≡ c → Finishes v p file j k t c w w1
so_far_finishes {v} {p} {k} file read how c f is e h ended =
    let both = so_far_text read how c f is ended in
    record {
      before = lines_in v p read;
      written = f.written;
      room_left = f.room_left;
      text = ap (λ (l : List ℕ). text v p (reading l) (how_of file)) e ∙ ap (text v p (reading read)) h ∙ both.0;
      status = ap (λ (l : List ℕ). status p (reading l) (how_of file)) e ∙ ap (status p (reading read)) h ∙ both.1;
      engine_stands = subst (λ (xs : List Entry). engine.StandsFor k (history_after [] xs))
          (sym (ap (λ (l : List ℕ). judged_items p (reading l)) e ∙ accepted_all p [] (reading read).items f.judged.accepted)) f.judged.engine_stands;
    }

refused_finishes : {v : View} {p : Profile} {k : Engine} {w w1 : Tells} {t : Tally} (j : Judging) (file read rest : List ℕ) (s : Stop) →
    RefusedIn v p read s k w w1 → IsTallyOf k t → file ≡ read ++ rest → length read ≤ limit → Finishes v p file j k t (AtRefusal s) w w1
refused_finishes {v} {p} {k} j file read rest s f is h le =
    let more : List ℕ = take (limit - length read) rest in
    let front : take limit file ≡ read ++ more = ap (take limit) h ∙ up_to_limit read rest le in
    let tally = tally_is (judged_items p (reading (read ++ more))) f.refused.profile_is (f.refused.engine_stands more) is in
    record {
      before = f.before;
      written = f.written;
      room_left = f.room_left;
      text = ap (λ (l : List ℕ). text v p (reading l) (how_of file)) front ∙ f.refused.same_text more (how_of file)
          ∙ ap (λ (q : Tally). f.before ++ (summary v q ++ stop_text s)) (sym tally);
      status = ap (λ (l : List ℕ). status p (reading l) (how_of file)) front ∙ f.refused.same_status more (how_of file);
      engine_stands = subst (λ (l : List ℕ). engine.StandsFor k (history_after [] (judged_items p (reading l)))) (sym front) (f.refused.engine_stands more);
    }

finishes_whole : {v : View} {p : Profile} {k : Engine} {w w1 : Tells} {j : Judging} {t : Tally} (file read extra rest : List ℕ) →
    EndsAs v p ended.Whole read extra (Some rest) j k w w1 → IsTallyOf k t → length read ≤ limit → file ≡ (read ++ extra) ++ rest →
    Finishes v p file j k t (last_cause ended.Whole j.reader) w w1
finishes_whole {j = j} file read extra rest h is le f =
    let whole : file ≡ read = f ∙ ap (λ (l : List ℕ). (read ++ l) ++ rest) h.0 ∙ ap (λ (l : List ℕ). (read ++ []) ++ l) h.1 ∙ append-nil (read ++ []) ∙ append-nil read in
    let short : length file ≤ limit = subst (λ (l : List ℕ). length l ≤ limit) (sym whole) le in
    so_far_finishes file read Whole _ h.2 is (take_all limit file short ∙ whole) (short_file file short)
    (open_cause j.reader.place j.reader.phase (reading read) h.2.judged.reader_stands.shows h.2.judged.goes_on)

finishes_too_long : {v : View} {p : Profile} {k : Engine} {w w1 : Tells} {j : Judging} {t : Tally} (file read extra rest : List ℕ) →
    EndsAs v p ended.TooLong read extra (Some rest) j k w w1 → IsTallyOf k t → file ≡ (read ++ extra) ++ rest →
    Finishes v p file j k t (last_cause ended.TooLong j.reader) w w1
finishes_too_long file read extra rest h is f =
    let whole : file ≡ read ++ (extra ++ rest) = f ∙ append_assoc read extra rest in
    so_far_finishes file read TooLong AtLimit h.2 is (ap (take limit) whole ∙ take_at read (extra ++ rest) limit h.0)
    (long_file file (omega (arith, ap length whole, length-append read (extra ++ rest), length-append extra rest, h.0, h.1)))
    (going (reading read).ending h.2.judged.goes_on).0

finishes_refused : {v : View} {p : Profile} {k : Engine} {w w1 : Tells} {j : Judging} {t : Tally} (file read extra rest : List ℕ) (s : Stop) →
    EndsAs v p (ended.Refused s) read extra (Some rest) j k w w1 → IsTallyOf k t → length read ≤ limit → file ≡ (read ++ extra) ++ rest →
    Finishes v p file j k t (last_cause (ended.Refused s) j.reader) w w1
finishes_refused {j = j} file read extra rest s h is le f =
    refused_finishes j file read rest s h.1 is (f ∙ ap (λ (l : List ℕ). (read ++ l) ++ rest) h.0 ∙ ap (λ (l : List ℕ). l ++ rest) (append-nil read)) le

no_fault : {X : Type 0} → is_fault ended.Fault ≡ false → X
no_fault fine = cc

-- each end is a lemma of its own, so that no more is compared than its name
pub finishes : {v : View} {p : Profile} {k : Engine} {w w1 : Tells} {j : Judging} {t : Tally} (file read extra rest : List ℕ) (e : declared.Ended) →
    EndsAs v p e read extra (Some rest) j k w w1 → IsTallyOf k t → length read ≤ limit → file ≡ (read ++ extra) ++ rest → is_fault e ≡ false →
    Finishes v p file j k t (last_cause e j.reader) w w1
finishes file read extra rest ended.Whole h is le f fine = finishes_whole file read extra rest h is le f
finishes file read extra rest ended.Fault h is le f fine = no_fault fine
finishes file read extra rest ended.TooLong h is le f fine = finishes_too_long file read extra rest h is f
finishes file read extra rest (ended.Refused s) h is le f fine = finishes_refused file read extra rest s h is le f

-- what stands before a read fault
pub fault_text : {v : View} {p : Profile} {k : Engine} {w w1 : Tells} {j : Judging} {t : Tally} (read : List ℕ) →
    SoFar v p read j k w w1 → IsTallyOf k t → cut v p read ≡ lines_in v p read ++ last_lines v t j AtFault
fault_text read f is = (so_far_text read Fault AtFault f is (going (reading read).ending f.judged.goes_on).1).0

-- nothing is refused in what stands before a read fault
pub fault_cause : {v : View} {p : Profile} {k : Engine} {w w1 : Tells} {j : Judging} (read : List ℕ) →
    SoFar v p read j k w w1 → cause p (reading read) Fault ≡ AtFault
fault_cause {p = p} read f =
    ap (λ (o : Option Stop). cause_of o (reading read).ending Fault) f.judged.accepted ∙ (going (reading read).ending f.judged.goes_on).1

-- the sink failed at some item: a part of the output was written, for which there was no room
pub cut_part : {v : View} {p : Profile} {k : Engine} {w w1 : Tells} (file read rest : List ℕ) → CutIn v p read k w w1 → file ≡ read ++ rest → length read ≤ limit →
    Partly w.written w1.written (output v p file) × (HasRoom w.room (length (output v p file)) → ⊥)
cut_part {v} {p} {w} {w1} file read rest f h le =
    let t : take limit file ≡ read ++ take (limit - length read) rest = ap (take limit) h ∙ up_to_limit read rest le in
    let e : output v p file ≡ text v p (reading (read ++ take (limit - length read) rest)) (how_of file) = ap (λ (l : List ℕ). text v p (reading l) (how_of file)) t in (
      subst (Partly w.written w1.written) (sym e) (f.part (take (limit - length read) rest) (how_of file)),
      λ room. f.no_room (take (limit - length read) rest) (how_of file) (subst (λ (l : List ℕ). HasRoom w.room (length l)) e room),
    )
