-- What is kept of the time of the end record.
use Rattle.std.proofs.Common.{◌≡◌, ◌≢◌, ℕ, ◌+◌, ◌-◌, ◌<◌, ◌≤◌, List, [], ◌∷◌, ◌++◌, length}
use Rattle.std.proofs.Common.{take, drop, Option, Some, None, refl, sym, ap, subst, ◌∙◌, arith}
use Rattle.std.proofs.Common.{append_assoc, inl, inr}
use Rattle.std.proofs.Math.Seq.{take-append-add, drop-append-add, take-add}
use Rattle.std.proofs.lemmas.Bool.{cases_lt, cases_eq}
use Rattle.std.proofs.lemmas.Bool.Decides.{nat_tests}
use Rattle.std.proofs.lemmas.List.{length-append, length-take, take-take, take-append-le}
use Rattle.std.proofs.lemmas.List.{append-nil, take-append-drop, take_all}
use Rattle.byteorder.specs.Endian.{big_number}
use Rattle.pl_base.specs.declared.stop.Malformed as fault
use Rattle.pl_base.specs.declared.stop.Malformed.TheVariants.{Trailing}
use Rattle.pl_base.specs.declared.stop.Stop.{Stop}
use Rattle.pl_base.specs.declared.stop.Stop.TheVariants.{Malformed}
use Rattle.pl_capture.specs.declared.front.Front.{Front}
use Rattle.pl_capture.specs.declared.front.Front.TheVariants.{Partial, Refused, Whole, Last}
use Rattle.pl_capture.specs.declared.step.Step.{Step}
use Rattle.pl_capture.specs.declared.step.Step.TheVariants as step
use Rattle.pl_capture.specs.Front.{Head, head_of, head_fault, header_fault, record_front, front_at}
use Rattle.pl_capture.specs.Next.{Outcome, next_header, next_record, outcome_of, wanted, later}
use Rattle.pl_capture.specs.Reading.{Reading, reading, Ending, Ended, Bad, Open, end_time, IsEndTime}
use Rattle.pl_capture.proofs.Fronts.{head_in, Seen, seen, partial, refused, whole, last}
use Rattle.pl_capture.proofs.Fronts.{front_short, front_refused, front_partial, front_record}
use Rattle.pl_capture.proofs.Fronts.{record_item, record_last, record_count, lawful_end}
use Rattle.pl_capture.proofs.Leads.{cut_is, pending_shorter}
use Rattle.pl_capture.proofs.Nexts.{header_short, header_bad, header_good}
use Rattle.pl_capture.proofs.Wholes.{Header, short, faulty, good, version_in}
use Rattle.pl_capture.proofs.Wholes.{reading_short, whole_stays, whole_trails}

-- ---- what a front says

-- The end record has 20 bytes, and no head is refused as a byte behind the end.
abbrev IsSound : Front → Type 0
IsSound Partial = Unit {0}
IsSound (Refused e) = e ≢ Trailing
IsSound (Whole size) = Unit {0}
IsSound (Last size) = size ≡ 20

head_not_trailing : (version : ℕ) (head : Head) → head_fault version head ≢ Some Trailing
unfolding head_fault
head_not_trailing version head is = grind (arith, nat_tests)

header_not_trailing : (h : List ℕ) (place : ℕ) → header_fault h ≢ Some (Malformed Trailing place)
unfolding header_fault
header_not_trailing h place is = grind (arith, nat_tests)

sound_record : (version count : ℕ) (head : Head) (bytes : List ℕ)
    → head_fault version head ≡ None → IsSound (record_front count head bytes)
sound_record version count head bytes lawful =
    elim (cases_eq head.kind 3) [
      | inl end ↦
          let size = lawful_end version head lawful end in
          elim (cases_eq (big_number 8 (drop 12 bytes)) count) [
            | inl right ↦ subst (λ (f : Front). IsSound f)
                (sym (record_last count head bytes end right))
                (let e : 12 + head.size ≡ 20 = omega arith in e)
            | inr wrong ↦ subst (λ (f : Front). IsSound f)
                (sym (record_count count head bytes end wrong)) (λ no. absurd cc)
          ]
      | inr item ↦ subst (λ (f : Front). IsSound f) (sym (record_item count head bytes item)) tt
    ]

sound_head : (version count : ℕ) (bytes : List ℕ) → 12 ≤ length bytes
    → (fault : Option fault.Malformed) → head_fault version (head_in bytes) ≡ fault
    → IsSound (front_at version count bytes)
sound_head version count bytes long (Some e) is =
    subst (λ (f : Front). IsSound f) (sym (front_refused version count bytes e long is))
    (λ no. head_not_trailing version (head_in bytes)
    (is ∙ ap (λ (x : fault.Malformed). Some x) no))
sound_head version count bytes long None is =
    elim (cases_lt (length bytes) (12 + (head_in bytes).size)) [
      | inl less ↦ subst (λ (f : Front). IsSound f)
          (sym (front_partial version count bytes long is less)) tt
      | inr le ↦ subst (λ (f : Front). IsSound f)
          (sym (front_record version count bytes long is le))
          (sound_record version count (head_in bytes) (take (12 + (head_in bytes).size) bytes) is)
    ]

sound : (version count : ℕ) (bytes : List ℕ) → IsSound (front_at version count bytes)
sound version count bytes =
    elim (cases_lt (length bytes) 12) [
      | inl less ↦ subst (λ (f : Front). IsSound f) (sym (front_short version count bytes less)) tt
      | inr long ↦ sound_head version count bytes long (head_fault version (head_in bytes)) refl
    ]

refused_sound : (version count : ℕ) (bytes : List ℕ) (e : fault.Malformed)
    → front_at version count bytes ≡ Refused e → (place other : ℕ)
    → Malformed e place ≢ Malformed Trailing other
refused_sound version count bytes e is place other same =
    let not : e ≢ Trailing = subst (λ (f : Front). IsSound f) is (sound version count bytes) in
    not (cc)

last_size : (version count : ℕ) (bytes : List ℕ) (size : ℕ) → front_at version count bytes ≡ Last size
    → size ≡ 20
last_size version count bytes size is = subst (λ (f : Front). IsSound f) is
    (sound version count bytes)

-- ---- the end record, at the end of the bytes

record_end : (passed all : List ℕ) → 20 ≤ length all
    → (head_of (take 12 all)).time ≡ end_time (passed ++ take 20 all)
record_end passed all long =
    let l = length-append passed (take 20 all) in
    let t = length-take 20 all in
    let n : length (passed ++ take 20 all) - 20 ≡ length passed + 0 = omega arith in
    let tail : drop (length (passed ++ take 20 all) - 20) (passed ++ take 20 all) ≡ take 20 all =
    ap (λ (n : ℕ). drop n (passed ++ take 20 all)) n ∙ drop-append-add passed (take 20 all) 0 in
    let head : take 12 (take 20 all) ≡ take 12 all = take-take 12 20 all (omega arith) in
    ap (λ (h : List ℕ). (head_of h).time) (sym head)
    ∙ ap (λ (b : List ℕ). (head_of (take 12 b)).time) (sym tail)

-- What a step leaves of the time, behind these bytes and what it used of the piece.
abbrev pub Times : List ℕ → List ℕ → Step → Option ℕ → Type 0
Times before piece step.More time = time ≡ None
Times before piece (step.Item used) time = time ≡ None
Times before piece (step.End used) time = time ≡ Some (end_time (before ++ take used piece))
Times before piece (step.Bad s) time =
    (time ≡ None) × ((place : ℕ) → s ≢ Malformed Trailing place)

abbrev TimesOf : List ℕ → List ℕ → Outcome → Type 0
TimesOf before piece o = Times before piece o.step o.left.end_time

times_front : (version count place : ℕ) (before passed pending piece : List ℕ)
    → before ≡ passed ++ pending → front_at version count pending ≡ Partial
    → Seen version count (pending ++ piece)
    → TimesOf before piece (outcome_of version place (length pending) (pending ++ piece)
    (front_at version count (pending ++ piece)))
times_front version count place before passed pending piece cut begun (partial below f) =
    rw f refl
times_front version count place before passed pending piece cut begun (refused e enough f) =
    rw f (refl, refused_sound version count (pending ++ piece) e f place)
times_front version count place before passed pending piece cut begun (whole size is le f) =
    rw f refl
times_front version count place before passed pending piece cut begun (last size is le f) =
    let twenty : size ≡ 20 = last_size version count (pending ++ piece) size f in
    let less : length pending < wanted version (pending ++ piece) =
    pending_shorter version count pending piece begun (omega arith)
    (λ e. let no = sym f ∙ e in absurd cc) in
    let record_is : pending ++ take (size - length pending) piece ≡ take 20 (pending ++ piece) =
    sym (cut_is pending piece size (omega arith))
    ∙ ap (λ (n : ℕ). take n (pending ++ piece)) twenty in
    let all : before ++ take (size - length pending) piece ≡ passed ++ take 20 (pending ++ piece) =
    ap (λ (b : List ℕ). b ++ take (size - length pending) piece) cut
    ∙ append_assoc passed pending (take (size - length pending) piece)
    ∙ ap (λ (b : List ℕ). passed ++ b) record_is in
    rw f (ap (λ (n : ℕ). Some n) (record_end passed (pending ++ piece) (omega arith)
    ∙ ap (λ (b : List ℕ). end_time b) (sym all)))

-- a record behind the header, which the piece completes
times_behind : (version : ℕ) (pending piece : List ℕ) → length pending < 16
    → 16 ≤ length (pending ++ piece) → Seen version 0 (drop 16 (pending ++ piece))
    → TimesOf pending piece (later (16 - length pending) (outcome_of version 1 0
    (drop 16 (pending ++ piece)) (front_at version 0 (drop 16 (pending ++ piece)))))
times_behind version pending piece less long (partial below f) = rw f refl
times_behind version pending piece less long (refused e enough f) =
    rw f (refl, refused_sound version 0 (drop 16 (pending ++ piece)) e f 1)
times_behind version pending piece less long (whole size is le f) = rw f refl
times_behind version pending piece less long (last size is le f) =
    let twenty : size ≡ 20 = last_size version 0 (drop 16 (pending ++ piece)) size f in
    let sum : length pending + (16 - length pending + (size - 0)) ≡ 16 + 20 = omega arith in
    let all : pending ++ take (16 - length pending + (size - 0)) piece
    ≡ take 16 (pending ++ piece) ++ take 20 (drop 16 (pending ++ piece)) =
    sym (take-append-add pending piece (16 - length pending + (size - 0)))
    ∙ ap (λ (n : ℕ). take n (pending ++ piece)) sum ∙ take-add 16 20 (pending ++ piece) in
    rw f (ap (λ (n : ℕ). Some n) (record_end (take 16 (pending ++ piece))
    (drop 16 (pending ++ piece)) (omega arith) ∙ ap (λ (b : List ℕ). end_time b) (sym all)))

pub times_header : (pending piece : List ℕ) → length pending < 16 → Header (pending ++ piece)
    → TimesOf pending piece (next_header (length pending) (pending ++ piece))
unfolding next_record
times_header pending piece less (short few) =
    rw (header_short (length pending) (pending ++ piece) few) refl
times_header pending piece less (faulty s long e) =
    rw (header_bad (length pending) (pending ++ piece) s long e) (
      refl,
      λ place no. header_not_trailing (take 16 (pending ++ piece)) place
          (e ∙ ap (λ (x : Stop). Some x) no),
    )
times_header pending piece less (good long e) =
    rw (header_good (length pending) (pending ++ piece) long e)
    (times_behind (version_in (pending ++ piece)) pending piece less long
    (seen (version_in (pending ++ piece)) 0 (drop 16 (pending ++ piece))))

pub times_record : (version count : ℕ) (before passed pending piece : List ℕ)
    → before ≡ passed ++ pending → front_at version count pending ≡ Partial
    → TimesOf before piece (next_record version (count + 1) (length pending) (pending ++ piece))
unfolding next_record
times_record version count before passed pending piece cut begun =
    let less : count + 1 - 1 ≡ count = omega arith in
    rw less (times_front version count (count + 1) before passed pending piece cut begun
    (seen version count (pending ++ piece)))

-- ---- the whole captures in front of bytes

-- Bytes that begin with a whole capture are one, or are refused for what is behind it.
abbrev IsOver : Ending → Type 0
IsOver Ended = Unit {0}
IsOver (Bad s) = (place : ℕ) × (s ≡ Malformed Trailing place)
IsOver (Open place pending) = ⊥

over : (capture behind : List ℕ) → (reading capture).ending ≡ Ended
    → IsOver (reading (capture ++ behind)).ending
over capture [] ended =
    subst (λ (b : List ℕ). IsOver (reading b).ending) (sym (append-nil capture))
    (subst (λ (e : Ending). IsOver e) (sym ended) tt)
over capture (x ∷ xs) ended =
    let r = whole_trails capture (x ∷ xs) ended (omega arith) in
    subst (λ (r : Reading). IsOver r.ending) (sym r)
    (0 + length (reading capture).items + 2, refl)

pub no_time : (b : List ℕ) (ending : Ending) → (reading b).ending ≡ ending
    → (IsOver ending → ⊥) → IsEndTime None b
no_time b ending is not capture behind e ended =
    not (subst (λ (x : Ending). IsOver x) is
    (subst (λ (x : List ℕ). IsOver (reading x).ending) (sym e) (over capture behind ended)))

pub open_time : (b : List ℕ) (place : ℕ) (pending : List ℕ) → (reading b).ending ≡ Open place pending
    → IsEndTime None b
open_time b place pending is = no_time b (Open place pending) is (λ no. no)

pub bad_time : (b : List ℕ) (s : Stop) → (reading b).ending ≡ Bad s
    → ((place : ℕ) → s ≢ Malformed Trailing place) → IsEndTime None b
bad_time b s is not = no_time b (Bad s) is (λ no. not no.0 no.1)

pub ended_time : (b : List ℕ) → (reading b).ending ≡ Ended → IsEndTime (Some (end_time b)) b
ended_time b ended = (b, [], sym (append-nil b), ended, refl)

pub none_time : IsEndTime None []
none_time = open_time [] 0 [] (ap (λ (r : Reading). r.ending) (reading_short [] (omega arith)))

-- And what is kept stays, unless the bytes are open.
more_none : (b more : List ℕ) (capture behind : List ℕ) → b ++ more ≡ capture ++ behind
    → IsEndTime None b → (s : Stop) → (reading b).ending ≡ Bad s → (reading capture).ending ≢ Ended
more_none b more capture behind e none s bad ended =
    let front : take (length capture) (b ++ more) ≡ capture =
    ap (λ (x : List ℕ). take (length capture) x) e
    ∙ take-append-le (length capture) capture behind (omega arith)
    ∙ take_all (length capture) capture (omega arith) in
    elim (cases_lt (length b) (length capture)) [
      | inl longer ↦
          let is : b ++ take (length capture - length b) more ≡ capture =
          sym (cut_is b more (length capture) (omega arith)) ∙ front in
          let stays = whole_stays b (take (length capture - length b) more) s bad in
          let no : Bad s ≡ Ended = sym bad ∙ ap (λ (r : Reading). r.ending) (sym stays)
          ∙ ap (λ (x : List ℕ). (reading x).ending) is ∙ ended in
          cc
      | inr le ↦
          let is : take (length capture) b ≡ capture =
          sym (take-append-le (length capture) b more le) ∙ front in
          none capture (drop (length capture) b)
          (sym (take-append-drop (length capture) b)
          ∙ ap (λ (x : List ℕ). x ++ drop (length capture) b) is) ended
    ]

pub bad_more : (time : Option ℕ) (b more : List ℕ) (s : Stop) → (reading b).ending ≡ Bad s
    → IsEndTime time b → IsEndTime time (b ++ more)
bad_more (Some t) b more s bad (capture, behind, e, ended, is) = (
  capture,
  behind ++ more,
  ap (λ (x : List ℕ). x ++ more) e ∙ append_assoc capture behind more,
  ended,
  is,
)
bad_more None b more s bad none = λ capture behind e. more_none b more capture behind e none s bad

pub ended_more : (time : Option ℕ) (b more : List ℕ) → (reading b).ending ≡ Ended
    → IsEndTime time b → IsEndTime time (b ++ more)
ended_more (Some t) b more done (capture, behind, e, ended, is) = (
  capture,
  behind ++ more,
  ap (λ (x : List ℕ). x ++ more) e ∙ append_assoc capture behind more,
  ended,
  is,
)
ended_more None b more done none = absurd (none b [] (sym (append-nil b)) done)
