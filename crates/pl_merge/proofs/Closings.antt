-- What is written at last is the outcome of both files, or a front of it.
use Rattle.std.proofs.Common.{◌≡◌, ◌≢◌, ◌≤◌, ◌⊎◌, inl, inr, ℕ, max, List, [], ◌∷◌, ◌++◌, length, true, false}
use Rattle.std.proofs.Common.{refl, ap, sym, subst, ◌∙◌, arith, append_assoc, append-nil, Option, Some, None}
use Rattle.std.proofs.Common.{Result, Ok, Err}
use Rattle.pl_base.specs.declared.link.Dir.{Dir}
use Rattle.pl_base.specs.declared.link.Dir.TheVariants.{Down, Up}
use Rattle.pl_io.specs.declared.shelf.Shelf as shelf
use Rattle.pl_io.specs.Faults.{Rose, raised}
use Rattle.pl_io.specs.Told.{plus}
use Rattle.pl_capture.specs.Entry.{Entry}
use Rattle.pl_capture.specs.Reading.{end_time, version_read}
use Rattle.pl_capture.specs.Record.{header_of, end_of}
use Rattle.pl_capture.specs.Standing.{lent}
use Rattle.pl_page.specs.Gathers.{Fails, Gathers, Tells}
use Rattle.pl_page.proofs.Gathered.{fails_more}
use Rattle.pl_status.specs.declared.TheConstants.{CLEAN, READ_FAULT, WRITE_FAULT}
use Rattle.pl_merge.specs.declared.end.End.{End}
use Rattle.pl_merge.specs.declared.end.End.TheVariants as end
use Rattle.pl_merge.specs.declared.end.Halt.{Halt}
use Rattle.pl_merge.specs.declared.end.Halt.TheVariants as halt
use Rattle.pl_merge.specs.Lawful.{Lawful, lawful_of}
use Rattle.pl_merge.specs.Merged.{Placed, decider, is_ended, merged, to_last}
use Rattle.pl_merge.specs.Output.{Outcome, capture_of, decided, outcome_in, outcome_of, records_of, status_of}
use Rattle.pl_merge.specs.Sides.{Over, Sight, TookHeader, Waits, time_or_none}
use Rattle.pl_merge.specs.Mixing.{Begins, Decides, IsFrontOf, MixHalts, Mixed, ReadShort}
use Rattle.pl_merge.specs.Closing.{CutsAt, WritesText, halt_status}
use Rattle.pl_merge.specs.Promise.{IsCut, IsStatus, IsVersion, WritesBoth}
use Rattle.pl_merge.proofs.Outcomes.{front_of}

-- ---- the statuses

pub not_fault : (e : End) → (status_of e ≢ READ_FAULT) × (status_of e ≢ WRITE_FAULT)
not_fault end.Ended = (λ e. cc, λ e. cc)
not_fault end.WrongDirection = (λ e. cc, λ e. cc)
not_fault end.FallenTime = (λ e. cc, λ e. cc)
not_fault end.Malformed = (λ e. cc, λ e. cc)
not_fault end.Unsupported = (λ e. cc, λ e. cc)
not_fault end.TooLong = (λ e. cc, λ e. cc)

end_status : (e : End) → IsStatus (status_of e)
end_status end.Ended = inl refl
end_status end.WrongDirection = inr (inr (omega arith, omega arith))
end_status end.FallenTime = inr (inr (omega arith, omega arith))
end_status end.Malformed = inr (inl (omega arith, omega arith))
end_status end.Unsupported = inr (inl (omega arith, omega arith))
end_status end.TooLong = inr (inl (omega arith, omega arith))

pub status_by : (h : Halt) → IsStatus (halt_status h)
status_by (halt.Stops e) = end_status e
status_by halt.ReadFault = inr (inl (omega arith, omega arith))
status_by halt.WriteFault = inr (inl (omega arith, omega arith))

pub either_status : (status answer : ℕ) → IsStatus status → (answer ≡ status) ⊎ (answer ≡ WRITE_FAULT)
    → IsStatus answer
either_status status answer is (inl same) = subst IsStatus (sym same) is
either_status status answer is (inr lost) = inr (inl (omega (arith, lost), omega (arith, lost)))

-- ---- both headers were taken

outcome_is : (a b : List ℕ) (one two : ℕ) → version_read a ≡ Some one → version_read b ≡ Some two
    → outcome_of a b ≡ outcome_in (max one two) (max (end_time a) (end_time b)) (lawful_of Down a) (lawful_of Up b)
unfolding outcome_of
outcome_is a b one two first second = rw (first, second) refl

-- a front of the outcome
front_is : (a b text : List ℕ) (one two : ℕ) → version_read a ≡ Some one → version_read b ≡ Some two
    → IsFrontOf text a b
    → (more : List ℕ) × ((header_of (max one two) 0 ++ text) ++ more ≡ (outcome_of a b).bytes)
front_is a b text one two first second front =
    let f = front (max one two) (max (end_time a) (end_time b)) in (
      f.0,
      append_assoc (header_of (max one two) 0) text f.0
          ∙ sym (ap (λ (o : Outcome). o.bytes) (outcome_is a b one two first second) ∙ f.1),
    )

front_fails : (a b text : List ℕ) (one two : ℕ) {start now : Tells} → version_read a ≡ Some one
    → version_read b ≡ Some two → IsFrontOf text a b → Fails (header_of (max one two) 0 ++ text) start now
    → Fails (outcome_of a b).bytes start now
front_fails a b text one two {start} {now} first second front f =
    let more = front_is a b text one two first second front in
    subst (λ (l : List ℕ). Fails l start now) more.1 (fails_more (header_of (max one two) 0 ++ text) more.0 f)

-- the header alone
header_front : (a b : List ℕ) → IsFrontOf [] a b
header_front a b =
    front_of a b [] (merged (lawful_of Down a).items (lawful_of Up b).items) refl
    (λ file bad. (to_last file (merged (lawful_of Down a).items (lawful_of Up b).items), refl))

pub header_lost : (a b : List ℕ) (one two : ℕ) (rest rest2 : Option (List ℕ)) {start now : Tells}
    → version_read a ≡ Some one → version_read b ≡ Some two
    → Fails ([] ++ header_of (max one two) 0) start now → WritesBoth a b rest rest2 start now WRITE_FAULT
header_lost a b one two rest rest2 {start} {now} first second f = record {
  exact = λ other never. absurd (never refl);
  cut = λ same. absurd (cc same);
  part = λ same.
      front_fails a b [] one two first second (header_front a b)
      (subst (λ (l : List ℕ). Fails l start now) (sym (append-nil (header_of (max one two) 0))) f);
}

-- no more is merged of one of them
pub cut_writes : (h : Halt) (a b : List ℕ) (one two : ℕ) (rest rest2 : Option (List ℕ))
    (page : List ℕ) (start t now : Tells) (answer : ℕ)
    → version_read a ≡ Some one → version_read b ≡ Some two
    → MixHalts h (Some a) (Some b) rest rest2 page (header_of (max one two) 0) start t
    → CutsAt h page t now answer → WritesBoth a b rest rest2 start now answer
cut_writes (halt.Stops e) a b one two rest rest2 page start t now answer first second (cut, decides) cuts =
    let w = cuts (header_of (max one two) 0 ++ records_of cut.all) start cut.gathers in
    let is = outcome_is a b one two first second
    ∙ decides.outcome a b refl refl (max one two) (max (end_time a) (end_time b)) in
    record {
      exact = λ other never. (
        w.written never ∙ ap (λ (o : Outcome). plus start.written o.bytes) (sym is),
        w.answered never ∙ ap (λ (o : Outcome). o.status) (sym is),
      );
      cut = λ same.
          let never : answer ≢ WRITE_FAULT = λ lost. cc (sym same ∙ lost) in
          absurd ((not_fault e).0 (sym (w.answered never) ∙ same));
      part = λ lost. subst (λ (l : List ℕ). Fails l start now) (ap (λ (o : Outcome). o.bytes) (sym is)) (w.lost lost);
    }
cut_writes halt.ReadFault a b one two rest rest2 page start t now answer first second (cut, short) cuts =
    let w = cuts (header_of (max one two) 0 ++ records_of cut.all) start cut.gathers in
    let s = short a b refl refl in
    record {
      exact = λ other never. absurd (other (w.answered never));
      cut = λ same.
          let never : answer ≢ WRITE_FAULT = λ lost. cc (sym same ∙ lost) in
          record {
            version = max one two;
            version_is = (one, two, first, second, refl);
            all = cut.all;
            short = s;
            written = w.written never;
          };
      part = λ lost. front_fails a b (records_of cut.all) one two first second s.front (w.lost lost);
    }
cut_writes halt.WriteFault a b one two rest rest2 page start t now answer first second (text, f, front) (is, same) =
    record {
      exact = λ other never. absurd (never is);
      cut = λ is2. absurd (cc (sym is ∙ is2));
      part = λ lost.
          subst (λ (u : Tells). Fails (outcome_of a b).bytes start u) (sym same)
          (front_fails a b text one two first second (front a b refl refl) f);
    }

-- ---- both files were merged to their ends

over_is : (s : Sight) (rest file : Option (List ℕ)) (items : List Entry) (dir : Dir) (whole : List ℕ)
    → s.dir ≡ dir → lent s.reader.phase ≡ None → Waits s rest file items (lent s.reader.phase)
    → file ≡ Some whole
    → (lawful_of dir whole ≡ record { items = items; end = end.Ended })
    × (time_or_none s.reader.end_time ≡ end_time whole)
over_is s rest file items dir whole same none waits is =
    let o : Over s rest file items = subst (λ (w : Option Entry). Waits s rest file items w) none waits in
    (ap (λ (d : Dir). lawful_of d whole) (sym same) ∙ o.lawful whole is, ap time_or_none (o.time whole is))

begins_none : (w : Option Entry) → w ≡ None → Begins w []
begins_none None e = refl
begins_none (Some x) e = absurd cc

pub whole_writes : (a b : List ℕ) (one two : ℕ) (rest rest2 rest3 rest4 : Option (List ℕ)) (s u : Sight)
    (page : List ℕ) (start t now : Tells) (count time answer : ℕ)
    → version_read a ≡ Some one → version_read b ≡ Some two → s.dir ≡ Down → u.dir ≡ Up
    → time ≡ max (time_or_none s.reader.end_time) (time_or_none u.reader.end_time)
    → (m : Mixed (Some a) (Some b) s u rest rest2 page (header_of (max one two) 0) start t count)
    → lent s.reader.phase ≡ None → lent u.reader.phase ≡ None
    → ((text : List ℕ) (begun : Tells) → Gathers [] page text begun t → WritesText (text ++ end_of count time) CLEAN begun now answer)
    → WritesBoth a b rest3 rest4 start now answer
unfolding merged
whole_writes a b one two rest rest2 rest3 rest4 s u page start t now count time answer first second down up is m none none2 writes =
    let mine = over_is s rest (Some a) m.before Down a down none m.one_waits refl in
    let its = over_is u rest2 (Some b) m.other Up b up none2 m.two_waits refl in
    let all : merged m.before m.other ≡ m.all =
    ap (λ (l : List Entry). merged l m.other) (sym (append-nil m.before))
    ∙ ap (merged (m.before ++ [])) (sym (append-nil m.other))
    ∙ m.split.on [] [] (begins_none (lent s.reader.phase) none) (begins_none (lent u.reader.phase) none2) ∙ append-nil m.all in
    let times : time ≡ max (end_time a) (end_time b) =
    is ∙ ap (λ (n : ℕ). max n (time_or_none u.reader.end_time)) mine.1 ∙ ap (max (end_time a)) its.1 in
    let out : outcome_of a b ≡ record { bytes = capture_of (max one two) (max (end_time a) (end_time b)) m.all; status = CLEAN } =
    outcome_is a b one two first second
    ∙ ap (λ (l : Lawful). outcome_in (max one two) (max (end_time a) (end_time b)) l (lawful_of Up b)) mine.0
    ∙ ap (λ (l : Lawful). outcome_in (max one two) (max (end_time a) (end_time b)) (record { items = m.before; end = end.Ended }) l) its.0
    ∙ ap (λ (l : List Placed). record { bytes = capture_of (max one two) (max (end_time a) (end_time b)) l; status = CLEAN }) all in
    let w = writes (header_of (max one two) 0 ++ records_of m.all) start m.gathers in
    let text : (header_of (max one two) 0 ++ records_of m.all) ++ end_of count time ≡ (outcome_of a b).bytes =
    append_assoc (header_of (max one two) 0) (records_of m.all) (end_of count time)
    ∙ ap (λ (n : ℕ). header_of (max one two) 0 ++ (records_of m.all ++ end_of n time)) m.counted
    ∙ ap (λ (n : ℕ). header_of (max one two) 0 ++ (records_of m.all ++ end_of (length m.all) n)) times
    ∙ sym (ap (λ (o : Outcome). o.bytes) out) in
    record {
      exact = λ other never. (
        w.written never ∙ ap (plus start.written) text,
        w.answered never ∙ ap (λ (o : Outcome). o.status) (sym out),
      );
      cut = λ same.
          let never : answer ≢ WRITE_FAULT = λ lost. cc (sym same ∙ lost) in
          absurd (cc (sym (w.answered never) ∙ same));
      part = λ lost. subst (λ (l : List ℕ). Fails l start now) text (w.lost lost);
    }

-- ---- the header that is gathered first

pub header_gathered : (version version' : ℕ) (held held' : List ℕ) {start t : Tells} → version ≡ version'
    → held ≡ [] → Gathers held held' (header_of version 0) start t
    → Gathers [] held' (header_of version' 0) start t
header_gathered version version' held held' {start} {t} same none g =
    subst (λ (h : List ℕ). Gathers h held' (header_of version' 0) start t) none
    (subst (λ (n : ℕ). Gathers held held' (header_of n 0) start t) same g)

pub header_lost_at : (version version' : ℕ) (held : List ℕ) {start t : Tells} → version ≡ version'
    → held ≡ [] → Fails (held ++ header_of version 0) start t → Fails ([] ++ header_of version' 0) start t
header_lost_at version version' held {start} {t} same none f =
    subst (λ (h : List ℕ). Fails (h ++ header_of version' 0) start t) none
    (subst (λ (n : ℕ). Fails (held ++ header_of n 0) start t) same f)
