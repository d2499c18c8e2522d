-- The clauses of `run` that hold whatever is told, by the status.
use Rattle.std.proofs.Common.{◌≡◌, ◌≢◌, ◌≤◌, ◌⊎◌, inl, inr, List, ℕ, Bool, true, false, refl, ap, ◌∙◌, sym, subst, length, arith, Result, Ok, Err}
use Rattle.std.proofs.lemmas.Bool.{cases_eq}
use Rattle.pl_io.specs.declared.shelf.Shelf as shelf
use Rattle.pl_io.specs.declared.sink.Sink as sink
use Rattle.pl_io.specs.Faults.{Rose}
use Rattle.pl_io.specs.Told.{HasRoom}
use Rattle.pl_profile.specs.ProfileOf.{usual_profile}
use Rattle.pl_profile.specs.Refusal.{number_of}
use Rattle.pl_profile.specs.declared.error.ProfileError.{ProfileError}
use Rattle.pl_profile.specs.declared.profile.Profile.{Profile}
use Rattle.pl_filter.specs.declared.error.FilterError.{FilterError}
use Rattle.pl_make.specs.Generated.{Gen}
use Rattle.pl_report.specs.Lines.{filter_error_text, profile_error_text, read_fault_text, usage_text}
use Rattle.pl_cli.specs.Output.{View, cut, output, status_of}
use Rattle.pl_cli.specs.Promise.{Answers, IsCommand, IsNoJudging, Opens, ProfileIs, Runs, filter_refused, is_dash, judged, no_command, no_engine, no_filter, no_memory, profile_read, profile_refused, profile_unread, reported, shows, trial_status, trial_text, tries, unread}
use Rattle.pl_cli.specs.Words.{Gives, GivesPart, IsGenerated, IsJudged, IsRefused, LacksEngine, LacksFilter, LacksProfile, OpensBoth}
use Rattle.pl_cli.proofs.Judged.{judged_status}
use Rattle.pl_cli.proofs.Trials.{filter_trial, trial_never}
use Rattle.pl_cli.proofs.Headline.{gives, gives_part, kept_if_room, none_by, not_judged, one_refusal, opens_both, refused_filter}

-- what was answered: with a text, or for want of memory
data Answered {O : Type 0} (T : sink.Ghosts O) (out out' : O) (answer : ℕ) : Type 0 where
  with_text : (text : List ℕ) (status : ℕ) → Answers T text status out out' answer → (status ≤ 7) ⊎ (status ≡ 12) → Answered T out out' answer
  without : out' ≡ out → answer ≡ 9 → Answered T out out' answer

low : (n : ℕ) → IsJudged n → n ≤ 7
low n (inl h) = omega arith
low n (inr h) = omega (arith, h.1)

answered : {H O : Type 0} {S : shelf.Ghosts H} {T : sink.Ghosts O} {words : List (List ℕ)} {old new : H} {out out' : O} {answer : ℕ} →
    Runs S T words old new out out' answer → Answered T out out' answer
answered (no_command none same a) = with_text usage_text 2 a (inl (omega arith))
answered (filter_refused filter e has bad same a) = with_text (filter_error_text e) 12 a (inr refl)
answered (no_filter filter has same none is9) = without none is9
answered (shows v profile capture is (profile_unread u a)) = with_text read_fault_text 7 a (inl (omega arith))
answered (shows v profile capture is (profile_refused e ne p r a)) = with_text (profile_error_text (number_of e)) 3 a (inl (omega arith))
answered (shows v profile capture is (no_memory r same is9)) = without same is9
answered (shows v profile capture is (profile_read p between i r (judged bytes c a))) = with_text (output v p bytes) (status_of p bytes) a (inl (low _ (judged_status p bytes)))
answered (shows v profile capture is (profile_read p between i r (unread read c a))) = with_text (cut v p read) 7 a (inl (omega arith))
answered (tries n c is same (no_engine none is9)) = without none is9
answered (tries n c is same (reported a)) = with_text (trial_text n c) (trial_status n c) a (inl (low _ (judged_status usual_profile (Gen n c))))

write_fault_of : {O : Type 0} {T : sink.Ghosts O} {out out' : O} {answer : ℕ} → Answered T out out' answer → answer ≡ 8 → Rose (T.faults out) (T.faults out')
write_fault_of (with_text text status a known) is8 = a.rose is8
write_fault_of (without same is9) is8 = absurd (omega arith)

sink_kept_of : {O : Type 0} {T : sink.Ghosts O} {out out' : O} {answer : ℕ} → Answered T out out' answer → answer ≢ 8 → T.faults out' ≡ T.faults out
sink_kept_of (with_text text status a known) n8 = a.kept n8
sink_kept_of {T = T} (without same is9) n8 = ap T.faults same

status_of_answered : {O : Type 0} {T : sink.Ghosts O} {out out' : O} {answer : ℕ} → Answered T out out' answer → (answer ≤ 9) ⊎ (answer ≡ 12)
status_of_answered {answer = answer} (with_text text status a known) = by (cases_eq answer 8) known
  where
    by : (answer ≡ 8) ⊎ (answer ≢ 8) → (status ≤ 7) ⊎ (status ≡ 12) → (answer ≤ 9) ⊎ (answer ≡ 12)
    by (inl is8) k = inl (omega arith)
    by (inr n8) (inl low) = let e = a.answered n8 in inl (omega arith)
    by (inr n8) (inr is12) = inr (a.answered n8 ∙ is12)
status_of_answered (without same is9) = inl (omega arith)

no_memory_of : {O : Type 0} {T : sink.Ghosts O} {out out' : O} {answer : ℕ} → Answered T out out' answer → answer ≡ 9 → out' ≡ out
no_memory_of {answer = answer} (with_text text status a known) is9 = absurd (by known (a.answered (λ h. omega arith)))
  where
    by : (status ≤ 7) ⊎ (status ≡ 12) → answer ≡ status → ⊥
    by (inl low) e = omega arith
    by (inr is12) e = omega arith
no_memory_of (without same is9') is9 = same

-- a profile that is refused isn't the usual one
refused_file : {H : Type 0} {S : shelf.Ghosts H} {old : H} {profile : List ℕ} {e : ProfileError} → ProfileIs S profile (Err e) old → is_dash profile ≡ false
refused_file {profile = profile} {e} is = by (is_dash profile) refl
  where
    usual : (let x : Result Profile ProfileError = Err e in x ≡ Ok usual_profile) → ⊥
    usual h = cc

    by : (b : Bool) → is_dash profile ≡ b → is_dash profile ≡ false
    by true d = absurd (usual (is.dash d))
    by false d = d

not_12 : (k : ℕ) → IsJudged k → k ≢ 12
not_12 k (inl h) is12 = omega arith
not_12 k (inr h) is12 = omega (arith, h.1)

not_this : (k n : ℕ) → IsJudged k → k ≡ n → (n ≡ 2) ⊎ ((n ≡ 3) ⊎ ((n ≡ 7) ⊎ (n ≡ 9))) → ⊥
not_this k n h e (inl x) = not_judged k n h (sym e) (inr (inr (inr x)))
not_this k n h e (inr (inl x)) = not_judged k n h (sym e) (inr (inl x))
not_this k n h e (inr (inr (inl x))) = not_judged k n h (sym e) (inl x)
not_this k n h e (inr (inr (inr x))) = not_judged k n h (sym e) (inr (inr (inl x)))

judged_not_8 : (k : ℕ) → IsJudged k → k ≢ 8
judged_not_8 k (inl h) is8 = omega arith
judged_not_8 k (inr h) is8 = omega (arith, h.1)

module _ {H O : Type 0} {S : shelf.Ghosts H} {T : sink.Ghosts O} {words : List (List ℕ)} {old new : H} {out out' : O} {answer : ℕ} where
  pub usage_by : Runs S T words old new out out' answer → IsNoJudging words → Answers T usage_text 2 out out' answer
  usage_by (no_command none same a) h = a
  usage_by (filter_refused filter e has bad same a) h = absurd (h.no_list filter has)
  usage_by (no_filter filter has same none is9) h = absurd (h.no_list filter has)
  usage_by (shows v profile capture is r) h = absurd (none_by v profile capture is h)
  usage_by (tries n c is same t) h = absurd (h.no_trial n c is)

  pub none_opened_by : Runs S T words old new out out' answer → IsNoJudging words → new ≡ old
  none_opened_by (no_command none same a) h = same
  none_opened_by (filter_refused filter e has bad same a) h = same
  none_opened_by (no_filter filter has same none is9) h = same
  none_opened_by (shows v profile capture is r) h = absurd (none_by v profile capture is h)
  none_opened_by (tries n c is same t) h = same

  pub usage_room_by : Runs S T words old new out out' answer → IsNoJudging words → HasRoom (T.room out) (length usage_text) → T.faults out' ≡ T.faults out
  usage_room_by r h room = kept_if_room (usage_by r h) room

  pub write_fault_by : Runs S T words old new out out' answer → answer ≡ 8 → Rose (T.faults out) (T.faults out')
  write_fault_by r = write_fault_of (answered r)

  pub sink_kept_by : Runs S T words old new out out' answer → answer ≢ 8 → T.faults out' ≡ T.faults out
  sink_kept_by r = sink_kept_of (answered r)

  pub status_by : Runs S T words old new out out' answer → (answer ≤ 9) ⊎ (answer ≡ 12)
  status_by r = status_of_answered (answered r)

  pub no_memory_by : Runs S T words old new out out' answer → answer ≡ 9 → out' ≡ out
  no_memory_by r = no_memory_of (answered r)

  pub usage_only_by : Runs S T words old new out out' answer → answer ≡ 2 → IsNoJudging words
  usage_only_by (no_command none same a) is2 = none
  usage_only_by (filter_refused filter e has bad same a) is2 = let k = a.answered (λ h. omega arith) in absurd (omega (arith, k))
  usage_only_by (no_filter filter has same none is9) is2 = absurd (omega arith)
  usage_only_by (shows v profile capture is (profile_unread u a)) is2 = let k = a.answered (λ h. omega arith) in absurd (omega (arith, k))
  usage_only_by (shows v profile capture is (profile_refused e ne p r a)) is2 = let k = a.answered (λ h. omega arith) in absurd (omega (arith, k))
  usage_only_by (shows v profile capture is (no_memory r same is9)) is2 = absurd (omega arith)
  usage_only_by (shows v profile capture is (profile_read p between i r (judged bytes c a))) is2 =
      absurd (not_judged _ answer (judged_status p bytes) (a.answered (λ h. omega arith)) (inr (inr (inr is2))))
  usage_only_by (shows v profile capture is (profile_read p between i r (unread read c a))) is2 = let k = a.answered (λ h. omega arith) in absurd (omega (arith, k))
  usage_only_by (tries n c is same t) is2 = absurd (trial_never 2 t is2 (inr (inr (inr refl))))

  pub read_fault_by : Runs S T words old new out out' answer → answer ≡ 7 → Rose (S.faults old) (S.faults new)
  read_fault_by (no_command none same a) is7 = let k = a.answered (λ h. omega arith) in absurd (omega (arith, k))
  read_fault_by (filter_refused filter e has bad same a) is7 = let k = a.answered (λ h. omega arith) in absurd (omega (arith, k))
  read_fault_by (no_filter filter has same none is9) is7 = absurd (omega arith)
  read_fault_by (shows v profile capture is (profile_unread u a)) is7 = u.rose
  read_fault_by (shows v profile capture is (profile_refused e ne p r a)) is7 = let k = a.answered (λ h. omega arith) in absurd (omega (arith, k))
  read_fault_by (shows v profile capture is (no_memory r same is9)) is7 = absurd (omega arith)
  read_fault_by (shows v profile capture is (profile_read p between i r (judged bytes c a))) is7 =
      absurd (not_judged _ answer (judged_status p bytes) (a.answered (λ h. omega arith)) (inl is7))
  read_fault_by (shows v profile capture is (profile_read p between i r (unread read c a))) is7 = subst (λ (n : ℕ). Rose n (S.faults new)) r.kept c.rose
  read_fault_by (tries n c is same t) is7 = absurd (trial_never 7 t is7 (inl refl))

  pub shelf_kept_by : Runs S T words old new out out' answer → answer ≢ 7 → answer ≢ 8 → S.faults new ≡ S.faults old
  shelf_kept_by (no_command none same a) n7 n8 = ap S.faults same
  shelf_kept_by (filter_refused filter e has bad same a) n7 n8 = ap S.faults same
  shelf_kept_by (no_filter filter has same none is9) n7 n8 = ap S.faults same
  shelf_kept_by (shows v profile capture is (profile_unread u a)) n7 n8 = absurd (n7 (a.answered n8))
  shelf_kept_by (shows v profile capture is (profile_refused e ne p r a)) n7 n8 = r.kept
  shelf_kept_by (shows v profile capture is (no_memory r same is9)) n7 n8 = r.kept
  shelf_kept_by (shows v profile capture is (profile_read p between i r (judged bytes c a))) n7 n8 = c.kept ∙ r.kept
  shelf_kept_by (shows v profile capture is (profile_read p between i r (unread read c a))) n7 n8 = absurd (n7 (a.answered n8))
  shelf_kept_by (tries n c is same t) n7 n8 = ap S.faults same

  pub unopened_by : Runs S T words old new out out' answer → answer ≡ 9 →
      LacksFilter words old new ⊎ (LacksProfile S words old new ⊎ LacksEngine words old new)
  unopened_by (no_command none same a) is9 = let k = a.answered (λ h. omega arith) in absurd (omega (arith, k))
  unopened_by (filter_refused filter e has bad same a) is9 = let k = a.answered (λ h. omega arith) in absurd (omega (arith, k))
  unopened_by (no_filter filter has same none is9') is9 = inl (filter, has, same)
  unopened_by (shows v profile capture is (profile_unread u a)) is9 = let k = a.answered (λ h. omega arith) in absurd (omega (arith, k))
  unopened_by (shows v profile capture is (profile_refused e ne p r a)) is9 = let k = a.answered (λ h. omega arith) in absurd (omega (arith, k))
  unopened_by (shows v profile capture is (no_memory r same is9')) is9 = inr (inl (v, profile, capture, is, r))
  unopened_by (shows v profile capture is (profile_read p between i r (judged bytes c a))) is9 =
      absurd (not_judged _ answer (judged_status p bytes) (a.answered (λ h. omega arith)) (inr (inr (inl is9))))
  unopened_by (shows v profile capture is (profile_read p between i r (unread read c a))) is9 = let k = a.answered (λ h. omega arith) in absurd (omega (arith, k))
  unopened_by (tries n c is same t) is9 = inr (inr (n, c, is, same))

  pub one_opened_by : Runs S T words old new out out' answer → answer ≡ 3 →
      (v : View) × (profile : List ℕ) × (capture : List ℕ) × IsCommand words v profile capture × Opens S profile old new × (S.is_open new ≡ true)
  one_opened_by (no_command none same a) is3 = let k = a.answered (λ h. omega arith) in absurd (omega (arith, k))
  one_opened_by (filter_refused filter e has bad same a) is3 = let k = a.answered (λ h. omega arith) in absurd (omega (arith, k))
  one_opened_by (no_filter filter has same none is9) is3 = absurd (omega arith)
  one_opened_by (shows v profile capture is (profile_unread u a)) is3 = let k = a.answered (λ h. omega arith) in absurd (omega (arith, k))
  one_opened_by (shows v profile capture is (profile_refused e ne p r a)) is3 =
      let file = refused_file p in (v, profile, capture, is, r.opens file, r.is_open file)
  one_opened_by (shows v profile capture is (no_memory r same is9)) is3 = absurd (omega arith)
  one_opened_by (shows v profile capture is (profile_read p between i r (judged bytes c a))) is3 =
      absurd (not_judged _ answer (judged_status p bytes) (a.answered (λ h. omega arith)) (inr (inl is3)))
  one_opened_by (shows v profile capture is (profile_read p between i r (unread read c a))) is3 = let k = a.answered (λ h. omega arith) in absurd (omega (arith, k))
  one_opened_by (tries n c is same t) is3 = absurd (trial_never 3 t is3 (inr (inl refl)))

  pub both_opened_by : Runs S T words old new out out' answer → IsJudged answer → IsGenerated words
      ⊎ ((v : View) × (profile : List ℕ) × (capture : List ℕ) × IsCommand words v profile capture × OpensBoth S profile capture old new × (S.is_open new ≡ true))
  both_opened_by (no_command none same a) h = absurd (not_this answer 2 h (a.answered (judged_not_8 answer h)) (inl refl))
  both_opened_by (filter_refused filter e has bad same a) h = absurd (not_12 answer h (a.answered (judged_not_8 answer h)))
  both_opened_by (no_filter filter has same none is9) h = absurd (not_this answer 9 h is9 (inr (inr (inr refl))))
  both_opened_by (shows v profile capture is (profile_unread u a)) h = absurd (not_this answer 7 h (a.answered (judged_not_8 answer h)) (inr (inr (inl refl))))
  both_opened_by (shows v profile capture is (profile_refused e ne p r a)) h = absurd (not_this answer 3 h (a.answered (judged_not_8 answer h)) (inr (inl refl)))
  both_opened_by (shows v profile capture is (no_memory r same is9)) h = absurd (not_this answer 9 h is9 (inr (inr (inr refl))))
  both_opened_by (shows v profile capture is (profile_read p between i r (judged bytes c a))) h = inr (v, profile, capture, is, opens_both r c.opens, c.is_open)
  both_opened_by (shows v profile capture is (profile_read p between i r (unread read c a))) h =
      absurd (not_this answer 7 h (a.answered (judged_not_8 answer h)) (inr (inr (inl refl))))
  both_opened_by (tries n c is same t) h = inl (n, c, is)

  -- ---- a filter that is refused

  -- what came of it
  refused_as : (e : FilterError) → Runs S T words old new out out' answer → IsRefused words e →
      (new ≡ old) × (Answers T (filter_error_text e) 12 out out' answer ⊎ ((out' ≡ out) × (answer ≡ 9)))
  refused_as e (no_command none same a) h = absurd (none.no_list h.0 h.1)
  refused_as e (filter_refused filter d has bad same a) h =
      (same, inl (subst (λ (x : FilterError). Answers T (filter_error_text x) 12 out out' answer) (one_refusal filter h.0 d e has h.1 bad h.2) a))
  refused_as e (no_filter filter has same none is9) h = (same, inr (none, is9))
  refused_as e (shows v profile capture is r) h = absurd (refused_filter v profile capture h.0 e is h.1 h.2)
  refused_as e (tries n c is same t) h = absurd (filter_trial h.0 h.1 is)

  pub filter_by : (e : FilterError) → Runs S T words old new out out' answer → IsRefused words e → answer ≢ 8 → answer ≢ 9 →
      Gives (filter_error_text e) 12 (T.written out) (T.written out') answer
  filter_by e r h n8 n9 = elim (refused_as e r h).1 [ inl a ↦ gives a n8 | inr lacks ↦ absurd (n9 lacks.1) ]

  pub filter_part_by : (e : FilterError) → Runs S T words old new out out' answer → IsRefused words e → answer ≡ 8 → GivesPart T (filter_error_text e) out out'
  filter_part_by e r h is8 = elim (refused_as e r h).1 [ inl a ↦ gives_part a is8 | inr lacks ↦ absurd (omega (arith, lacks.1)) ]

  pub filter_opened_by : (e : FilterError) → Runs S T words old new out out' answer → IsRefused words e → new ≡ old
  filter_opened_by e r h = (refused_as e r h).0

  pub filter_room_by : (e : FilterError) → Runs S T words old new out out' answer → IsRefused words e → HasRoom (T.room out) (length (filter_error_text e)) →
      T.faults out' ≡ T.faults out
  filter_room_by e r h room = elim (refused_as e r h).1 [ inl a ↦ kept_if_room a room | inr lacks ↦ ap T.faults lacks.0 ]

  pub filter_only_by : Runs S T words old new out out' answer → answer ≡ 12 → (e : FilterError) × IsRefused words e
  filter_only_by (no_command none same a) is12 = let k = a.answered (λ h. omega arith) in absurd (omega (arith, k))
  filter_only_by (filter_refused filter e has bad same a) is12 = (e, (filter, has, bad))
  filter_only_by (no_filter filter has same none is9) is12 = absurd (omega arith)
  filter_only_by (shows v profile capture is (profile_unread u a)) is12 = let k = a.answered (λ h. omega arith) in absurd (omega (arith, k))
  filter_only_by (shows v profile capture is (profile_refused e ne p r a)) is12 = let k = a.answered (λ h. omega arith) in absurd (omega (arith, k))
  filter_only_by (shows v profile capture is (no_memory r same is9)) is12 = absurd (omega arith)
  filter_only_by (shows v profile capture is (profile_read p between i r (judged bytes c a))) is12 =
      absurd (not_12 (status_of p bytes) (judged_status p bytes) (sym (a.answered (λ h. omega arith)) ∙ is12))
  filter_only_by (shows v profile capture is (profile_read p between i r (unread read c a))) is12 = let k = a.answered (λ h. omega arith) in absurd (omega (arith, k))
  filter_only_by (tries n c is same t) is12 = absurd (trial_never 12 t is12 (inr (inr (inl refl))))
