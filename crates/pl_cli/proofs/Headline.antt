-- The clauses of `run`, from all that it promises.
use Rattle.std.proofs.Common.{◌≡◌, ◌≢◌, ◌⊎◌, inl, inr, if◌then◌else◌, get_or, List, ℕ, Bool, true, false, [], ◌∷◌, refl, ap, ◌∙◌, sym, subst, length, arith, Option, Some, None, IsSome, Result, Ok, Err}
use Rattle.std.specs.Option.{option_map}
use Rattle.std.proofs.lemmas.Bool.{cases_eq}
use Rattle.pl_io.specs.declared.shelf.Shelf as shelf
use Rattle.pl_io.specs.declared.sink.Sink as sink
use Rattle.pl_io.specs.Faults.{Rose, raised}
use Rattle.pl_io.specs.Told.{plus, HasRoom}
use Rattle.pl_profile.specs.ProfileOf.{profile_of, usual_profile}
use Rattle.pl_profile.specs.Refusal.{number_of}
use Rattle.pl_profile.specs.declared.error.ProfileError.{ProfileError}
use Rattle.pl_profile.specs.declared.profile.Profile.{Profile}
use Rattle.pl_report.specs.Lines.{profile_error_text, read_fault_text}
use Rattle.pl_filter.specs.Answers.{IsAnswer}
use Rattle.pl_filter.specs.Reading.{reading}
use Rattle.pl_filter.specs.Trees.{Tree}
use Rattle.pl_filter.specs.declared.error.FilterError.{FilterError}
use Rattle.pl_filter.proofs.Unique.{answer_is_read}
use Rattle.pl_cli.specs.Output.{Check, Listing, Report, View, cut, output, status_of}
use Rattle.pl_cli.specs.Promise.{Answers, HasFilter, IsCheck, IsCommand, IsList, IsNoJudging, IsReport, Judges, Opens, ProfileIs, ProfileUnread, Reads, ReadsProfile, Runs, Shows, filter_refused, is_dash, judged, no_command, no_filter, no_memory, profile_read, profile_refused, profile_unread, shows, tries, unread}
use Rattle.pl_cli.specs.Source.{profile_under}
use Rattle.pl_cli.specs.Words.{AreThere, CutAt, FilterIsRead, Gives, GivesPart, IsJudged, IsUnrisen, OpensBoth, RunsCleanly, after_profile, nothing_read, whole_text}
use Rattle.pl_cli.proofs.CommandWords.{clean_file, not_risen}
use Rattle.pl_cli.proofs.Judged.{cut_nothing, judged_status}
use Rattle.pl_cli.proofs.Tops.{front_ahead}
use Rattle.pl_cli.proofs.Trials.{command_trial}

-- ---- what was written

pub gives : {O : Type 0} {T : sink.Ghosts O} {text : List ℕ} {status : ℕ} {out out' : O} {answer : ℕ} →
    Answers T text status out out' answer → answer ≢ 8 → Gives text status (T.written out) (T.written out') answer
gives a n8 = (a.written n8, a.answered n8)

pub gives_part : {O : Type 0} {T : sink.Ghosts O} {text : List ℕ} {status : ℕ} {out out' : O} {answer : ℕ} →
    Answers T text status out out' answer → answer ≡ 8 → GivesPart T text out out'
gives_part a is8 = record { part = a.part is8; no_room = a.no_room is8 }

pub kept_if_room : {O : Type 0} {T : sink.Ghosts O} {text : List ℕ} {status : ℕ} {out out' : O} {answer : ℕ} →
    Answers T text status out out' answer → HasRoom (T.room out) (length text) → T.faults out' ≡ T.faults out
kept_if_room {answer = answer} a room =
    elim (cases_eq answer 8) [ inl is8 ↦ absurd (a.no_room is8 room) | inr n8 ↦ a.kept n8 ]

-- ---- what a profile's name stands for

some_text : {H : Type 0} {S : shelf.Ghosts H} {name : List ℕ} {x : Result Profile ProfileError} {old : H} →
    ProfileIs S name x old → S.told old ≡ true → profile_under (S.file old) name ≡ Some x
some_text {S = S} {name} {x} {old} is told = by (is_dash name) refl
  where
    by : (b : Bool) → is_dash name ≡ b → profile_under (S.file old) name ≡ Some x
    by true d = ap (λ (b : Bool). if b then Some (Ok usual_profile) else option_map profile_of (S.file old name)) d ∙ ap Some (sym (is.dash d))
    by false d =
        let f = is.file d in
        ap (λ (b : Bool). if b then Some (Ok usual_profile) else option_map profile_of (S.file old name)) d
        ∙ ap (option_map profile_of) (f.2 told) ∙ ap Some (sym f.1)

-- a file's profile
under_file : (files : List ℕ → Option (List ℕ)) (name : List ℕ) → is_dash name ≡ false → profile_under files name ≡ option_map profile_of (files name)
under_file files name d = ap (λ (b : Bool). if b then Some (Ok usual_profile) else option_map profile_of (files name)) d

-- a profile that was read is there
read_there : {H : Type 0} {S : shelf.Ghosts H} {name : List ℕ} {old new : H} →
    ReadsProfile S name old new → S.told old ≡ true → IsSome (profile_under (S.file old) name)
read_there {S = S} {name} {old} r told = by (is_dash name) refl
  where
    by : (b : Bool) → is_dash name ≡ b → IsSome (profile_under (S.file old) name)
    by true d = subst IsSome (sym (ap (λ (b : Bool). if b then Some (Ok usual_profile) else option_map profile_of (S.file old name)) d)) refl
    by false d = subst IsSome (sym (under_file (S.file old) name d ∙ ap (option_map profile_of) (r.front d told).file_is)) refl

-- a sure shelf has no file of a profile that couldn't be read
none_there : (o : Option (List ℕ)) → (IsSome o → ⊥) → o ≡ None
none_there None h = refl
none_there (Some x) h = absurd (h refl)

unread_none : {H : Type 0} {S : shelf.Ghosts H} {name : List ℕ} {old new : H} →
    ProfileUnread S name old new → S.sure old ≡ true → profile_under (S.file old) name ≡ None
unread_none {S = S} {name} {old} u sure =
    under_file (S.file old) name u.is_file ∙ ap (option_map profile_of) (none_there (S.file old name) (u.not_sure sure))

-- ---- the two files

pub opens_both : {H : Type 0} {S : shelf.Ghosts H} {profile capture : List ℕ} {old between new : H} →
    ReadsProfile S profile old between → Opens S capture between new → OpensBoth S profile capture old new
opens_both {S = S} {profile} {old = old} {between} r o = record {
  once_each = o.once ∙ ap raised (by (is_dash profile) refl);
  named = λ told is_open. o.named (r.still_told ∙ told) is_open;
}
  where
    by : (b : Bool) → is_dash profile ≡ b → S.opens between ≡ after_profile profile (S.opens old)
    by true d = ap S.opens (r.dash d) ∙ sym (ap (λ (b : Bool). if b then S.opens old else raised (S.opens old)) d)
    by false d = (r.opens d).once ∙ sym (ap (λ (b : Bool). if b then S.opens old else raised (S.opens old)) d)

-- ---- the command of the words

-- What came of a command: what its view shows; or memory was wanting for the filter of a list.
pub data Commanded {H O : Type 0} (S : shelf.Ghosts H) (T : sink.Ghosts O) (v : View) (profile capture : List ℕ)
    (old new : H) (out out' : O) (answer : ℕ) : Type 0 where
  shown : Shows S T v profile capture old new out out' answer → Commanded S T v profile capture old new out out' answer
  lacks : new ≡ old → out' ≡ out → answer ≡ 9 → (FilterIsRead v answer → ⊥) → Commanded S T v profile capture old new out out' answer

-- the commands are told apart by the lengths of their names
named_apart : {words first second : List (List ℕ)} → words ≡ first → words ≡ second → length (get_or first 0 []) ≡ length (get_or second 0 [])
named_apart h k = ap (λ (l : List (List ℕ)). length (get_or l 0 [])) (sym h ∙ k)

check_list : {words : List (List ℕ)} {profile capture p c filter : List ℕ} → IsCheck words profile capture → IsList words p c filter → ⊥
check_list h k = let e : 5 ≡ 4 = named_apart h k in omega (arith, e)

check_report : {words : List (List ℕ)} {profile capture p c : List ℕ} → IsCheck words profile capture → IsReport words p c → ⊥
check_report h k = let e : 5 ≡ 6 = named_apart h k in omega (arith, e)

list_report : {words : List (List ℕ)} {profile capture filter p c : List ℕ} → IsList words profile capture filter → IsReport words p c → ⊥
list_report h k = let e : 4 ≡ 6 = named_apart h k in omega (arith, e)

-- a text has one answer
one_filter : (filter filter' : List ℕ) (f g : Tree) → filter ≡ filter' → IsAnswer filter (Ok f) → IsAnswer filter' (Ok g) → f ≡ g
one_filter filter filter' f g same h k =
    let e : (let x : Result Tree FilterError = Ok f in x ≡ Ok g) =
    answer_is_read filter (Ok f) h ∙ ap reading same ∙ sym (answer_is_read filter' (Ok g) k) in
    cc

not_refused : (filter filter' : List ℕ) (f : Tree) (e : FilterError) → filter ≡ filter' → IsAnswer filter (Ok f) → IsAnswer filter' (Err e) → ⊥
not_refused filter filter' f e same h k =
    let both : (let x : Result Tree FilterError = Ok f in x ≡ Err e) =
    answer_is_read filter (Ok f) h ∙ ap reading same ∙ sym (answer_is_read filter' (Err e) k) in
    cc

one_error : (filter filter' : List ℕ) (d e : FilterError) → filter ≡ filter' → IsAnswer filter (Err d) → IsAnswer filter' (Err e) → d ≡ e
one_error filter filter' d e same h k =
    let both : (let x : Result Tree FilterError = Err d in x ≡ Err e) =
    answer_is_read filter (Err d) h ∙ ap reading same ∙ sym (answer_is_read filter' (Err e) k) in
    cc

same_words : {word a b a' b' : List ℕ} {words : List (List ℕ)} → words ≡ word ∷ a ∷ b ∷ [] → words ≡ word ∷ a' ∷ b' ∷ [] → (a' ≡ a) × (b' ≡ b)
same_words h k = (cc, cc)

same_four : {word a b c a' b' c' : List ℕ} {words : List (List ℕ)} → words ≡ word ∷ a ∷ b ∷ c ∷ [] → words ≡ word ∷ a' ∷ b' ∷ c' ∷ [] → (a' ≡ a) × (b' ≡ b) × (c' ≡ c)
same_four h k = (cc, cc, cc)

pub none_by : {words : List (List ℕ)} (v : View) (profile capture : List ℕ) → IsCommand words v profile capture → IsNoJudging words → ⊥
none_by Check profile capture h none = none.no_check profile capture h
none_by (Listing f) profile capture h none = none.no_list h.0 (profile, capture, h.1)
none_by Report profile capture h none = none.no_report profile capture h

pub refused_filter : {words : List (List ℕ)} (v : View) (profile capture filter : List ℕ) (e : FilterError) → IsCommand words v profile capture → HasFilter words filter → IsAnswer filter (Err e) → ⊥
refused_filter Check profile capture filter e h k bad = check_list h k.2
refused_filter (Listing f) profile capture filter e h k bad = let same = same_four k.2 h.1 in not_refused h.0 filter f e same.2 h.2 bad
refused_filter Report profile capture filter e h k bad = list_report k.2 h

pub one_refusal : {words : List (List ℕ)} (filter filter' : List ℕ) (d e : FilterError) → HasFilter words filter → HasFilter words filter' → IsAnswer filter (Err d) → IsAnswer filter' (Err e) → d ≡ e
one_refusal filter filter' d e has has' h k = let same = same_four has'.2 has.2 in one_error filter filter' d e same.2 h k

lacking_filter : {words : List (List ℕ)} {answer : ℕ} (v : View) (profile capture filter : List ℕ) → IsCommand words v profile capture → HasFilter words filter → answer ≡ 9 → FilterIsRead v answer → ⊥
lacking_filter Check profile capture filter h k is9 read = check_list h k.2
lacking_filter (Listing f) profile capture filter h k is9 read = read is9
lacking_filter Report profile capture filter h k is9 read = list_report k.2 h

module _ {H O : Type 0} {S : shelf.Ghosts H} {T : sink.Ghosts O} {old new : H} {out out' : O} {answer : ℕ} where
  with_names : (v w : View) (profile capture p c : List ℕ) → w ≡ v → p ≡ profile → c ≡ capture →
      Shows S T w p c old new out out' answer → Commanded S T v profile capture old new out out' answer
  with_names v w profile capture p c e f g r =
      shown (subst (λ (x : View). Shows S T x profile capture old new out out' answer) e
      (subst (λ (x : List ℕ). Shows S T w x capture old new out out' answer) f
      (subst (λ (x : List ℕ). Shows S T w p x old new out out' answer) g r)))

  shown_by : (words : List (List ℕ)) (v w : View) (profile capture p c : List ℕ) → IsCommand words v profile capture → IsCommand words w p c →
      Shows S T w p c old new out out' answer → Commanded S T v profile capture old new out out' answer
  shown_by words Check Check profile capture p c h k r = let same = same_words h k in with_names Check Check profile capture p c refl same.0 same.1 r
  shown_by words Check (Listing g) profile capture p c h k r = absurd (check_list h k.1)
  shown_by words Check Report profile capture p c h k r = absurd (check_report h k)
  shown_by words (Listing f) Check profile capture p c h k r = absurd (check_list k h.1)
  shown_by words (Listing f) (Listing g) profile capture p c h k r =
      let same = same_four h.1 k.1 in
      with_names (Listing f) (Listing g) profile capture p c (ap Listing (one_filter k.0 h.0 g f same.2 k.2 h.2)) same.0 same.1 r
  shown_by words (Listing f) Report profile capture p c h k r = absurd (list_report h.1 k)
  shown_by words Report Check profile capture p c h k r = absurd (check_report k h)
  shown_by words Report (Listing g) profile capture p c h k r = absurd (list_report k.1 h)
  shown_by words Report Report profile capture p c h k r = let same = same_words h k in with_names Report Report profile capture p c refl same.0 same.1 r

  pub of_command : {words : List (List ℕ)} (v : View) (profile capture : List ℕ) → IsCommand words v profile capture → Runs S T words old new out out' answer →
      Commanded S T v profile capture old new out out' answer
  of_command v profile capture is (no_command none same a) = absurd (none_by v profile capture is none)
  of_command v profile capture is (filter_refused filter e has bad same a) = absurd (refused_filter v profile capture filter e is has bad)
  of_command v profile capture is (no_filter filter has same none is9) = lacks same none is9 (lacking_filter v profile capture filter is has is9)
  of_command v profile capture is (shows w p c is' r) = shown_by _ v w profile capture p c is is' r
  of_command v profile capture is (tries n c is' same t) = absurd (command_trial v profile capture is is')

-- What came of a profile and a capture that are told.
pub data Came {H O : Type 0} (S : shelf.Ghosts H) (T : sink.Ghosts O) (v : View) (p : Profile) (profile capture bytes : List ℕ)
    (old new : H) (out out' : O) (answer : ℕ) : Type 0 where
  no_profile : ProfileUnread S profile old new → Answers T read_fault_text 7 out out' answer → Came S T v p profile capture bytes old new out out' answer
  lacking : out' ≡ out → answer ≡ 9 → Came S T v p profile capture bytes old new out out' answer
  cut_at : (read : List ℕ) → CutAt S p profile capture bytes read old new → Rose (S.faults old) (S.faults new)
      → Answers T (cut v p read) 7 out out' answer → Came S T v p profile capture bytes old new out out' answer
  whole : Answers T (output v p bytes) (status_of p bytes) out out' answer → Came S T v p profile capture bytes old new out out' answer

same_ok : (o : Option (Result Profile ProfileError)) (p q : Profile) → o ≡ Some (Ok p) → o ≡ Some (Ok q) → p ≡ q
same_ok o p q h k = cc

same_err : (o : Option (Result Profile ProfileError)) (d e : ProfileError) → o ≡ Some (Err d) → o ≡ Some (Err e) → d ≡ e
same_err o d e h k = cc

ok_err : (o : Option (Result Profile ProfileError)) (p : Profile) (e : ProfileError) → o ≡ Some (Ok p) → o ≡ Some (Err e) → ⊥
ok_err o p e h k = cc

some_none : {X : Type 0} {x : X} (o : Option X) → o ≡ Some x → o ≡ None → ⊥
some_none o h k = cc

is_none : {X : Type 0} (o : Option X) → IsSome o → o ≡ None → ⊥
is_none {X} o h k = never (subst IsSome k h)
  where
    never : (let n : Option X = None in IsSome n) → ⊥
    never m = cc

same_bytes : (o : Option (List ℕ)) (a b : List ℕ) → o ≡ Some a → o ≡ Some b → a ≡ b
same_bytes o a b h k = cc

pub came : {H O : Type 0} {S : shelf.Ghosts H} {T : sink.Ghosts O} {v : View} {profile capture : List ℕ} {old new : H} {out out' : O} {answer : ℕ} (p : Profile) (b : List ℕ) →
    Commanded S T v profile capture old new out out' answer → S.told old ≡ true → profile_under (S.file old) profile ≡ Some (Ok p) → S.file old capture ≡ Some b →
    Came S T v p profile capture b old new out out' answer
came p b (shown (profile_unread u a)) told source file = no_profile u a
came p b (shown (profile_refused e ne is r a)) told source file = absurd (ok_err _ p e source (some_text is told))
came p b (shown (no_memory r same is9)) told source file = lacking same is9
came p b (lacks same none is9 nf) told source file = lacking none is9
came {S = S} {T} {v} {profile} {capture} {old} {new} {out} {out'} {answer} p b (shown (profile_read q between is r j)) told source file =
    subst (λ (x : Profile). Came S T v x profile capture b old new out out' answer) (same_ok _ q p (some_text is told) source) (by j)
  where
    told-between : S.told between ≡ true
    told-between = r.still_told ∙ told

    file-between : S.file between capture ≡ Some b
    file-between = r.files capture ∙ file

    by : Judges S T v q capture between new out out' answer → Came S T v q profile capture b old new out out' answer
    by (judged bytes c a) =
        whole (subst (λ (x : List ℕ). Answers T (output v q x) (status_of q x) out out' answer) (same_bytes _ bytes b (c.is_file told-between) file-between) a)
    by (unread read c a) =
        cut_at read
        (record {
          opens = opens_both r c.reads.opens;
          read_of = record {
            from_file = λ o. sym file-between ∙ front_ahead read (S.file between capture) (S.rest new) (c.reads.from_file told-between o);
            nothing = c.reads.nothing;
          };
          size = c.size;
          none_refused = c.none_refused;
        })
        (subst (λ (n : ℕ). Rose n (S.faults new)) r.kept c.rose) a

pub not_judged : (n k : ℕ) → IsJudged n → k ≡ n → (k ≡ 7) ⊎ ((k ≡ 3) ⊎ ((k ≡ 9) ⊎ (k ≡ 2))) → ⊥
not_judged n k (inl low) e (inl h) = omega arith
not_judged n k (inl low) e (inr (inl h)) = omega arith
not_judged n k (inl low) e (inr (inr (inl h))) = omega arith
not_judged n k (inl low) e (inr (inr (inr h))) = omega arith
not_judged n k (inr mid) e (inl h) = omega (arith, mid.0, mid.1)
not_judged n k (inr mid) e (inr (inl h)) = omega (arith, mid.0, mid.1)
not_judged n k (inr mid) e (inr (inr (inl h))) = omega (arith, mid.0, mid.1)
not_judged n k (inr mid) e (inr (inr (inr h))) = omega (arith, mid.0, mid.1)

-- ---- of a profile and a capture that are told

module _ {H O : Type 0} {S : shelf.Ghosts H} {T : sink.Ghosts O} {v : View} {p : Profile} {profile capture b : List ℕ} {old new : H} {out out' : O} {answer : ℕ} where
  pub exact_by : Came S T v p profile capture b old new out out' answer → answer ≢ 7 → answer ≢ 8 → answer ≢ 9 →
      Gives (output v p b) (status_of p b) (T.written out) (T.written out') answer
  exact_by (no_profile u a) n7 n8 n9 = absurd (n7 (a.answered n8))
  exact_by (lacking same is9) n7 n8 n9 = absurd (n9 is9)
  exact_by (cut_at read c rose a) n7 n8 n9 = absurd (n7 (a.answered n8))
  exact_by (whole a) n7 n8 n9 = gives a n8

  pub clean_by : Came S T v p profile capture b old new out out' answer → answer ≡ 0 → RunsCleanly p b
  clean_by c is0 = clean_file p b (sym (exact_by c (λ h. omega arith) (λ h. omega arith) (λ h. omega arith)).1 ∙ is0)

  pub cut_short_by : Came S T v p profile capture b old new out out' answer → answer ≡ 7 →
      (ProfileUnread S profile old new × (T.written out' ≡ plus (T.written out) read_fault_text))
      ⊎ ((read : List ℕ) × CutAt S p profile capture b read old new × (T.written out' ≡ plus (T.written out) (cut v p read)))
  cut_short_by (no_profile u a) is7 = inl (u, a.written (λ h. omega arith))
  cut_short_by (lacking same is9) is7 = absurd (omega arith)
  cut_short_by (cut_at read c rose a) is7 = inr (read, c, a.written (λ h. omega arith))
  cut_short_by (whole a) is7 = absurd (not_judged _ answer (judged_status p b) (a.answered (λ h. omega arith)) (inl is7))

  pub part_by : Came S T v p profile capture b old new out out' answer → answer ≡ 8 →
      GivesPart T (output v p b) out out'
      ⊎ (Rose (S.faults old) (S.faults new) × ((ProfileUnread S profile old new × GivesPart T read_fault_text out out')
      ⊎ ((read : List ℕ) × CutAt S p profile capture b read old new × GivesPart T (cut v p read) out out')))
  part_by (no_profile u a) is8 = inr (u.rose, inl (u, gives_part a is8))
  part_by (lacking same is9) is8 = absurd (omega arith)
  part_by (cut_at read c rose a) is8 = inr (rose, inr (read, c, gives_part a is8))
  part_by (whole a) is8 = inl (gives_part a is8)

  pub complete_by : Came S T v p profile capture b old new out out' answer → IsUnrisen (S.faults old) (S.faults new) → IsUnrisen (T.faults out) (T.faults out') →
      (answer ≡ 9) ⊎ Gives (output v p b) (status_of p b) (T.written out) (T.written out') answer
  complete_by (no_profile u a) shelf_is out_is = absurd (not_risen _ _ shelf_is u.rose)
  complete_by (lacking same is9) shelf_is out_is = inl is9
  complete_by (cut_at read c rose a) shelf_is out_is = absurd (not_risen _ _ shelf_is rose)
  complete_by (whole a) shelf_is out_is =
      elim (cases_eq answer 8) [ inl is8 ↦ absurd (not_risen _ _ out_is (a.rose is8)) | inr n8 ↦ inr (gives a n8) ]

-- of a capture that isn't there nothing is read
none_read : {H : Type 0} {S : shelf.Ghosts H} {capture read : List ℕ} {between new : H} → Reads S capture read between new → S.told between ≡ true → S.file between capture ≡ None → read ≡ []
none_read {S = S} {read = read} {new = new} c told none = by (S.is_open new) refl
  where
    by : (o : Bool) → S.is_open new ≡ o → read ≡ []
    by true o = absurd (some_none _ (c.from_file told o).1 none)
    by false o = c.nothing o

absent : {H O : Type 0} {S : shelf.Ghosts H} {T : sink.Ghosts O} {v : View} {capture : List ℕ} {between new : H} {out out' : O} {answer : ℕ} (p : Profile) → Judges S T v p capture between new out out' answer → S.told between ≡ true → S.file between capture ≡ None →
    Answers T (nothing_read v p) 7 out out' answer
absent p (judged bytes c a) told none = absurd (some_none _ (c.is_file told) none)
absent {T = T} {v} {out = out} {out'} {answer} p (unread read c a) told none =
    subst (λ (l : List ℕ). Answers T l 7 out out' answer) (ap (cut v p) (none_read c.reads told none) ∙ cut_nothing v p) a

profile_there : (o : Option (List ℕ)) (c : Option (List ℕ)) → AreThere (option_map profile_of o) c → IsSome o
profile_there None c h = absurd h
profile_there (Some text) c h = refl

-- ---- of one command

module _ {H O : Type 0} {S : shelf.Ghosts H} {T : sink.Ghosts O} {v : View} {profile capture : List ℕ} {old new : H} {out out' : O} {answer : ℕ} where
  pub refused_by : (e : ProfileError) → Commanded S T v profile capture old new out out' answer → S.told old ≡ true → profile_under (S.file old) profile ≡ Some (Err e) →
      answer ≢ 7 → answer ≢ 8 → answer ≢ 9 → Gives (profile_error_text (number_of e)) 3 (T.written out) (T.written out') answer
  refused_by e (shown (profile_unread u a)) told source n7 n8 n9 = absurd (n7 (a.answered n8))
  refused_by e (shown (profile_refused d ne is r a)) told source n7 n8 n9 =
      subst (λ (x : ProfileError). Gives (profile_error_text (number_of x)) 3 (T.written out) (T.written out') answer) (same_err _ d e (some_text is told) source) (gives a n8)
  refused_by e (shown (no_memory r same is9)) told source n7 n8 n9 = absurd (n9 is9)
  refused_by e (shown (profile_read p between is r j)) told source n7 n8 n9 = absurd (ok_err _ p e (some_text is told) source)
  refused_by e (lacks same none is9 nf) told source n7 n8 n9 = absurd (n9 is9)

  pub refused_cut_by : (e : ProfileError) → Commanded S T v profile capture old new out out' answer → S.told old ≡ true → profile_under (S.file old) profile ≡ Some (Err e) →
      answer ≡ 7 → ProfileUnread S profile old new × (T.written out' ≡ plus (T.written out) read_fault_text)
  refused_cut_by e (shown (profile_unread u a)) told source is7 = (u, a.written (λ h. omega arith))
  refused_cut_by e (shown (profile_refused d ne is r a)) told source is7 = let k = a.answered (λ h. omega arith) in absurd (omega (arith, k))
  refused_cut_by e (shown (no_memory r same is9)) told source is7 = absurd (omega arith)
  refused_cut_by e (shown (profile_read p between is r j)) told source is7 = absurd (ok_err _ p e (some_text is told) source)
  refused_cut_by e (lacks same none is9 nf) told source is7 = absurd (omega arith)

  pub refused_part_by : (e : ProfileError) → Commanded S T v profile capture old new out out' answer → S.told old ≡ true → profile_under (S.file old) profile ≡ Some (Err e) →
      answer ≡ 8 → GivesPart T (profile_error_text (number_of e)) out out' ⊎ (ProfileUnread S profile old new × GivesPart T read_fault_text out out')
  refused_part_by e (shown (profile_unread u a)) told source is8 = inr (u, gives_part a is8)
  refused_part_by e (shown (profile_refused d ne is r a)) told source is8 =
      inl (subst (λ (x : ProfileError). GivesPart T (profile_error_text (number_of x)) out out') (same_err _ d e (some_text is told) source) (gives_part a is8))
  refused_part_by e (shown (no_memory r same is9)) told source is8 = absurd (omega arith)
  refused_part_by e (shown (profile_read p between is r j)) told source is8 = absurd (ok_err _ p e (some_text is told) source)
  refused_part_by e (lacks same none is9 nf) told source is8 = absurd (omega arith)

  pub no_profile_by : Commanded S T v profile capture old new out out' answer → S.told old ≡ true → profile_under (S.file old) profile ≡ None →
      FilterIsRead v answer → ProfileUnread S profile old new × Answers T read_fault_text 7 out out' answer
  no_profile_by (shown (profile_unread u a)) told source read = (u, a)
  no_profile_by (shown (profile_refused e ne is r a)) told source read = absurd (some_none _ (some_text is told) source)
  no_profile_by (shown (no_memory r same is9)) told source read = absurd (is_none _ (read_there r told) source)
  no_profile_by (shown (profile_read p between is r j)) told source read = absurd (some_none _ (some_text is told) source)
  no_profile_by (lacks same none is9 nf) told source read = absurd (nf read)

  pub no_capture_by : (p : Profile) → Commanded S T v profile capture old new out out' answer → S.told old ≡ true → profile_under (S.file old) profile ≡ Some (Ok p) →
      S.file old capture ≡ None → answer ≢ 9 →
      (ProfileUnread S profile old new × Answers T read_fault_text 7 out out' answer) ⊎ Answers T (nothing_read v p) 7 out out' answer
  no_capture_by p (shown (profile_unread u a)) told source none n9 = inl (u, a)
  no_capture_by p (shown (profile_refused e ne is r a)) told source none n9 = absurd (ok_err _ p e source (some_text is told))
  no_capture_by p (shown (no_memory r same is9)) told source none n9 = absurd (n9 is9)
  no_capture_by p (shown (profile_read q between is r j)) told source none n9 =
      inr (subst (λ (x : Profile). Answers T (nothing_read v x) 7 out out' answer) (same_ok _ q p (some_text is told) source)
      (absent q j (r.still_told ∙ told) (r.files capture ∙ none)))
  no_capture_by p (lacks same nothing is9 nf) told source none n9 = absurd (n9 is9)

  -- ---- over a sure shelf

  pub shelf_sure_by : Commanded S T v profile capture old new out out' answer → S.told old ≡ true → S.sure old ≡ true →
      AreThere (profile_under (S.file old) profile) (S.file old capture) → S.faults new ≡ S.faults old
  shelf_sure_by (shown (profile_unread u a)) told sure there =
      absurd (u.not_sure sure (profile_there (S.file old profile) (S.file old capture)
      (subst (λ (o : Option (Result Profile ProfileError)). AreThere o (S.file old capture)) (under_file (S.file old) profile u.is_file) there)))
  shelf_sure_by (shown (profile_refused e ne is r a)) told sure there = r.kept
  shelf_sure_by (shown (no_memory r same is9)) told sure there = r.kept
  shelf_sure_by (shown (profile_read p between is r (judged bytes c a))) told sure there = c.kept ∙ r.kept
  shelf_sure_by (shown (profile_read p between is r (unread read c a))) told sure there =
      let here : IsSome (S.file old capture) = subst (λ (o : Option (Result Profile ProfileError)). AreThere o (S.file old capture)) (some_text is told) there in
      absurd (c.not_sure (r.still_sure sure) (subst IsSome (sym (r.files capture)) here))
  shelf_sure_by (lacks same none is9 nf) told sure there = ap S.faults same

  pub sink_room_by : Commanded S T v profile capture old new out out' answer → S.told old ≡ true → S.sure old ≡ true →
      HasRoom (T.room out) (length (whole_text v (profile_under (S.file old) profile) (S.file old capture))) → T.faults out' ≡ T.faults out
  sink_room_by (shown (profile_unread u a)) told sure room =
      kept_if_room a (subst (λ (o : Option (Result Profile ProfileError)). HasRoom (T.room out) (length (whole_text v o (S.file old capture)))) (unread_none u sure) room)
  sink_room_by (shown (profile_refused e ne is r a)) told sure room =
      kept_if_room a (subst (λ (o : Option (Result Profile ProfileError)). HasRoom (T.room out) (length (whole_text v o (S.file old capture)))) (some_text is told) room)
  sink_room_by (shown (no_memory r same is9)) told sure room = ap T.faults same
  sink_room_by (lacks same none is9 nf) told sure room = ap T.faults none
  sink_room_by (shown (profile_read p between is r j)) told sure room = by j
    where
      room-ok : HasRoom (T.room out) (length (whole_text v (Some (Ok p)) (S.file old capture)))
      room-ok = subst (λ (o : Option (Result Profile ProfileError)). HasRoom (T.room out) (length (whole_text v o (S.file old capture)))) (some_text is told) room

      by : Judges S T v p capture between new out out' answer → T.faults out' ≡ T.faults out
      by (judged bytes c a) =
          kept_if_room a (subst (λ (o : Option (List ℕ)). HasRoom (T.room out) (length (whole_text v (Some (Ok p)) o)))
          (sym (r.files capture) ∙ c.is_file (r.still_told ∙ told)) room-ok)
      by (unread read c a) =
          let none : S.file between capture ≡ None = none_there (S.file between capture) (c.not_sure (r.still_sure sure)) in
          kept_if_room (absent p (unread read c a) (r.still_told ∙ told) none)
          (subst (λ (o : Option (List ℕ)). HasRoom (T.room out) (length (whole_text v (Some (Ok p)) o))) (sym (r.files capture) ∙ none) room-ok)
