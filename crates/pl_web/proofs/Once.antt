-- A repeated upload finds its row, and changes nothing.
use Rattle.std.proofs.Common.{◌≡◌, ℕ, List, [], ◌∷◌, ◌++◌, Bool, true, false, cond, refl, ap, sym}
use Rattle.std.proofs.Common.{◌∙◌, length, take, subst}
use Rattle.std.specs.Prelude.{◌&&◌, nat_lt, bytes_eq, Option, Some, None, Result, Ok, Err}
use Rattle.std.specs.Prelude.{option_map}
use Rattle.std.specs.Option.{option_or}
use Rattle.std.specs.List.{find}
use Rattle.std.proofs.lemmas.List.Folds.{find-append}
use Rattle.std.proofs.lemmas.Slice.Eq.{bytes_eq-Decides}
use Rattle.pl_capture.specs.Reading.{reading}
use Rattle.pl_engine.specs.Judged.{judged_items, judged_verdicts}
use Rattle.pl_head.specs.declared.status.Status.TheVariants.{Success}
use Rattle.pl_keeper.specs.Archive.{Archive, Profile, Capture, profile_at, capture_at}
use Rattle.pl_keeper.specs.Archive.{is_profile, is_capture, profiles_of, captures_of}
use Rattle.pl_keeper.specs.Archive.{with_profile, with_capture}
use Rattle.pl_keeper.specs.Puts.{compared, first_difference, profile_put}
use Rattle.pl_keeper.specs.Puts.{capture_put, put_of_profile, put_of_capture, after_profile}
use Rattle.pl_keeper.specs.Puts.{after_capture}
use Rattle.pl_keeper.specs.declared.keeper.Put.{Put}
use Rattle.pl_keeper.specs.declared.keeper.Put.TheVariants.{New, Same, OtherProfile, OtherBytes}
use Rattle.pl_keeper.specs.declared.keeper.Put.TheVariants.{NoProfile, Full}
use Rattle.pl_profile.specs.ProfileOf.{profile_of}
use Rattle.pl_profile.specs.declared.error.ProfileError.{ProfileError}
use Rattle.pl_profile.specs.declared.profile.Profile.{Profile as PortProfile}
use Rattle.pl_web.specs.Answer.{Answer, Outcome, json, unanswered}
use Rattle.pl_web.specs.Bodies.{profile_body, capture_body}
use Rattle.pl_web.specs.Judging.{Finding, judged, unjudged, finding}
use Rattle.pl_web.specs.Laws.{ActsOnce, Grows, is_stored, is_upload}
use Rattle.pl_web.specs.Outcome.{outcome_of}
use Rattle.pl_web.specs.Puts.{put_answer, profile_stored, profile_sent, capture_stored}
use Rattle.pl_web.specs.Puts.{capture_found, capture_sent}
use Rattle.pl_web.proofs.Unstored.{IsUnstored, unstored}
use Rattle.pl_web.specs.Requests.{Asked, put_profile, put_capture, list_captures}
use Rattle.pl_web.specs.Requests.{get_capture, get_verdicts, get_hits, refused}
use Rattle.pl_web.proofs.Growing.{grows_none, grows_capture, grows_then, behind_found}

some_is : {A : Type 0} {x y : A} → Some x ≡ Some y → x ≡ y
some_is h = cc

-- it leaves the rows, and answers the same with another status
record Repeats (now : Archive) (answer : Answer) (o : Outcome) : Type 0 where
  unchanged : o.rows ≡ now
  repeated : o.answer ≡ Some (record answer { status = Success })

-- ---- the row that was put is there

record HasProfile (a : Archive) (p : Profile) : Type 0 where
  row : Profile
  found : profile_at a p.bench p.name ≡ Some row
  same_bytes : bytes_eq row.bytes p.bytes ≡ true

record HasCapture (a : Archive) (c : Capture) : Type 0 where
  row : Capture
  found : capture_at a c.bench c.key ≡ Some row
  same_profile : bytes_eq row.profile c.profile ≡ true
  same_bytes : bytes_eq row.bytes c.bytes ≡ true

is_itself : (text : List ℕ) → bytes_eq text text ≡ true
is_itself text = (bytes_eq-Decides text text).1 refl

-- what was found is found with more rows behind
still_found : {X : Type 0} (is : X → Bool) (rows more now : List X) (x : X) → now ≡ rows ++ more
    → find is rows ≡ Some x → find is now ≡ Some x
still_found is rows more now x grown found =
    ap (find is) grown ∙ find-append is rows more ∙ ap (λ o. option_or o (find is more)) found

-- and where nothing was, the new row
now_found : {X : Type 0} (is : X → Bool) (rows : List X) (x : X) → find is rows ≡ None
    → is x ≡ true → find is (rows ++ x ∷ []) ≡ Some x
now_found is rows x none passes =
    find-append is rows (x ∷ []) ∙ ap (λ o. option_or o (find is (x ∷ []))) none
    ∙ ap (λ b. cond b (Some x) None) passes

grown_profile : (a now : Archive) (bench name : List ℕ) (p : Profile) → Grows a now
    → profile_at a bench name ≡ Some p → profile_at now bench name ≡ Some p
grown_profile a now bench name p g found =
    still_found (is_profile bench name) a.profiles g.profiles now.profiles p g.more_profiles found

profile_stays : (a now : Archive) (p : Profile) → Grows a now → HasProfile a p → HasProfile now p
profile_stays a now p g has = record {
  row = has.row;
  found = grown_profile a now p.bench p.name has.row g has.found;
  same_bytes = has.same_bytes;
}

capture_stays : (a now : Archive) (c : Capture) → Grows a now → HasCapture a c → HasCapture now c
capture_stays a now c g has = record {
  row = has.row;
  found =
      still_found (is_capture c.bench c.key) a.captures g.captures now.captures has.row
      g.more_captures has.found;
  same_profile = has.same_profile;
  same_bytes = has.same_bytes;
}

profile_added : (a : Archive) (p : Profile) → profile_at a p.bench p.name ≡ None
    → HasProfile (with_profile a p) p
profile_added a p none = record {
  row = p;
  found =
      now_found (is_profile p.bench p.name) a.profiles p none
      (ap (λ b. b && bytes_eq p.name p.name) (is_itself p.bench) ∙ is_itself p.name);
  same_bytes = is_itself p.bytes;
}

capture_added : (a : Archive) (c : Capture) → capture_at a c.bench c.key ≡ None
    → HasCapture (with_capture a c) c
capture_added a c none = record {
  row = c;
  found =
      now_found (is_capture c.bench c.key) a.captures c none
      (ap (λ b. b && bytes_eq c.key c.key) (is_itself c.bench) ∙ is_itself c.key);
  same_profile = is_itself c.profile;
  same_bytes = is_itself c.bytes;
}

-- ---- a put is new only where nothing was, and the same only where it was there

compared_same : (old new : List ℕ) (b : Bool) → bytes_eq old new ≡ b
    → cond b Same (OtherBytes (length old) (first_difference old new)) ≡ Same
    → bytes_eq old new ≡ true
compared_same old new true is same = is
compared_same old new false is same = cc

compared_old : (old new : List ℕ) (b : Bool)
    → cond b Same (OtherBytes (length old) (first_difference old new)) ≡ New → ⊥
compared_old old new true is = cc
compared_old old new false is = cc

room_new : (b : Bool) → cond b New Full ≡ Same → ⊥
room_new true is = cc
room_new false is = cc

new_profile : (found : Option Profile) (count : ℕ) (bytes : List ℕ)
    → profile_put found count bytes ≡ New → found ≡ None
new_profile None count bytes is = refl
new_profile (Some p) count bytes is =
    absurd (compared_old p.bytes bytes (bytes_eq p.bytes bytes) is)

same_profile : (a : Archive) (p : Profile) (found : Option Profile) (count : ℕ)
    → profile_at a p.bench p.name ≡ found → profile_put found count p.bytes ≡ Same
    → HasProfile a p
same_profile a p None count there is = absurd (room_new (nat_lt count 16) is)
same_profile a p (Some row) count there is = record {
  row = row;
  found = there;
  same_bytes = compared_same row.bytes p.bytes (bytes_eq row.bytes p.bytes) refl is;
}

over_new : (row : Capture) (profile bytes : List ℕ) (b : Bool)
    → cond b (compared row.bytes bytes) OtherProfile ≡ New → ⊥
over_new row profile bytes true is =
    compared_old row.bytes bytes (bytes_eq row.bytes bytes) is
over_new row profile bytes false is = cc

new_capture : (found : Option Capture) (owner : Option Profile) (count : ℕ)
    (profile bytes : List ℕ) → capture_put found owner count profile bytes ≡ New → found ≡ None
new_capture None owner count profile bytes is = refl
new_capture (Some row) owner count profile bytes is =
    absurd (over_new row profile bytes (bytes_eq row.profile profile) is)

over_same : (a : Archive) (c row : Capture) (b : Bool) → capture_at a c.bench c.key ≡ Some row
    → bytes_eq row.profile c.profile ≡ b → cond b (compared row.bytes c.bytes) OtherProfile ≡ Same
    → HasCapture a c
over_same a c row true there owner is = record {
  row = row;
  found = there;
  same_profile = owner;
  same_bytes = compared_same row.bytes c.bytes (bytes_eq row.bytes c.bytes) refl is;
}
over_same a c row false there owner is = cc

same_capture : (a : Archive) (c : Capture) (found : Option Capture) (owner : Option Profile)
    (count : ℕ) → capture_at a c.bench c.key ≡ found
    → capture_put found owner count c.profile c.bytes ≡ Same → HasCapture a c
same_capture a c None None count there is = cc
same_capture a c None (Some p) count there is = absurd (room_new (nat_lt count 64) is)
same_capture a c (Some row) owner count there is =
    over_same a c row (bytes_eq row.profile c.profile) there refl is

-- ---- so the row is there behind a put that stored it, and a put that finds it changes nothing

profile_there : (a : Archive) (p : Profile) (put : Put) (row : List ℕ) (sent most : ℕ)
    → put_of_profile a p ≡ put → is_stored (put_answer row sent most put).status ≡ true
    → HasProfile (after_profile put a p) p
profile_there a p New row sent most is stored =
    profile_added a p (new_profile (profile_at a p.bench p.name)
    (length (profiles_of a p.bench)) p.bytes is)
profile_there a p Same row sent most is stored =
    same_profile a p (profile_at a p.bench p.name) (length (profiles_of a p.bench)) refl is
profile_there a p OtherProfile row sent most is stored = cc
profile_there a p (OtherBytes size place) row sent most is stored = cc
profile_there a p NoProfile row sent most is stored = cc
profile_there a p Full row sent most is stored = cc

capture_there : (a : Archive) (c : Capture) (put : Put) (row : List ℕ) (sent most : ℕ)
    → put_of_capture a c ≡ put → is_stored (put_answer row sent most put).status ≡ true
    → HasCapture (after_capture put a c) c
capture_there a c New row sent most is stored =
    capture_added a c (new_capture (capture_at a c.bench c.key) (profile_at a c.bench c.profile)
    (length (captures_of a c.bench)) c.profile c.bytes is)
capture_there a c Same row sent most is stored =
    same_capture a c (capture_at a c.bench c.key) (profile_at a c.bench c.profile)
    (length (captures_of a c.bench)) refl is
capture_there a c OtherProfile row sent most is stored = cc
capture_there a c (OtherBytes size place) row sent most is stored = cc
capture_there a c NoProfile row sent most is stored = cc
capture_there a c Full row sent most is stored = cc

found_same : (old new : List ℕ) → bytes_eq old new ≡ true → compared old new ≡ Same
found_same old new same =
    ap (λ b. cond b Same (OtherBytes (length old) (first_difference old new))) same

finds_profile : (a : Archive) (p : Profile) → HasProfile a p → put_of_profile a p ≡ Same
finds_profile a p has =
    ap (λ found. profile_put found (length (profiles_of a p.bench)) p.bytes) has.found
    ∙ found_same has.row.bytes p.bytes has.same_bytes

finds_capture : (a : Archive) (c : Capture) → HasCapture a c → put_of_capture a c ≡ Same
finds_capture a c has =
    ap (λ found. capture_put found (profile_at a c.bench c.profile)
    (length (captures_of a c.bench)) c.profile c.bytes) has.found
    ∙ ap (λ b. cond b (compared has.row.bytes c.bytes) OtherProfile) has.same_profile
    ∙ found_same has.row.bytes c.bytes has.same_bytes

-- the reply to Same is that to the put before, with its own status
same_reply : (row : List ℕ) (sent most : ℕ) (put : Put)
    → is_stored (put_answer row sent most put).status ≡ true
    → json Success row ≡ record (put_answer row sent most put) { status = Success }
same_reply row sent most New stored = refl
same_reply row sent most Same stored = refl
same_reply row sent most OtherProfile stored = cc
same_reply row sent most (OtherBytes size place) stored = cc
same_reply row sent most NoProfile stored = cc
same_reply row sent most Full stored = cc

stored_as : (first answer : Answer) → first ≡ answer → is_stored answer.status ≡ true
    → is_stored first.status ≡ true
stored_as first answer same stored = ap (λ (a : Answer). is_stored a.status) same ∙ stored

-- ---- a profile

profile_once : (old now : Archive) (p : Profile) (put : Put) (answer : Answer)
    → put_of_profile old p ≡ put → (profile_stored old p put).answer ≡ Some answer
    → is_stored answer.status ≡ true → Grows (after_profile put old p) now
    → Repeats now answer (profile_stored now p (put_of_profile now p))
profile_once old now p put answer is said stored grown =
    let row = profile_body p.bench p.name in
    let sent = length p.bytes in
    let first : put_answer row sent 16 put ≡ answer = some_is said in
    let as_first : is_stored (put_answer row sent 16 put).status ≡ true =
    stored_as (put_answer row sent 16 put) answer first stored in
    let there : HasProfile now p =
    profile_stays (after_profile put old p) now p grown
    (profile_there old p put row sent 16 is as_first) in
    let again : put_of_profile now p ≡ Same = finds_profile now p there in
    record {
      unchanged = ap (λ q. after_profile q now p) again;
      repeated =
          ap (λ q. Some (put_answer row sent 16 q)) again
          ∙ ap Some (same_reply row sent 16 put as_first)
          ∙ ap (λ (a : Answer). Some (record a { status = Success })) first;
    }

profile_sent_once : (old now : Archive) (p : Profile) (read : Result PortProfile ProfileError)
    (answer : Answer) → (profile_sent old p read).answer ≡ Some answer
    → is_stored answer.status ≡ true → Grows (profile_sent old p read).rows now
    → Repeats now answer (profile_sent now p read)
profile_sent_once old now p (Ok profile) answer said stored grown =
    profile_once old now p (put_of_profile old p) answer refl said stored grown
profile_sent_once old now p (Err error) answer said stored grown =
    cc (stored_as _ answer (some_is said) stored)

-- ---- a capture

capture_once : (old now : Archive) (c : Capture) (items verdicts : ℕ) (put : Put)
    (answer : Answer)
    → put_of_capture old c ≡ put → (capture_stored old c items verdicts put).answer ≡ Some answer
    → is_stored answer.status ≡ true → Grows (after_capture put old c) now
    → Repeats now answer (capture_stored now c items verdicts (put_of_capture now c))
capture_once old now c items verdicts put answer is said stored grown =
    let row = capture_body c.bench c.key c.profile items verdicts in
    let sent = length c.bytes in
    let first : put_answer row sent 64 put ≡ answer = some_is said in
    let as_first : is_stored (put_answer row sent 64 put).status ≡ true =
    stored_as (put_answer row sent 64 put) answer first stored in
    let there : HasCapture now c =
    capture_stays (after_capture put old c) now c grown
    (capture_there old c put row sent 64 is as_first) in
    let again : put_of_capture now c ≡ Same = finds_capture now c there in
    record {
      unchanged = ap (λ q. after_capture q now c) again;
      repeated =
          ap (λ q. Some (put_answer row sent 64 q)) again
          ∙ ap Some (same_reply row sent 64 put as_first)
          ∙ ap (λ (a : Answer). Some (record a { status = Success })) first;
    }

found_once : (old now : Archive) (c : Capture) (f : Finding) (answer : Answer) → IsUnstored f
    → (capture_found old c f).answer ≡ Some answer → is_stored answer.status ≡ true
    → Grows (capture_found old c f).rows now → Repeats now answer (capture_found now c f)
found_once old now c (judged profile) answer un said stored grown =
    capture_once old now c (length (judged_items profile (reading c.bytes)))
    (length (judged_verdicts profile (reading c.bytes))) (put_of_capture old c) answer refl said
    stored grown
found_once old now c (unjudged other) answer un said stored grown =
    cc (stored_as other answer (some_is said) stored)

abbrev text_of : Option Profile → Option (List ℕ)
text_of found = option_map (λ p. p.bytes) found

-- the profile that was there is there
capture_sent_by : (old now : Archive) (c : Capture) (owner : Option Profile) (answer : Answer)
    → profile_at old c.bench c.profile ≡ owner
    → (capture_found old c (finding (text_of owner) c.bytes)).answer ≡ Some answer
    → is_stored answer.status ≡ true
    → Grows (capture_found old c (finding (text_of owner) c.bytes)).rows now
    → Repeats now answer (capture_sent now c)
capture_sent_by old now c None answer owned said stored grown =
    cc (stored_as _ answer (some_is said) stored)
capture_sent_by old now c (Some p) answer owned said stored grown =
    let f = finding (Some p.bytes) c.bytes in
    let all : Grows old now =
    grows_then old (capture_found old c f).rows now
    (behind_found old (Grows old) (grows_none old) c f (grows_capture old c)) grown in
    let there : profile_at now c.bench c.profile ≡ Some p =
    grown_profile old now c.bench c.profile p all owned in
    subst (λ found. Repeats now answer (capture_found now c (finding (text_of found) c.bytes)))
    (sym there)
    (found_once old now c f answer (unstored (Some p.bytes) c.bytes) said stored grown)

-- ---- with its body

body_once : (old now : Archive) (few : Bool) (f g : Outcome) (answer : Answer)
    → (f.answer ≡ Some answer → Grows f.rows now → Repeats now answer g)
    → (cond few (unanswered old) f).answer ≡ Some answer
    → Grows (cond few (unanswered old) f).rows now
    → Repeats now answer (cond few (unanswered now) g)
body_once old now true f g answer once said grown = cc
body_once old now false f g answer once said grown = once said grown

acts : (rest : List ℕ) (asked : Asked) (old now : Archive) (answer : Answer)
    → Repeats now answer (outcome_of now rest asked) → ActsOnce asked rest old now answer
acts rest asked old now answer repeats = record {
  unchanged = repeats.unchanged;
  repeated = repeats.repeated;
}

pub once : (old now : Archive) (rest : List ℕ) (asked : Asked) (answer : Answer)
    → is_upload asked ≡ true → (outcome_of old rest asked).answer ≡ Some answer
    → is_stored answer.status ≡ true → Grows (outcome_of old rest asked).rows now
    → ActsOnce asked rest old now answer
once old now rest (put_profile bench name size) answer upload said stored grown =
    let bytes = take size rest in
    let p : Profile = record { bench = bench; name = name; bytes = bytes } in
    acts rest (put_profile bench name size) old now answer
    (body_once old now (nat_lt (length rest) size) (profile_sent old p (profile_of bytes))
    (profile_sent now p (profile_of bytes)) answer
    (λ says more. profile_sent_once old now p (profile_of bytes) answer says stored more)
    said grown)
once old now rest (put_capture bench profile key size) answer upload said stored grown =
    let bytes = take size rest in
    let c : Capture = record { bench = bench; key = key; profile = profile; bytes = bytes } in
    acts rest (put_capture bench profile key size) old now answer
    (body_once old now (nat_lt (length rest) size) (capture_sent old c) (capture_sent now c) answer
    (λ says more. capture_sent_by old now c (profile_at old bench profile) answer refl says stored
    more) said grown)
once old now rest (list_captures bench) answer upload said stored grown = cc
once old now rest (get_capture bench key) answer upload said stored grown = cc
once old now rest (get_verdicts bench key) answer upload said stored grown = cc
once old now rest (get_hits bench rule) answer upload said stored grown = cc
once old now rest (refused refusal) answer upload said stored grown = cc
