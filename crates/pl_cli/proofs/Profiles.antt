-- The text of a profile, and what it names.
use Rattle.std.proofs.Common.{◌≡◌, ◌≢◌, ◌++◌, ◌+◌, ◌<◌, ◌⊎◌, inl, inr, List, ℕ, [], Bool, true, false, refl, ap, ◌∙◌, sym, length, append-nil, length-append, arith, subst, Option, Some, None, IsSome, Result, Ok, Err}
use Rattle.std.proofs.lemmas.Grind.{common_steps}
use Rattle.std.proofs.lemmas.Bool.Decides.{nat_tests}
use Rattle.pl_io.specs.declared.shelf.Shelf as shelf
use Rattle.pl_io.specs.Faults.{Rose, raised}
use Rattle.pl_io.specs.Told.{ahead, AtEnd}
use Rattle.pl_profile.specs.declared.error.ProfileError.{ProfileError}
use Rattle.pl_profile.specs.declared.error.ProfileError.TheVariants.{NotToml, UnknownKey, WrongType, OutOfRange, TooLong, Memory}
use Rattle.pl_profile.specs.declared.profile.Profile.{Profile}
use Rattle.pl_profile.specs.ProfileOf.{longest_text, profile_of, usual_profile}
use Rattle.pl_cli.specs.declared.profile.NoProfile.{NoProfile}
use Rattle.pl_cli.specs.declared.profile.NoProfile.TheVariants.{Unreadable, Refused}
use Rattle.pl_cli.specs.Promise.{IsBegun, IsFront, Opens, ProfileUnread, is_dash}
use Rattle.pl_cli.specs.Source.{IfReadable, IfUnreadable, IsNamed, IsOfText, IsReadable, IsText, ProfileCame, ProfileCause, Refuses}
use Rattle.pl_cli.proofs.Ends.{rest_told}
use Rattle.pl_cli.proofs.Files.{front_of}

too_long : (text : List ℕ) → longest_text < length text → profile_of text ≡ Err TooLong
unfolding profile_of
too_long text lt = grind (arith, nat_tests, common_steps)

-- a front that is too long is refused as the whole is
pub front_refused : (whole text : List ℕ) (rest rest' : Option (List ℕ)) → rest ≡ Some whole → IsText text rest rest' → profile_of whole ≡ profile_of text
front_refused whole text rest rest' told is =
    let q : (left : List ℕ) × (rest' ≡ Some left) × (whole ≡ text ++ left) = rest_told text whole rest' (sym told ∙ is.rest_is) in
    by_end q.0 q.1 q.2 is.enough
  where
    at_end : (left : List ℕ) → rest' ≡ Some left → AtEnd rest' → left ≡ []
    at_end left h k = let m : AtEnd (Some left) = subst AtEnd h k in m

    by_end : (left : List ℕ) → rest' ≡ Some left → whole ≡ text ++ left → AtEnd rest' ⊎ (length text ≡ longest_text + 1) → profile_of whole ≡ profile_of text
    by_end left h w (inl k) = ap profile_of (w ∙ ap (λ (l : List ℕ). text ++ l) (at_end left h k) ∙ append-nil text)
    by_end left h w (inr k) =
        too_long whole (omega (arith, k, ap (λ (l : List ℕ). length l) w, length-append text left)) ∙ sym (too_long text (omega (arith, k)))

-- a profile that was read, or its refusal
pub named_ok : (text : List ℕ) (p : Profile) → (let r : Result Profile ProfileError = Ok p in r ≢ Err Memory → r ≡ profile_of text) → Some (profile_of text) ≡ Some (Ok p)
named_ok text p exact = ap Some (sym (exact (λ e. cc)))

pub named_err : (text : List ℕ) (e : ProfileError) → (let r : Result Profile ProfileError = Err e in r ≢ Err Memory → r ≡ profile_of text) → Refuses (Some (profile_of text)) e
named_err text NotToml exact = ap Some (sym (exact (λ e. cc)))
named_err text UnknownKey exact = ap Some (sym (exact (λ e. cc)))
named_err text WrongType exact = ap Some (sym (exact (λ e. cc)))
named_err text OutOfRange exact = ap Some (sym (exact (λ e. cc)))
named_err text TooLong exact = ap Some (sym (exact (λ e. cc)))
named_err text Memory exact = refl

pub named_front : (whole text given : List ℕ) (rest rest' : Option (List ℕ)) (r : Result Profile NoProfile) → rest ≡ Some whole → IsText text rest rest' → given ≡ text →
    IsNamed (Some (profile_of given)) r → IsNamed (Some (profile_of whole)) r
named_front whole text given rest rest' r told is same named =
    subst (λ (x : Result Profile ProfileError). IsNamed (Some x) r) (ap profile_of same ∙ sym (front_refused whole text rest rest' told is)) named

-- the text that a profile is of, from what was read of its file
pub of_text_read : (text given : List ℕ) (rest rest' : Option (List ℕ)) (r : Result Profile NoProfile) → IsText text rest rest' → given ≡ text →
    IsNamed (Some (profile_of given)) r → IsOfText r rest
of_text_read text given None rest' r is same named = (given, λ whole h. absurd cc, named)
of_text_read text given (Some whole) rest' r is same named = (whole, λ other h. cc, named_front whole text given (Some whole) rest' r refl is same named)

-- nor is one refused that couldn't be read, or for want of memory
pub of_text_none : (none : NoProfile) (rest : Option (List ℕ)) → (none ≡ Unreadable) ⊎ (none ≡ Refused Memory) →
    (let r : Result Profile NoProfile = Err none in IsOfText r rest)
of_text_none none rest h = by rest
  where
    named : (text : List ℕ) (x : NoProfile) → (x ≡ Unreadable) ⊎ (x ≡ Refused Memory) → (let r : Result Profile NoProfile = Err x in IsNamed (Some (profile_of text)) r)
    named text x (inl is) = subst (λ (y : NoProfile). let r : Result Profile NoProfile = Err y in IsNamed (Some (profile_of text)) r) (sym is) tt
    named text x (inr is) = subst (λ (y : NoProfile). let r : Result Profile NoProfile = Err y in IsNamed (Some (profile_of text)) r) (sym is) refl

    by : (o : Option (List ℕ)) → (let r : Result Profile NoProfile = Err none in IsOfText r o)
    by None = ([], λ whole k. absurd cc, named [] none h)
    by (Some whole) = (whole, λ other k. cc, named whole none h)

-- ---- the profile that a word names

refuses_is : (x : Result Profile ProfileError) (e : ProfileError) → e ≢ Memory → Refuses (Some x) e → x ≡ Err e
refuses_is x NotToml ne h = cc
refuses_is x UnknownKey ne h = cc
refuses_is x WrongType ne h = cc
refuses_is x OutOfRange ne h = cc
refuses_is x TooLong ne h = cc
refuses_is x Memory ne h = absurd (ne refl)

some_is : (x y : Result Profile ProfileError) → (let o : Option (Result Profile ProfileError) = Some x in o ≡ Some y) → y ≡ x
some_is x y h = cc

not_both : (b : Bool) → b ≡ true → b ≡ false → ⊥
not_both b h k = cc

-- what an opening of the profile's file and the reading of it say
pub record FromFile {H : Type 0} (S : shelf.Ghosts H) (name : List ℕ) (old new : H) (r : Result Profile NoProfile) : Type 0 where
  pub is_file : is_dash name ≡ false
  pub opens : Opens S name old new
  pub is_open : S.is_open new ≡ true
  pub of_text : (text : List ℕ) × (S.told old ≡ true → S.file old name ≡ Some text) × IsNamed (Some (profile_of text)) r
  pub front : S.told old ≡ true → IfReadable r (IsBegun (S.file old name) (S.rest new))
  pub unread : IfUnreadable r ((read : List ℕ) × (S.told old ≡ true → IsFront read (S.file old name) (S.rest new)))
  pub cause : ProfileCause r (S.faults old) (S.faults new)
  pub still_told : S.told new ≡ S.told old
  pub files : (other : List ℕ) → S.file new other ≡ S.file old other
  pub still_sure : IfReadable r (S.sure old ≡ true → S.sure new ≡ true)
  pub sure : S.sure old ≡ true → IsSome (S.file old name) → IsReadable r

pub came : {H : Type 0} {S : shelf.Ghosts H} {name : List ℕ} {old new : H} (r : Result Profile NoProfile) → FromFile S name old new r → ProfileCame S name old new r
came (Ok profile) f = (
  record {
    dash = λ d. absurd (not_both _ d f.is_file);
    file = λ _. (f.of_text.0, some_is _ _ f.of_text.2, f.of_text.1);
  },
  record {
    dash = λ d. absurd (not_both _ d f.is_file);
    opens = λ _. f.opens;
    is_open = λ _. f.is_open;
    front = λ _. f.front;
    kept = f.cause;
    still_told = f.still_told;
    files = f.files;
    still_sure = f.still_sure;
  },
)
came (Err (Refused e)) f = (
  λ ne. record {
    dash = λ d. absurd (not_both _ d f.is_file);
    file = λ _. (f.of_text.0, sym (refuses_is _ e ne f.of_text.2), f.of_text.1);
  },
  record {
    dash = λ d. absurd (not_both _ d f.is_file);
    opens = λ _. f.opens;
    is_open = λ _. f.is_open;
    front = λ _. f.front;
    kept = f.cause;
    still_told = f.still_told;
    files = f.files;
    still_sure = f.still_sure;
  },
)
came (Err Unreadable) f = record {
  is_file = f.is_file;
  read = f.unread.0;
  reads = record { opens = f.opens; nothing = λ closed. absurd (not_both _ f.is_open closed); from_file = λ t o. f.unread.1 t };
  rose = f.cause;
  not_sure = f.sure;
}

ok_same : (p q : Profile) → p ≡ q → (let x : Result Profile ProfileError = Ok p in x ≡ Ok q)
ok_same p q h = cc

-- the usual one
pub came_usual : {H : Type 0} {S : shelf.Ghosts H} {name : List ℕ} {old : H} (p : Profile) → p ≡ usual_profile → is_dash name ≡ true →
    (let r : Result Profile NoProfile = Ok p in ProfileCame S name old old r)
came_usual p usual d = (
  record { dash = λ _. ok_same p usual_profile usual; file = λ f. absurd (not_both _ d f) },
  record {
    dash = λ _. refl;
    opens = λ f. absurd (not_both _ d f);
    is_open = λ f. absurd (not_both _ d f);
    front = λ f. absurd (not_both _ d f);
    kept = refl;
    still_told = refl;
    files = λ _. refl;
    still_sure = λ s. s;
  },
)

-- one whose file couldn't be opened
pub came_unopened : {H : Type 0} {S : shelf.Ghosts H} {name : List ℕ} {old new : H} → is_dash name ≡ false → S.opens new ≡ raised (S.opens old) →
    S.is_open new ≡ false → Rose (S.faults old) (S.faults new) → (S.sure old ≡ true → IsSome (S.file old name) → ⊥) → ProfileUnread S name old new
came_unopened file once closed rose never = record {
  is_file = file;
  read = [];
  reads = record {
    opens = record { once = once; named = λ t o. absurd (not_both _ o closed) };
    nothing = λ _. refl;
    from_file = λ t o. absurd (not_both _ o closed);
  };
  rose = rose;
  not_sure = never;
}

pub readable_map : {P Q : Type 0} (r : Result Profile NoProfile) → (P → Q) → IfReadable r P → IfReadable r Q
readable_map (Ok profile) f h = f h
readable_map (Err (Refused e)) f h = f h
readable_map (Err Unreadable) f h = h

-- the text of a file that is told
pub told_text : (text : List ℕ) (file rest : Option (List ℕ)) → IsSome rest × (rest ≡ file) → ((whole : List ℕ) → rest ≡ Some whole → text ≡ whole) → file ≡ Some text
told_text text file None w h = absurd (never w.0)
  where
    never : (let o : Option (List ℕ) = None in IsSome o) → ⊥
    never k = cc
told_text text file (Some whole) w h = sym w.1 ∙ ap Some (sym (h whole refl))

-- what was read of it
pub unread_front : (r : Result Profile NoProfile) (file rest rest' : Option (List ℕ)) (told : Type 0) → (told → IsSome rest × (rest ≡ file)) →
    IfUnreadable r ((read : List ℕ) × (rest ≡ ahead read rest')) → IfUnreadable r ((read : List ℕ) × (told → IsFront read file rest'))
unread_front (Ok profile) file rest rest' told w h = h
unread_front (Err (Refused e)) file rest rest' told w h = h
unread_front (Err Unreadable) file rest rest' told w h = (h.0, λ t. front_of h.0 file rest rest' (w t) h.1)
