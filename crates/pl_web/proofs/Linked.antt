-- What became of a link, by the status of its reply.
use Rattle.std.proofs.Common.{◌≡◌, ◌≢◌, ℕ, ◌<◌, ◌≤◌, List, [], ◌++◌, length, Bool, true, false}
use Rattle.std.proofs.Common.{arith, refl, sym, subst, ap, ◌∙◌, ◌⊎◌, inl, inr, eqb}
use Rattle.std.specs.Prelude.{Option, Some, IsSome}
use Rattle.std.proofs.lemmas.Bool.{false≢true}
use Rattle.std.proofs.lemmas.Bool.Decides.{Decides-eqb}
use Rattle.pl_head.specs.Reply.{reply_bytes}
use Rattle.pl_io.specs.Faults.{Rose, last_count}
use Rattle.pl_io.specs.Links.{Coming, Closed}
use Rattle.pl_io.specs.Told.{plus}
use Rattle.pl_keeper.specs.Archive.{Archive}
use Rattle.pl_web.specs.Outcome.{outcome}
use Rattle.pl_web.specs.Served.{EndsEarly, Grew, IsSent, Replies, Sends, memory_reply, store_reply}
use Rattle.pl_web.specs.Turns.{Fills, Serves, Turned, answered, ended, failed, wanting}
use Rattle.pl_web.specs.declared.serve.Served.{Served}

some_is : {A : Type 0} {x y : A} → Some x ≡ Some y → x ≡ y
some_is h = cc

-- which of the four kinds of status it is
not_equal : (n m : ℕ) → eqb n m ≡ false → n ≢ m
not_equal n m differ = λ same. false≢true (sym differ ∙ (Decides-eqb n m).1 same)

module _ (P : Type 0) (n : ℕ) (zero_is : n ≡ 0 → P) (five_is : n ≡ 500 → P) (three_is : n ≡ 503 → P)
    (other : n ≢ 0 → n ≢ 500 → n ≢ 503 → P) where
  by_three : (b : Bool) → eqb n 503 ≡ b → n ≢ 0 → n ≢ 500 → P
  by_three true is not_0 not_500 = three_is ((Decides-eqb n 503).0 is)
  by_three false is not_0 not_500 = other not_0 not_500 (not_equal n 503 is)

  by_five : (b : Bool) → eqb n 500 ≡ b → n ≢ 0 → P
  by_five true is not_0 = five_is ((Decides-eqb n 500).0 is)
  by_five false is not_0 = by_three (eqb n 503) refl not_0 (not_equal n 500 is)

  by_zero : (b : Bool) → eqb n 0 ≡ b → P
  by_zero true is = zero_is ((Decides-eqb n 0).0 is)
  by_zero false is = by_five (eqb n 500) refl (not_equal n 0 is)

  pub by_status : P
  by_status = by_zero (eqb n 0) refl

longer : (room size : ℕ) → (size ≤ room → ⊥) → room < size
longer room size none = omega arith

-- what was sent into a room that was told
fills_by : (room : ℕ) (sent : Bool) (written text : List ℕ)
    → IsSent sent (Some []) (Some written) text → (length text ≤ room → sent ≡ true)
    → Fills room sent written text
fills_by room true written text is fits = some_is is
fills_by room false written text is fits =
    let few : room < length text = longer room (length text) (λ fit. false≢true (fits fit)) in (
      few,
      is.missing,
      is.some,
      ap (λ part. part ++ is.missing) (some_is is.written) ∙ is.whole,
    )

fills : (room : ℕ) (sent : Bool) (written text : List ℕ)
    → Sends (Some room) (Some []) (Some written) sent text → Fills room sent written text
fills room sent written text sends = fills_by room sent written text sends.bytes sends.fits

no_rise : (before now : ℕ) → before < last_count → now ≡ before → Rose before now → ⊥
no_rise before now below same rose = omega arith

-- the peer ended, since no read failed
ended_early : (text : List ℕ) (a : Archive) (before now : ℕ) → before < last_count
    → now ≡ before → Rose before now ⊎ EndsEarly text a → EndsEarly text a
ended_early text a before now below same how =
    elim how [ inl rose ↦ absurd (no_rise before now below same rose) | inr ends ↦ ends ]

module _ (link : Coming) (a : Archive) (Tells : Archive → Type 0) (before now : ℕ)
    (written : List ℕ) (served : Served) where
  of_reply : Replies link.incoming a Tells (Some link.room) (Some []) (Some written) served
      → Turned link a Tells before now written served
  of_reply is = record {
    after = (outcome a link.incoming is.front).rows;
    turn =
        answered is.front is.status is.media is.body is.begins is.is refl is.code
        (fills link.room served.sent written (reply_bytes is.status is.media is.body) is.sends);
    rows = is.rows;
  }

turned : (link : Coming) (a : Archive) (Tells : Archive → Type 0) (before now conn_before
    conn_now : ℕ) (served : Served) (room : Option ℕ) (old new : Option (List ℕ))
    (written : List ℕ)
    → old ≡ Some [] → room ≡ Some link.room → new ≡ Some written
    → (served.status ≢ 0 → served.status ≢ 500 → served.status ≢ 503
    → Replies link.incoming a Tells room old new served)
    → (served.status ≡ 0 → (new ≡ old) × (served.sent ≡ false) × (now ≡ before))
    → (served.status ≡ 0 → Tells a × (Rose conn_before conn_now ⊎ EndsEarly link.incoming a))
    → (IsSome room → served.status ≡ 0 → conn_now ≡ conn_before)
    → (IsSome room → conn_before < last_count)
    → (served.status ≡ 500 → Sends room old new served.sent memory_reply)
    → (served.status ≡ 503 → Sends room old new served.sent store_reply × Rose before now)
    → ((served.status ≡ 500) ⊎ (served.status ≡ 503) → Tells a)
    → Turned link a Tells before now written served
turned link a Tells before now conn_before conn_now served room old new written empty told grown
    says silent gone quiet below memory store rows =
    let has_room : IsSome room = subst IsSome (sym told) refl in
    let sent_as = λ (text : List ℕ) (sends : Sends room old new served.sent text).
    fills link.room served.sent written text
    (subst (λ r. Sends r (Some []) (Some written) served.sent text) told
    (subst (λ o. Sends room o (Some written) served.sent text) empty
    (subst (λ n. Sends room old n served.sent text) grown sends))) in
    by_status (Turned link a Tells before now written served) served.status
    (λ is. record {
      after = a;
      turn =
          ended (ended_early link.incoming a conn_before conn_now (below has_room)
          (quiet has_room is) (gone is).1) refl
          (some_is (sym grown ∙ (silent is).0 ∙ empty)) is (silent is).1;
      rows = (gone is).0;
    })
    (λ is. record {
      after = a;
      turn = wanting refl is (sent_as memory_reply (memory is));
      rows = rows (inl is);
    })
    (λ is. record {
      after = a;
      turn = failed (store is).1 refl is (sent_as store_reply (store is).0);
      rows = rows (inr is);
    })
    (λ not_0 not_500 not_503. of_reply link a Tells before now written served
    (subst (λ r. Replies link.incoming a Tells r (Some []) (Some written) served) told
    (subst (λ o. Replies link.incoming a Tells room o (Some written) served) empty
    (subst (λ n. Replies link.incoming a Tells room old n served) grown
    (says not_0 not_500 not_503)))))

pub linked : (link : Coming) (Lives : Type 0) (Told Tells : Archive → Type 0)
    (before now conn_before conn_now : ℕ) (served : Served) (room : Option ℕ)
    (old new : Option (List ℕ)) (replies closed : Option (List (List ℕ)))
    → old ≡ Some [] → room ≡ Some link.room → Grew old new
    → (Lives → (a : Archive) → Told a
    → served.status ≢ 0 → served.status ≢ 500 → served.status ≢ 503
    → Replies link.incoming a Tells room old new served)
    → (served.status ≡ 0 → (new ≡ old) × (served.sent ≡ false) × (now ≡ before))
    → (Lives → (a : Archive) → Told a → served.status ≡ 0
    → Tells a × (Rose conn_before conn_now ⊎ EndsEarly link.incoming a))
    → (IsSome room → served.status ≡ 0 → conn_now ≡ conn_before)
    → (IsSome room → conn_before < last_count)
    → (served.status ≡ 500 → Sends room old new served.sent memory_reply)
    → (served.status ≡ 503 → Sends room old new served.sent store_reply × Rose before now)
    → (Lives → (a : Archive) → Told a
    → (served.status ≡ 500) ⊎ (served.status ≡ 503) → Tells a)
    → Closed replies new closed
    → Serves link Lives Told Tells before now replies closed served
linked link Lives Told Tells before now conn_before conn_now served room old new replies closed
    empty told grew says silent gone quiet below memory store rows close =
    let grown : new ≡ Some grew.0 = grew.1 ∙ ap (λ o. plus o grew.0) empty in
    record {
      written = grew.0;
      closed = subst (λ n. Closed replies n closed) grown close;
      turned = λ lives a tells.
          turned link a Tells before now conn_before conn_now served room old new grew.0 empty
          told grown (says lives a tells) silent (gone lives a tells) quiet below memory store
          (rows lives a tells);
    }
