-- Within the lines of which item a sink failed.
use Rattle.std.proofs.Common.{◌≡◌, ◌++◌, ◌<◌, List, ℕ, [], ◌∷◌, refl, ap, ◌∙◌, sym, subst, length, append_assoc, append-nil, arith, Option, Some, None}
use Rattle.pl_io.specs.Told.{plus, Partly}
use Rattle.pl_io.proofs.Told.{plus-plus}
use Rattle.pl_capture.specs.Entry.{Entry}
use Rattle.pl_profile.specs.declared.profile.Profile.{Profile}
use Rattle.pl_engine.specs.declared.engine.Engine.{Engine}
use Rattle.pl_engine.specs.Engine as engine
use Rattle.pl_engine.specs.declared.refused.Refused.{Refused}
use Rattle.pl_engine.specs.Events.{number_after}
use Rattle.pl_engine.specs.Verdicts.{accept, accepted, blocked, history_after, refusal, refuse}
use Rattle.pl_cli.specs.Output.{View, lines_after, lines_at}
use Rattle.pl_cli.specs.Progress.{LostAtItem}

-- a text in two parts, cut in two elsewhere: within its first part, or behind it
pub data CutAt (first rest part missing : List ℕ) : Type 0 where
  Inside : (left : List ℕ) → part ++ left ≡ first → CutAt first rest part missing
  Behind : (more : List ℕ) → part ≡ first ++ more → more ++ missing ≡ rest → CutAt first rest part missing

cut_on : (b l : ℕ) (first rest part missing : List ℕ) → b ≡ l → CutAt first rest part missing → CutAt (l ∷ first) rest (b ∷ part) missing
cut_on b l first rest part missing same (Inside left h) = Inside left (ap (λ (n : ℕ). n ∷ (part ++ left)) same ∙ ap (λ (t : List ℕ). l ∷ t) h)
cut_on b l first rest part missing same (Behind more h k) = Behind more (ap (λ (n : ℕ). n ∷ part) same ∙ ap (λ (t : List ℕ). l ∷ t) h) k

cut_at : (first rest part missing : List ℕ) → part ++ missing ≡ first ++ rest → CutAt first rest part missing
cut_at [] rest part missing h = Behind part refl h
cut_at (l ∷ first) rest [] missing h = Inside (l ∷ first) refl
cut_at (l ∷ first) rest (b ∷ part) missing h =
    let same : b ≡ l = cc in
    let others : part ++ missing ≡ first ++ rest = cc in
    cut_on b l first rest part missing same (cut_at first rest part missing others)

-- where a part of the lines of items ends
pub record EndsWithin (v : View) (p : Profile) (past xs : List Entry) (part : List ℕ) : Type 0 where
  pub before : List Entry
  pub item : Entry
  pub since : List Entry
  pub items_are : xs ≡ before ++ item ∷ since
  pub here : List ℕ
  pub missing : List ℕ
  pub part_is : part ≡ lines_after v p past before ++ here
  pub whole : here ++ missing ≡ lines_at v p (history_after past before) item

ends_on : (v : View) (p : Profile) (past : List Entry) (x : Entry) (xs : List Entry) (part missing : List ℕ) →
    ((more : List ℕ) → more ++ missing ≡ lines_after v p (x ∷ past) xs → EndsWithin v p (x ∷ past) xs more) →
    CutAt (lines_at v p past x) (lines_after v p (x ∷ past) xs) part missing → EndsWithin v p past (x ∷ xs) part
ends_on v p past x xs part missing later (Inside left h) =
    record { before = []; item = x; since = xs; items_are = refl; here = part; missing = left; part_is = refl; whole = h }
ends_on v p past x xs part missing later (Behind more h k) =
    let f = later more k in
    record {
      before = x ∷ f.before;
      item = f.item;
      since = f.since;
      items_are = ap (λ (l : List Entry). x ∷ l) f.items_are;
      here = f.here;
      missing = f.missing;
      part_is = h ∙ ap (λ (l : List ℕ). lines_at v p past x ++ l) f.part_is
          ∙ sym (append_assoc (lines_at v p past x) (lines_after v p (x ∷ past) f.before) f.here);
      whole = f.whole;
    }

ends_within : (v : View) (p : Profile) (past : List Entry) (x : Entry) (xs : List Entry) (part missing : List ℕ) →
    part ++ missing ≡ lines_after v p past (x ∷ xs) → EndsWithin v p past (x ∷ xs) part
ends_within v p past x [] part missing h =
    record { before = []; item = x; since = []; items_are = refl; here = part; missing = missing; part_is = refl; whole = h ∙ append-nil (lines_at v p past x) }
ends_within v p past x (y ∷ ys) part missing h =
    ends_on v p past x (y ∷ ys) part missing (λ more k. ends_within v p (x ∷ past) y ys more missing k)
    (cut_at (lines_at v p past x) (lines_after v p (x ∷ past) (y ∷ ys)) part missing h)

-- a part of the lines of the first items was written
pub lost_at : (v : View) (p : Profile) (k : Engine) (start now : Option (List ℕ)) (items xs tail : List Entry) → items ≡ xs ++ tail → refusal p [] xs ≡ None →
    engine.StandsFor k (history_after [] xs) → 0 < length xs → Partly start now (lines_after v p [] xs) → LostAtItem v p items k start now
lost_at v p k start now items [] tail are none stands some part = absurd (omega (arith, some))
lost_at v p k start now items (x ∷ xs) tail are none stands some part =
    let f = ends_within v p [] x xs part.part part.missing part.whole in
    record {
      before = f.before;
      item = f.item;
      since = f.since;
      behind = tail;
      items_are = are ∙ ap (λ (l : List Entry). l ++ tail) f.items_are ∙ append_assoc f.before (f.item ∷ f.since) tail;
      none_refused = ap (refusal p []) (sym f.items_are) ∙ none;
      engine_stands = subst (λ (l : List Entry). engine.StandsFor k (history_after [] l)) f.items_are stands;
      part = record {
        part = f.here;
        missing = f.missing;
        whole = f.whole;
        written = part.written ∙ ap (plus start) f.part_is ∙ sym (plus-plus start (lines_after v p [] f.before) f.here);
      };
    }

-- lines are those of some item
pub items_some : (v : View) (p : Profile) (past xs : List Entry) → 0 < length (lines_after v p past xs) → 0 < length xs
items_some v p past [] some = some
items_some v p past (x ∷ xs) some = omega arith

-- ---- the items that are judged are the first ones, and none of them is refused

front_by : (o : Option Refused) (x : Entry) (xs ys : List Entry) → ((tail : List Entry) × (xs ≡ ys ++ tail)) → (tail : List Entry) × (x ∷ xs ≡ accept o x ys ++ tail)
front_by None x xs ys f = (f.0, ap (λ (l : List Entry). x ∷ l) f.1)
front_by (Some r) x xs ys f = (x ∷ xs, refl)

pub accepted_front : (p : Profile) (past xs : List Entry) → (tail : List Entry) × (xs ≡ accepted p past xs ++ tail)
accepted_front p past [] = ([], refl)
accepted_front p past (x ∷ xs) = front_by (blocked p past x) x xs (accepted p (x ∷ past) xs) (accepted_front p (x ∷ past) xs)

goes_by : (p : Profile) (past : List Entry) (x : Entry) (ys : List Entry) (o : Option Refused) → blocked p past x ≡ o → refusal p (x ∷ past) ys ≡ None →
    refusal p past (accept o x ys) ≡ None
goes_by p past x ys None h k = ap (λ (o : Option Refused). refuse o (number_after past) (refusal p (x ∷ past) ys)) h ∙ k
goes_by p past x ys (Some r) h k = refl

pub accepted_goes : (p : Profile) (past xs : List Entry) → refusal p past (accepted p past xs) ≡ None
accepted_goes p past [] = refl
accepted_goes p past (x ∷ xs) = goes_by p past x (accepted p (x ∷ past) xs) (blocked p past x) refl (accepted_goes p (x ∷ past) xs)
