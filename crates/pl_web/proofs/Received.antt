-- The body that was read is that of the text, or the text ends within it.
use Rattle.std.proofs.Common.{◌≡◌, ℕ, ◌<◌, ◌≤◌, List, ◌++◌, length, take, true, false}
use Rattle.std.proofs.Common.{cond, length-append, append_assoc, append-nil, arith, ap, sym}
use Rattle.std.proofs.Common.{◌∙◌}
use Rattle.std.specs.Prelude.{Option, Some, None, Ok, Err, Vec, nat_lt}
use Rattle.std.specs.declared.alloc.Global.{Global}
use Rattle.std.proofs.lemmas.Bool.Decides.{nat_tests}
use Rattle.std.proofs.lemmas.List.{take_at}
use Rattle.pl_io.specs.Told.{ahead}
use Rattle.pl_keeper.specs.Archive.{Archive}
use Rattle.pl_web.specs.Answer.{Outcome, unanswered}
use Rattle.pl_web.specs.Answers.{Answers}
use Rattle.pl_web.specs.Outcome.{with_body}
use Rattle.pl_web.specs.Received.{BodyReads}
use Rattle.pl_web.specs.declared.ended.Ended.{Ended}
use Rattle.pl_web.specs.declared.ended.Ended.TheVariants.{Gone, Lost, Store, Memory}

not_less : (n m : ℕ) → m ≤ n → nat_lt n m ≡ false
not_less n m at_most = grind (arith, nat_tests)

is_less : (n m : ℕ) → n < m → nat_lt n m ≡ true
is_less n m below = grind (arith, nat_tests)

some_is : {A : Type 0} {x y : A} → Some x ≡ Some y → x ≡ y
some_is h = cc

untold : (text : List ℕ) → Some text ≡ None → ⊥
untold text is = cc

whole : (a : Archive) (f : List ℕ → Outcome) (text body behind : List ℕ) (size : ℕ)
    → length body ≡ size → text ≡ body ++ behind → with_body a text size f ≡ f body
whole a f text body behind size long is =
    let enough : size ≤ length text = omega (arith, ap length is, length-append body behind) in
    ap (λ b. cond b (unanswered a) (f (take size text))) (not_less (length text) size enough)
    ∙ ap f (ap (take size) is ∙ take_at body behind size long)

part : (a : Archive) (f : List ℕ → Outcome) (text some : List ℕ) (size : ℕ)
    → length some < size → text ≡ some → with_body a text size f ≡ unanswered a
part a f text some size few is =
    ap (λ b. cond b (unanswered a) (f (take size text)))
    (is_less (length text) size (omega (arith, ap length is)))

pub body_whole : (a : Archive) (f : List ℕ → Outcome) (have rest : List ℕ) (size : ℕ)
    (old new : Option (List ℕ)) (body : Vec ℕ Global)
    → old ≡ Some rest → BodyReads have size old new (Ok body)
    → with_body a (have ++ rest) size f ≡ f body.items
body_whole a f have rest size old None body told reads =
    absurd (untold (have ++ rest) (sym (ap (ahead have) told) ∙ reads.2))
body_whole a f have rest size old (Some left) body told reads =
    whole a f (have ++ rest) body.items (reads.1 ++ left) size reads.0
    (some_is (sym (ap (ahead have) told) ∙ reads.2) ∙ append_assoc body.items reads.1 left)

pub body_part : (a : Archive) (f : List ℕ → Outcome) (have rest : List ℕ) (size : ℕ)
    (old new : Option (List ℕ))
    → old ≡ Some rest → BodyReads have size old new (Err Gone)
    → with_body a (have ++ rest) size f ≡ unanswered a
body_part a f have rest size old None told reads =
    absurd (untold (have ++ rest) (sym (ap (ahead have) told) ∙ reads.2))
body_part a f have rest size old (Some left) told reads =
    part a f (have ++ rest) reads.0 size reads.1
    (some_is (sym (ap (ahead have) told) ∙ reads.2) ∙ ap (λ l. reads.0 ++ l) reads.3
    ∙ append-nil reads.0)

-- without its body a request has no reply
pub body_ended : (a : Archive) (f : List ℕ → Outcome) (have rest : List ℕ) (size : ℕ)
    (old new : Option (List ℕ)) (e : Ended) (Tells : Archive → Type 0)
    → old ≡ Some rest → BodyReads have size old new (Err e) → Tells a
    → Answers (with_body a (have ++ rest) size f) a Tells (Err e)
body_ended a f have rest size old new Gone Tells told reads rows =
    (ap (λ o. o.answer) (body_part a f have rest size old new told reads), rows)
body_ended a f have rest size old new Lost Tells told reads rows = rows
body_ended a f have rest size old new Store Tells told reads rows = rows
body_ended a f have rest size old new Memory Tells told reads rows = rows
