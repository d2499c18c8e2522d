-- The words that ask for the archive to be served are no other command's.
use Rattle.std.proofs.Common.{◌≡◌, ◌⊎◌, inl, inr, ◌<◌, ◌≤◌, ◌^◌, ℕ, List, [], ◌∷◌, get_or, sym, ap, ◌∙◌, arith}
use Rattle.std.specs.Prelude.{codes, decimal}
use Rattle.std.proofs.lemmas.Fmt.{decimal_injective}
use Rattle.pl_cli.specs.Output.{View, Check, Listing, Report}
use Rattle.pl_cli.specs.Promise.{HasFilter, IsCommand, IsTrial}
use Rattle.pl_cli.specs.ServeWords.{IsServe}
use Rattle.pl_cli.specs.Serving.{IsServeStatus}
use Rattle.pl_cli.proofs.Trials.{letters_apart}

module _ {words : List (List ℕ)} {turns : ℕ} (serve : IsServe words turns) where
  pub serve-view : (v : View) (profile capture : List ℕ) → IsCommand words v profile capture → ⊥
  serve-view Check profile capture h = let e : 99 ≡ 115 = letters_apart h serve.spelled in
      omega (arith, e)
  serve-view (Listing f) profile capture h = let e : 108 ≡ 115 = letters_apart h.1 serve.spelled in
      omega (arith, e)
  serve-view Report profile capture h = let e : 114 ≡ 115 = letters_apart h serve.spelled in
      omega (arith, e)

  pub serve-filter : (text : List ℕ) → HasFilter words text → ⊥
  serve-filter text h = let e : 108 ≡ 115 = letters_apart h.2 serve.spelled in omega (arith, e)

  pub serve-trial : (number count : ℕ) → IsTrial words number count → ⊥
  serve-trial number count h = let e : 116 ≡ 115 = letters_apart h.spelled serve.spelled in
      omega (arith, e)

  pub serve-turns : (other : ℕ) → IsServe words other → turns ≡ other
  serve-turns other h =
      decimal_injective turns other (omega (arith, serve.most)) (omega (arith, h.most))
      (ap (λ (l : List (List ℕ)). get_or l 3 []) (sym serve.spelled ∙ h.spelled))

-- ---- the statuses

-- those of the archive
pub serve_status : (n answer : ℕ) → IsServeStatus answer → answer ≡ n
    → ((1 ≤ n) × (n ≤ 3)) ⊎ (n ≡ 7) → ⊥
serve_status n answer (inl clean) is (inl h) = omega (arith, h.0)
serve_status n answer (inl clean) is (inr h) = omega arith
serve_status n answer (inr high) is (inl h) = omega (arith, h.1, high.0)
serve_status n answer (inr high) is (inr h) = omega (arith, high.0)

pub serve_status_12 : (answer : ℕ) → IsServeStatus answer → answer ≡ 12 → ⊥
serve_status_12 answer (inl clean) is = omega arith
serve_status_12 answer (inr high) is = omega (arith, high.1)

pub serve_most : (answer : ℕ) → IsServeStatus answer → answer ≤ 12
serve_most answer (inl clean) = omega arith
serve_most answer (inr high) = omega (arith, high.1)

pub one_of_faults : (answer n : ℕ) → (answer ≡ 8) ⊎ (answer ≡ n) → 8 ≤ n → n ≤ 11
    → IsServeStatus answer
one_of_faults answer n (inl unwritten) least most = inr (omega arith, omega arith)
one_of_faults answer n (inr fault) least most = inr (omega arith, omega arith)

-- and those of the other commands
pub status_most : {answer : ℕ} → (answer ≤ 9) ⊎ (answer ≡ 12) → answer ≤ 12
status_most (inl low) = omega arith
status_most (inr filter) = omega arith

pub no_serve_status : (answer : ℕ) → (answer ≤ 9) ⊎ (answer ≡ 12)
    → (answer ≡ 10) ⊎ (answer ≡ 11) → ⊥
no_serve_status answer (inl low) (inl store) = omega arith
no_serve_status answer (inl low) (inr door) = omega arith
no_serve_status answer (inr filter) (inl store) = omega arith
no_serve_status answer (inr filter) (inr door) = omega arith

-- one more case
pub unopened_more : {A B C D : Type 0} → A ⊎ (B ⊎ C) → A ⊎ (B ⊎ (C ⊎ D))
unopened_more (inl a) = inl a
unopened_more (inr (inl b)) = inr (inl b)
unopened_more (inr (inr c)) = inr (inr (inl c))

pub both_more : {A B C : Type 0} → A ⊎ C → (A ⊎ B) ⊎ C
both_more (inl a) = inl (inl a)
both_more (inr c) = inr c
