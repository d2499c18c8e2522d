-- The numbers of a command line.
use Rattle.std.specs.Prelude.{◌≡◌, ◌≤◌, ◌<◌, ℕ, ◌^◌, List, Option, Some, None, decimal}
use Rattle.pl_cli.specs.Promise.{IsTrial}

-- the number that a word spells, and none where no number is spelled so
abbrev pub IsNumberOf : List ℕ → Option ℕ → Type 0
IsNumberOf word (Some n) = word ≡ decimal n
IsNumberOf word None = (n : ℕ) → n < 2 ^ 64 → word ≡ decimal n → ⊥

-- the count of rounds that a word spells, and none where none is spelled so
abbrev pub IsCountOf : List ℕ → Option ℕ → Type 0
IsCountOf word (Some n) = (word ≡ decimal n) × (1 ≤ n) × (n ≤ 1000000)
IsCountOf word None = (n : ℕ) → 1 ≤ n → n ≤ 1000000 → word ≡ decimal n → ⊥

-- the numbers of a trial, and none where the words aren't one
abbrev pub IsTrialOf : List (List ℕ) → Option (ℕ × ℕ) → Type 0
IsTrialOf words (Some numbers) = IsTrial words numbers.0 numbers.1
IsTrialOf words None = (number count : ℕ) → IsTrial words number count → ⊥
