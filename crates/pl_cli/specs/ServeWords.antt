-- The words that ask for the archive to be served.
use Rattle.std.specs.Prelude.{◌≡◌, ℕ, ◌≤◌, List, [], ◌∷◌, Option, Some, None, codes, decimal}
use Rattle.pl_cli.specs.Promise.{IsNoJudging}

-- `serve ADDRESS STORE TURNS`: 1 to 1,000,000 turns, spelled as they are printed
pub record IsServe (words : List (List ℕ)) (turns : ℕ) : Type 0 where
  pub address : List ℕ
  pub store : List ℕ
  pub spelled : words ≡ codes "serve" ∷ address ∷ store ∷ decimal turns ∷ []
  pub some : 1 ≤ turns
  pub most : turns ≤ 1000000

-- how many turns the words ask for, and none where they aren't such words
abbrev pub IsServeOf : List (List ℕ) → Option ℕ → Type 0
IsServeOf words (Some turns) = IsServe words turns
IsServeOf words None = (turns : ℕ) → IsServe words turns → ⊥

-- the words ask for it, whatever the turns are
abbrev pub IsServing : List (List ℕ) → Type 0
IsServing words = (turns : ℕ) × IsServe words turns

-- none of the commands
pub record IsNoCommand (words : List (List ℕ)) : Type 0 where
  pub no_judging : IsNoJudging words
  pub no_serve : IsServing words → ⊥

-- Memory was wanting for the routes of the archive, for which nothing is opened.
abbrev pub LacksRoutes : {H : Type 0} → List (List ℕ) → H → H → Type 0
LacksRoutes words old new = IsServing words × (new ≡ old)
