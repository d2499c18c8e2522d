-- The links that a door gives, one after another.
use Rattle.std.specs.Prelude.{◌≡◌, ℕ, List, [], ◌∷◌, ◌++◌, Option, Some, None}

-- what a link will give, and how many bytes it takes
pub record Coming : Type 0 where
  pub incoming : List ℕ
  pub room : ℕ

-- a link with nothing written, which will give and take this
pub record IsLink (link : Coming) (incoming written : Option (List ℕ)) (room : Option ℕ) :
    Type 0 where
  pub gives : incoming ≡ Some link.incoming
  pub unwritten : written ≡ Some []
  pub takes : room ≡ Some link.room

-- where the links to come were told, this is the first of them, and the others are told now
abbrev pub Gives : Option (List Coming) → Option (List Coming) →
    Option (List ℕ) → Option (List ℕ) → Option ℕ → Type 0
Gives None left incoming written room = Unit {0}
Gives (Some []) left incoming written room = ⊥
Gives (Some (first ∷ others)) left incoming written room =
    IsLink first incoming written room × (left ≡ Some others)

-- where the links to come are told, there are none
abbrev pub NoneLeft : Option (List Coming) → Type 0
NoneLeft None = Unit {0}
NoneLeft (Some links) = links ≡ []

-- where replies and what the link had written are told, the replies have this as one more
abbrev pub Closed : Option (List (List ℕ)) → Option (List ℕ) → Option (List (List ℕ)) → Type 0
Closed None written new = Unit {0}
Closed (Some replies) None new = Unit {0}
Closed (Some replies) (Some bytes) new = new ≡ Some (replies ++ bytes ∷ [])
