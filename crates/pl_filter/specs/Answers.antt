-- What the reader of a filter answers to a text.
use Rattle.std.specs.Prelude.{◌≡◌, ℕ, List, [], ◌∷◌, ◌++◌, length, Result, Ok, Err, ◌⊎◌}
use Rattle.pl_filter.specs.Grammar.{Spells, MayBegin, IsShallow, open_behind}
use Rattle.pl_filter.specs.Tokens.{Open, Placed, bare, tokens}
use Rattle.pl_filter.specs.Trees.{Tree, tree}
use Rattle.pl_filter.specs.declared.error.FilterError.{FilterError}
use Rattle.pl_filter.specs.declared.error.FilterError.TheVariants.{Syntax, TooDeep, Memory}
use Rattle.pl_filter.specs.declared.filter.Filter.{Filter}

-- the number under which a refusal is printed
abbrev pub number_of : FilterError → ℕ
number_of (Syntax at) = 1
number_of (TooDeep at) = 2
number_of Memory = 3

-- The text is judged from the left: a token stands behind others, none of which is refused.
pub record Reaches (all : List Placed) (front : List Placed) (next : Placed) : Type 0 where
  pub back : List Placed
  pub split : all ≡ front ++ next ∷ back
  pub begins : MayBegin (bare front)
  pub shallow : IsShallow 0 (bare front)

-- the first token that no filter has there
abbrev pub IsMisplaced : List Placed → ℕ → Type 0
IsMisplaced all at =
    (front : List Placed) × (next : Placed) × Reaches all front next
    × ¬ MayBegin (bare front ++ next.token ∷ []) × (at ≡ next.at)

-- a text that ends early
pub record EndsEarly (all : List Placed) : Type 0 where
  pub begins : MayBegin (bare all)
  pub shallow : IsShallow 0 (bare all)
  pub unfinished : (f : Tree) → ¬ Spells f (bare all)

-- an opening parenthesis that a filter may have there, and that would be the 33rd one open
abbrev pub IsTooDeep : List Placed → ℕ → Type 0
IsTooDeep all at =
    (front : List Placed) × (next : Placed) × Reaches all front next × (next.token ≡ Open)
    × MayBegin (bare front ++ Open ∷ []) × (open_behind 0 (bare front) ≡ 32) × (at ≡ next.at)

-- this is the answer to this text, want of memory aside
abbrev pub IsAnswer : List ℕ → Result Tree FilterError → Type 0
IsAnswer text (Ok f) = Spells f (bare (tokens text)) × IsShallow 0 (bare (tokens text))
IsAnswer text (Err (Syntax at)) =
    IsMisplaced (tokens text) at ⊎ (EndsEarly (tokens text) × (at ≡ length text))
IsAnswer text (Err (TooDeep at)) = IsTooDeep (tokens text) at
IsAnswer text (Err Memory) = ⊥

-- what the reader answered, as its tree
abbrev pub answered : Result Filter FilterError → Result Tree FilterError
answered (Ok f) = Ok (tree f)
answered (Err e) = Err e
