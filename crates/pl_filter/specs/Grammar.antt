-- The grammar of filters: which tokens are which filter.
-- A filter is a test, (not F), (and F F) or (or F F).
use Rattle.std.specs.Prelude.{◌≡◌, ℕ, ◌+◌, ◌*◌, ◌-◌, ◌<◌, ◌≤◌, ◌^◌, true}
use Rattle.std.specs.Prelude.{List, [], ◌∷◌, ◌++◌, length, codes}
use Rattle.std.specs.Str.{all_ascii_digits}
use Rattle.pl_filter.specs.Names.{text_of}
use Rattle.pl_filter.specs.Tests.{front_of}
use Rattle.pl_filter.specs.Tokens.{Token, Open, Close, Word}
use Rattle.pl_filter.specs.Trees.{Tree, Both, Either, Negated, Passes}
use Rattle.pl_filter.specs.declared.filter.Test.{Test}
use Rattle.pl_filter.specs.declared.filter.Test.TheVariants as test

-- the value of decimal digits, behind what stands before them
abbrev pub value_behind : ℕ → List ℕ → ℕ
value_behind n [] = n
value_behind n (digit ∷ digits) = value_behind (10 * n + (digit - 48)) digits

-- A number has one to twenty digits and is at most 2^64 - 1. Zeros may stand in front.
pub record IsNumber (digits : List ℕ) (n : ℕ) : Type 0 where
  pub some : 1 ≤ length digits
  pub few : length digits ≤ 20
  pub digits_alone : all_ascii_digits digits ≡ true
  pub value : n ≡ value_behind 0 digits
  pub fits : n < 2 ^ 64

-- what stands behind the front of a test
abbrev pub SpellsValue : Test → List ℕ → Type 0
SpellsValue test.Any value = value ≡ []
SpellsValue test.Up value = value ≡ []
SpellsValue test.Down value = value ≡ []
SpellsValue test.Tlp value = value ≡ []
SpellsValue test.Dllp value = value ≡ []
SpellsValue test.LinkDown value = value ≡ []
SpellsValue test.Spoiled value = value ≡ []
SpellsValue test.Nullified value = value ≡ []
SpellsValue (test.Kind name) value = value ≡ text_of name
SpellsValue (test.Number n) value = IsNumber value n
SpellsValue (test.Tag n) value = IsNumber value n
SpellsValue (test.Requester n) value = IsNumber value n
SpellsValue (test.Tc n) value = IsNumber value n
SpellsValue (test.Before n) value = IsNumber value n
SpellsValue (test.After n) value = IsNumber value n

-- this word is this test
abbrev pub SpellsTest : Test → List ℕ → Type 0
SpellsTest t word = (value : List ℕ) × SpellsValue t value × (word ≡ front_of t ++ value)

-- these tokens are this filter
abbrev pub Spells : Tree → List Token → Type 0
Spells (Passes t) ts = (word : List ℕ) × SpellsTest t word × (ts ≡ Word word ∷ [])
Spells (Negated f) ts =
    (fs : List Token) × Spells f fs × (ts ≡ Open ∷ Word (codes "not") ∷ (fs ++ Close ∷ []))
Spells (Both f g) ts =
    (fs gs : List Token) × Spells f fs × Spells g gs
    × (ts ≡ Open ∷ Word (codes "and") ∷ (fs ++ (gs ++ Close ∷ [])))
Spells (Either f g) ts =
    (fs gs : List Token) × Spells f fs × Spells g gs
    × (ts ≡ Open ∷ Word (codes "or") ∷ (fs ++ (gs ++ Close ∷ [])))

-- a filter may begin with these tokens
abbrev pub MayBegin : List Token → Type 0
MayBegin ts = (f : Tree) × (rest : List Token) × Spells f (ts ++ rest)

-- how many parentheses are open behind these tokens, where some are open before
abbrev pub open_behind : ℕ → List Token → ℕ
open_behind count [] = count
open_behind count (Open ∷ ts) = open_behind (count + 1) ts
open_behind count (Close ∷ ts) = open_behind (count - 1) ts
open_behind count (Word word ∷ ts) = open_behind count ts

-- no parenthesis among these tokens is the 33rd one open
abbrev pub IsShallow : ℕ → List Token → Type 0
IsShallow count [] = Unit {0}
IsShallow count (Open ∷ ts) = (count < 32) × IsShallow (count + 1) ts
IsShallow count (Close ∷ ts) = IsShallow (count - 1) ts
IsShallow count (Word word ∷ ts) = IsShallow count ts
