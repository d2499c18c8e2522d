-- The tokens of a text: parentheses and words, which spaces part.
use Rattle.std.specs.Prelude.{ℕ, ◌+◌, ◌==◌, if◌then◌else◌, List, [], ◌∷◌, map}

pub data Token : Type 0 where
  Open : Token
  Close : Token
  Word : List ℕ → Token

-- a token, and at which byte of the text it begins
pub record Placed : Type 0 where
  pub at : ℕ
  pub token : Token

abbrev pub placed : ℕ → Token → Placed
placed at token = record { at = at; token = token }

-- A byte of a word joins the word that begins right behind it, so that a word is a longest run of
-- its bytes.
abbrev pub joined_to : ℕ → ℕ → Placed → Token → List Placed → List Placed
joined_to at byte next (Word word) after =
    if next.at == at + 1 then placed at (Word (byte ∷ word)) ∷ after
    else placed at (Word (byte ∷ [])) ∷ next ∷ after
joined_to at byte next Open after = placed at (Word (byte ∷ [])) ∷ next ∷ after
joined_to at byte next Close after = placed at (Word (byte ∷ [])) ∷ next ∷ after

abbrev pub joined : ℕ → ℕ → List Placed → List Placed
joined at byte [] = placed at (Word (byte ∷ [])) ∷ []
joined at byte (next ∷ after) = joined_to at byte next next.token after

-- The tokens of these bytes, the first of which stands at this place. Byte 32 is a space, and 40
-- and 41 are the parentheses.
abbrev pub tokens_from : ℕ → List ℕ → List Placed
tokens_from at [] = []
tokens_from at (byte ∷ bytes) =
    if byte == 32 then tokens_from (at + 1) bytes
    else if byte == 40 then placed at Open ∷ tokens_from (at + 1) bytes
    else if byte == 41 then placed at Close ∷ tokens_from (at + 1) bytes
    else joined at byte (tokens_from (at + 1) bytes)

abbrev pub tokens : List ℕ → List Placed
tokens text = tokens_from 0 text

-- without the places
abbrev pub bare : List Placed → List Token
bare = map (λ t. t.token)
