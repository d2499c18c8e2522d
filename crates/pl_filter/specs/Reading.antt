-- What the steps of the reader give. That they come to the answer of a text is proved on the reader
-- itself.
use Rattle.std.specs.Prelude.{◌≡◌, ℕ, zero, suc, ◌+◌, ◌*◌, ◌-◌, ◌^◌, ◌==◌, nat_lt, nat_le}
use Rattle.std.specs.Prelude.{Bool, ◌&&◌, ◌||◌, not, if◌then◌else◌, List, [], ◌∷◌, length}
use Rattle.std.specs.Prelude.{take, drop, codes, find, Option, Some, None, Result, Ok, Err}
use Rattle.std.specs.Char.{is_ascii_digit}
use Rattle.std.specs.Option.{option_map, option_or}
use Rattle.std.specs.Str.{bytes_eq}
use Rattle.pl_filter.specs.Names.{named}
use Rattle.pl_filter.specs.Tests.{front_of}
use Rattle.pl_filter.specs.Tokens.{Token, Open, Close, Word, Placed, tokens_from}
use Rattle.pl_filter.specs.Trees.{Tree, Both, Either, Negated, Passes, tree}
use Rattle.pl_filter.specs.declared.error.FilterError.{FilterError}
use Rattle.pl_filter.specs.declared.error.FilterError.TheVariants.{Syntax, TooDeep, Memory}
use Rattle.pl_filter.specs.declared.filter.Filter.{Filter}
use Rattle.pl_filter.specs.declared.filter.Test.{Test}
use Rattle.pl_filter.specs.declared.filter.Test.TheVariants as test
use Rattle.pl_filter.specs.declared.name.Name.TheVariants.{Other}
use Rattle.pl_filter.specs.declared.word.Operator.{Operator}
use Rattle.pl_filter.specs.declared.word.Operator.TheVariants as operator

-- ---- words

abbrev pub is_word_byte : ℕ → Bool
is_word_byte byte = not ((byte == 32) || (byte == 40) || (byte == 41))

-- how many bytes of a word stand at the front
abbrev pub run_length : List ℕ → ℕ
run_length [] = 0
run_length (byte ∷ bytes) = if is_word_byte byte then suc (run_length bytes) else 0

-- the number of digits behind the number before them, where each is a digit and it fits 64 bits
abbrev pub number_behind : ℕ → List ℕ → Option ℕ
number_behind n [] = Some n
number_behind n (byte ∷ bytes) =
    if is_ascii_digit byte && nat_lt (10 * n + (byte - 48)) (2 ^ 64)
    then number_behind (10 * n + (byte - 48)) bytes else None

unfoldable pub number_in : List ℕ → Option ℕ
number_in digits =
    if nat_lt 0 (length digits) && nat_le (length digits) 20 then number_behind 0 digits else None

-- a test of each front; the values don't count
abbrev pub samples : List Test
samples =
    test.Any ∷ test.Up ∷ test.Down ∷ test.Tlp ∷ test.Dllp ∷ test.LinkDown ∷ test.Spoiled
    ∷ test.Nullified ∷ test.Kind Other ∷ test.Number 0 ∷ test.Tag 0 ∷ test.Requester 0 ∷ test.Tc 0
    ∷ test.Before 0 ∷ test.After 0 ∷ []

abbrev pub without_value : Test → List ℕ → Option Test
without_value t [] = Some t
without_value t (byte ∷ bytes) = None

-- the test with the front of this one, and this value
abbrev pub with_value : Test → List ℕ → Option Test
with_value (test.Kind name) value = option_map test.Kind (named value)
with_value (test.Number n) value = option_map test.Number (number_in value)
with_value (test.Tag n) value = option_map test.Tag (number_in value)
with_value (test.Requester n) value = option_map test.Requester (number_in value)
with_value (test.Tc n) value = option_map test.Tc (number_in value)
with_value (test.Before n) value = option_map test.Before (number_in value)
with_value (test.After n) value = option_map test.After (number_in value)
with_value test.Any value = without_value test.Any value
with_value test.Up value = without_value test.Up value
with_value test.Down value = without_value test.Down value
with_value test.Tlp value = without_value test.Tlp value
with_value test.Dllp value = without_value test.Dllp value
with_value test.LinkDown value = without_value test.LinkDown value
with_value test.Spoiled value = without_value test.Spoiled value
with_value test.Nullified value = without_value test.Nullified value

-- the test of a word that begins with the front of this one
unfoldable pub like : Test → List ℕ → Option Test
like t word =
    if bytes_eq (take (length (front_of t)) word) (front_of t)
    then with_value t (drop (length (front_of t)) word) else None

abbrev pub first_like : List Test → List ℕ → Option Test
first_like [] word = None
first_like (t ∷ ts) word = option_or (like t word) (first_like ts word)

-- the test that a word is, where it is one
unfoldable pub test_in : List ℕ → Option Test
test_in word = first_like samples word

-- the words behind an opening parenthesis
abbrev pub operator_text : Operator → List ℕ
operator_text operator.Not = codes "not"
operator_text operator.And = codes "and"
operator_text operator.Or = codes "or"

unfoldable pub operator_in : List ℕ → Option Operator
operator_in word =
    find (λ o. bytes_eq (operator_text o) word) (operator.Not ∷ operator.And ∷ operator.Or ∷ [])

-- ---- tokens

-- the tokens of a text from this place on
abbrev pub tokens_at : List ℕ → ℕ → List Placed
tokens_at text from = tokens_from from (drop from text)

-- ---- filters

infixl 10 ◌>>=◌
abbrev pub ◌>>=◌ : {A B : Type 0} → Result A FilterError → (A → Result B FilterError)
    → Result B FilterError
(Ok x) >>= f = f x
(Err e) >>= f = Err e

-- what a step of the code gave, seen so, is what reading gives, unless memory was wanting
abbrev pub Fails : {Y : Type 0} → FilterError → Result Y FilterError → Type 0
Fails Memory read = Unit {0}
Fails (Syntax at) read = read ≡ Err (Syntax at)
Fails (TooDeep at) read = read ≡ Err (TooDeep at)

abbrev pub Gives : {X Y : Type 0} → (X → Y) → Result X FilterError → Result Y FilterError → Type 0
Gives view (Ok x) read = read ≡ Ok (view x)
Gives view (Err e) read = Fails e read

-- a tree, and the tokens behind it
abbrev pub Read : Type 0
Read = Result (Tree × List Placed) FilterError

-- the next token and what stands behind it, or the end of the text
abbrev pub at_next : {A : Type 0} → ℕ → (ℕ → Token → List Placed → Result A FilterError)
    → List Placed → Result A FilterError
at_next end read [] = Err (Syntax end)
at_next end read (next ∷ rest) = read next.at next.token rest

abbrev pub close_by : ℕ → Token → List Placed → Result (List Placed) FilterError
close_by at Close rest = Ok rest
close_by at Open rest = Err (Syntax at)
close_by at (Word word) rest = Err (Syntax at)

unfoldable pub read_close : ℕ → List Placed → Result (List Placed) FilterError
read_close end ts = at_next end close_by ts

-- one filter and a closing parenthesis
unfoldable pub read_negation : ℕ → (List Placed → Read) → List Placed → Read
read_negation end filter ts = do
  f ← filter ts
  rest ← read_close end f.1
  Ok (Negated f.0, rest)

-- two filters and a closing parenthesis
unfoldable pub read_pair : ℕ → (List Placed → Read) → List Placed
    → Result (Tree × Tree × List Placed) FilterError
read_pair end filter ts = do
  f ← filter ts
  g ← filter f.1
  rest ← read_close end g.1
  Ok (f.0, g.0, rest)

abbrev pub joined_by : (Tree → Tree → Tree) → Tree × Tree × List Placed → Read
joined_by join pair = Ok (join pair.0 pair.1, pair.2)

abbrev pub operands : ℕ → (List Placed → Read) → ℕ → Option Operator → List Placed → Read
operands end filter at None rest = Err (Syntax at)
operands end filter at (Some operator.Not) rest = read_negation end filter rest
operands end filter at (Some operator.And) rest = read_pair end filter rest >>= joined_by Both
operands end filter at (Some operator.Or) rest = read_pair end filter rest >>= joined_by Either

abbrev pub operation_by : ℕ → (List Placed → Read) → ℕ → Token → List Placed → Read
operation_by end filter at (Word word) rest = operands end filter at (operator_in word) rest
operation_by end filter at Open rest = Err (Syntax at)
operation_by end filter at Close rest = Err (Syntax at)

-- what stands behind an opening parenthesis
unfoldable pub read_operation : ℕ → (List Placed → Read) → List Placed → Read
read_operation end filter ts = at_next end (operation_by end filter) ts

abbrev pub test_or_refusal : ℕ → Option Test → List Placed → Read
test_or_refusal at None rest = Err (Syntax at)
test_or_refusal at (Some t) rest = Ok (Passes t, rest)

abbrev pub filter_by : (ℕ → List Placed → Read) → ℕ → Token → List Placed → Read
filter_by inside at Open rest = inside at rest
filter_by inside at Close rest = Err (Syntax at)
filter_by inside at (Word word) rest = test_or_refusal at (test_in word) rest

-- The filter at the front, where so many more parentheses may be opened. The text ends at this
-- place.
unfoldable pub read_filter : ℕ → ℕ → List Placed → Read
read_filter end zero ts = at_next end (filter_by (λ at rest. Err (TooDeep at))) ts
read_filter end (suc left) ts =
    at_next end (filter_by (λ at rest. read_operation end (read_filter end left) rest)) ts

-- the steps from a place in a text on
abbrev pub filter_in : List ℕ → ℕ → ℕ → Read
filter_in text left from = read_filter (length text) left (tokens_at text from)

abbrev pub operation_in : List ℕ → ℕ → ℕ → Read
operation_in text left from =
    read_operation (length text) (read_filter (length text) left) (tokens_at text from)

abbrev pub negation_in : List ℕ → ℕ → ℕ → Read
negation_in text left from =
    read_negation (length text) (read_filter (length text) left) (tokens_at text from)

abbrev pub pair_in : List ℕ → ℕ → ℕ → Result (Tree × Tree × List Placed) FilterError
pair_in text left from =
    read_pair (length text) (read_filter (length text) left) (tokens_at text from)

abbrev pub close_in : List ℕ → ℕ → Result (List Placed) FilterError
close_in text from = read_close (length text) (tokens_at text from)

-- a filter of the code and the place behind it
abbrev pub filter_seen : List ℕ → Filter × ℕ → Tree × List Placed
filter_seen text x = (tree x.0, tokens_at text x.1)

abbrev pub nothing_behind : Tree → List Placed → Result Tree FilterError
nothing_behind f [] = Ok f
nothing_behind f (next ∷ rest) = Err (Syntax next.at)

-- a whole text
unfoldable pub reading : List ℕ → Result Tree FilterError
reading text = do
  f ← read_filter (length text) 32 (tokens_from 0 text)
  nothing_behind f.0 f.1
