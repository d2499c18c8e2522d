-- What reading a filter gives, by the first token.
use Rattle.std.proofs.Common.{◌≡◌, ◌≢◌, ℕ, zero, suc, ◌-◌, List, [], ◌∷◌, Some, None, Ok, Err, refl, ap, ◌∙◌, arith}
use Rattle.pl_filter.specs.Reading.{read_filter, read_operation, test_in, test_or_refusal}
use Rattle.pl_filter.specs.Tokens.{Open, Close, Word, Placed, placed}
use Rattle.pl_filter.specs.Trees.{Passes}
use Rattle.pl_filter.specs.declared.error.FilterError.TheVariants.{Syntax, TooDeep}
use Rattle.pl_filter.specs.declared.filter.Test.{Test}

pub filter_end : (end left : ℕ) (ts : List Placed) → ts ≡ [] → read_filter end left ts ≡ Err (Syntax end)
unfolding read_filter
filter_end end zero ts e = ap (read_filter end zero) e
filter_end end (suc left) ts e = ap (read_filter end (suc left)) e

pub filter_close : (end left at : ℕ) (ts rest : List Placed) → ts ≡ placed at Close ∷ rest → read_filter end left ts ≡ Err (Syntax at)
unfolding read_filter
filter_close end zero at ts rest e = ap (read_filter end zero) e
filter_close end (suc left) at ts rest e = ap (read_filter end (suc left)) e

pub filter_test : (end left at : ℕ) (word : List ℕ) (t : Test) (ts rest : List Placed) → ts ≡ placed at (Word word) ∷ rest → test_in word ≡ Some t
    → read_filter end left ts ≡ Ok (Passes t, rest)
unfolding read_filter
filter_test end zero at word t ts rest e w = ap (read_filter end zero) e ∙ ap (λ o. test_or_refusal at o rest) w
filter_test end (suc left) at word t ts rest e w = ap (read_filter end (suc left)) e ∙ ap (λ o. test_or_refusal at o rest) w

pub filter_no_test : (end left at : ℕ) (word : List ℕ) (ts rest : List Placed) → ts ≡ placed at (Word word) ∷ rest → test_in word ≡ None
    → read_filter end left ts ≡ Err (Syntax at)
unfolding read_filter
filter_no_test end zero at word ts rest e w = ap (read_filter end zero) e ∙ ap (λ o. test_or_refusal at o rest) w
filter_no_test end (suc left) at word ts rest e w = ap (read_filter end (suc left)) e ∙ ap (λ o. test_or_refusal at o rest) w

pub filter_deep : (end left at : ℕ) (ts rest : List Placed) → left ≡ 0 → ts ≡ placed at Open ∷ rest → read_filter end left ts ≡ Err (TooDeep at)
unfolding read_filter
filter_deep end zero at ts rest none e = ap (read_filter end zero) e
filter_deep end (suc left) at ts rest none e = absurd (omega (arith, none))

pub filter_open : (end left at : ℕ) (ts rest : List Placed) → left ≢ 0 → ts ≡ placed at Open ∷ rest
    → read_filter end left ts ≡ read_operation end (read_filter end (left - 1)) rest
unfolding read_filter
filter_open end zero at ts rest some e = absurd (some refl)
filter_open end (suc left) at ts rest some e =
    let less : left ≡ suc left - 1 = omega arith in
    ap (read_filter end (suc left)) e ∙ ap (λ n. read_operation end (read_filter end n) rest) less
