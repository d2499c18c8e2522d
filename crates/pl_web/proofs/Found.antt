-- The router finds the kind that the segments of the path name.
use Rattle.std.proofs.Common.{◌≡◌, ℕ, suc, ◌<◌, List, [], ◌∷◌, Bool, true, false, cond}
use Rattle.std.proofs.Common.{get_or, refl, ap, sym, ◌∙◌, subst, arith}
use Rattle.std.specs.Prelude.{Option, Some, None, option_map, codes, ◌==◌, ◌&&◌, bytes_eq}
use Rattle.std.proofs.lemmas.Bool.Decides.{nat_tests, Decides-eqb}
use Rattle.matchit.specs.Seek.{first, seek, step}
use Rattle.pl_web.specs.Paths.{slash, is_filled, segments_of, kind_of_key, kind_of_captures}
use Rattle.pl_web.specs.Paths.{segments_behind, kind_of_profile, kind_of_profiles, kind_of_rules}
use Rattle.pl_web.specs.Paths.{kind_of_bench, kind_of}
use Rattle.pl_web.specs.Router.{all_routes}
use Rattle.pl_web.specs.declared.routes.Kind.{Kind}
use Rattle.pl_web.specs.declared.routes.Kind.TheVariants.{PutCapture}
use Rattle.pl_web.proofs.Parts.{part_by, first_part, segments_by_part}
use Rattle.pl_web.proofs.Parts.{AreBytes, AreBytesIfAny, more_are_bytes}
use Rattle.pl_web.proofs.Steps.{under, level, seek_nothing, seek_end, seek_byte}
use Rattle.pl_web.proofs.Levels.{goes_on, seek_word, seek_name}
use Rattle.pl_web.proofs.RouteRows.{Route, put_profile_route, put_capture_route, list_route}
use Rattle.pl_web.proofs.RouteRows.{capture_route, verdicts_route, hits_route, verdict_rows}
use Rattle.pl_web.proofs.RouteRows.{key_rows, upload_rows, profile_rows, name_rows, capture_rows}
use Rattle.pl_web.proofs.RouteRows.{rule_rows, bench_rows, name_of_bench_rows, benches_rows}
use Rattle.pl_web.proofs.RouteRows.{routes_are}

-- ---- their kinds

abbrev pub kind_found : Option Route → Option Kind
kind_found found = option_map (λ route. route.value) found

kind_if : (test : Bool) (found : Option Route)
    → kind_found (cond test found None) ≡ cond test (kind_found found) None
kind_if true found = refl
kind_if false found = refl

none_either_way : {T : Type 0} (test : Bool) → cond {A = Option T} test None None ≡ None
none_either_way true = refl
none_either_way false = refl

-- a segment more
abbrev Finds : (List ℕ → Option Route) → (List (List ℕ) → Option Kind) → Type 0
Finds finds kind =
    (text : List ℕ) → AreBytes text → kind_found (finds text) ≡ kind (segments_of text)

at_verdicts : (word : List ℕ) (rest : Option (List ℕ))
    → cond (bytes_eq word (codes "verdicts"))
    (kind_found (goes_on (Some verdicts_route) [] rest)) None
    ≡ kind_of_key (word ∷ segments_behind rest)
unfolding verdicts_route
at_verdicts word None = refl
at_verdicts word (Some rest) =
    ap (λ found. cond (bytes_eq word (codes "verdicts")) (kind_found found) None)
    (seek_nothing {K = Route} 0 rest)
    ∙ none_either_way (bytes_eq word (codes "verdicts"))
    ∙ ap (λ segments. kind_of_key (word ∷ segments)) (sym (segments_by_part rest))

verdicts_found : Finds (seek 0 verdict_rows) kind_of_key
verdicts_found text all =
    ap kind_found (seek_word (Some verdicts_route) [] (codes "verdicts") text refl)
    ∙ kind_if (bytes_eq (first_part text).0 (codes "verdicts")) _
    ∙ at_verdicts (first_part text).0 (first_part text).1
    ∙ ap kind_of_key (sym (segments_by_part text))

at_key : (key : List ℕ) (rest : Option (List ℕ)) → AreBytesIfAny rest
    → cond (is_filled key) (kind_found (goes_on (Some capture_route) verdict_rows rest)) None
    ≡ kind_of_captures (key ∷ segments_behind rest)
unfolding capture_route
at_key key None all = refl
at_key key (Some rest) all = ap (λ kind. cond (is_filled key) kind None) (verdicts_found rest all)

key_found : Finds (seek 0 key_rows) kind_of_captures
key_found text all =
    ap kind_found (seek_name (Some capture_route) verdict_rows text all)
    ∙ kind_if (is_filled (first_part text).0) _
    ∙ at_key (first_part text).0 (first_part text).1 (more_are_bytes text all)
    ∙ ap kind_of_captures (sym (segments_by_part text))

behind_captures : (rest : Option (List ℕ)) → AreBytesIfAny rest
    → kind_found (goes_on (Some list_route) key_rows rest) ≡ kind_of_captures (segments_behind rest)
unfolding list_route
behind_captures None all = refl
behind_captures (Some rest) all = key_found rest all

-- behind the name of a profile: the word `captures`, and a key
both_tests : (word key : Bool) (kind : Option Kind)
    → cond word (cond key kind None) None ≡ cond (word && key) kind None
both_tests true key kind = refl
both_tests false key kind = refl

at_upload : (word key : List ℕ) (rest : Option (List ℕ))
    → cond (bytes_eq word (codes "captures"))
    (cond (is_filled key) (kind_found (goes_on (Some put_capture_route) [] rest)) None) None
    ≡ kind_of_profile (word ∷ key ∷ segments_behind rest)
unfolding put_capture_route
at_upload word key None =
    both_tests (bytes_eq word (codes "captures")) (is_filled key) (Some PutCapture)
at_upload word key (Some rest) =
    ap (λ found. cond (bytes_eq word (codes "captures"))
    (cond (is_filled key) (kind_found found) None) None)
    (seek_nothing {K = Route} 0 rest)
    ∙ ap (λ kind. cond (bytes_eq word (codes "captures")) kind None)
    (none_either_way (is_filled key))
    ∙ none_either_way (bytes_eq word (codes "captures"))
    ∙ ap (λ segments. kind_of_profile (word ∷ key ∷ segments)) (sym (segments_by_part rest))

at_profile : (word : List ℕ) (rest : Option (List ℕ)) → AreBytesIfAny rest
    → cond (bytes_eq word (codes "captures")) (kind_found (goes_on None upload_rows rest)) None
    ≡ kind_of_profile (word ∷ segments_behind rest)
at_profile word None all = none_either_way (bytes_eq word (codes "captures"))
at_profile word (Some rest) all =
    ap (λ kind. cond (bytes_eq word (codes "captures")) kind None)
    (ap kind_found (seek_name (Some put_capture_route) [] rest all)
    ∙ kind_if (is_filled (first_part rest).0) _)
    ∙ at_upload word (first_part rest).0 (first_part rest).1
    ∙ ap (λ segments. kind_of_profile (word ∷ segments)) (sym (segments_by_part rest))

profile_found : Finds (seek 0 profile_rows) kind_of_profile
profile_found text all =
    ap kind_found (seek_word None upload_rows (codes "captures") text refl)
    ∙ kind_if (bytes_eq (first_part text).0 (codes "captures")) _
    ∙ at_profile (first_part text).0 (first_part text).1 (more_are_bytes text all)
    ∙ ap kind_of_profile (sym (segments_by_part text))

at_name : (name : List ℕ) (rest : Option (List ℕ)) → AreBytesIfAny rest
    → cond (is_filled name) (kind_found (goes_on (Some put_profile_route) profile_rows rest)) None
    ≡ kind_of_profiles (name ∷ segments_behind rest)
unfolding put_profile_route
at_name name None all = refl
at_name name (Some rest) all = ap (λ kind. cond (is_filled name) kind None) (profile_found rest all)

name_found : Finds (seek 0 name_rows) kind_of_profiles
name_found text all =
    ap kind_found (seek_name (Some put_profile_route) profile_rows text all)
    ∙ kind_if (is_filled (first_part text).0) _
    ∙ at_name (first_part text).0 (first_part text).1 (more_are_bytes text all)
    ∙ ap kind_of_profiles (sym (segments_by_part text))

behind_profiles : (rest : Option (List ℕ)) → AreBytesIfAny rest
    → kind_found (goes_on None name_rows rest) ≡ kind_of_profiles (segments_behind rest)
behind_profiles None all = refl
behind_profiles (Some rest) all = name_found rest all

at_rule : (rule : List ℕ) (rest : Option (List ℕ))
    → cond (is_filled rule) (kind_found (goes_on (Some hits_route) [] rest)) None
    ≡ kind_of_rules (rule ∷ segments_behind rest)
unfolding hits_route
at_rule rule None = refl
at_rule rule (Some rest) =
    ap (λ found. cond (is_filled rule) (kind_found found) None)
    (seek_nothing {K = Route} 0 rest)
    ∙ none_either_way (is_filled rule)
    ∙ ap (λ segments. kind_of_rules (rule ∷ segments)) (sym (segments_by_part rest))

rule_found : Finds (seek 0 rule_rows) kind_of_rules
rule_found text all =
    ap kind_found (seek_name (Some hits_route) [] text all)
    ∙ kind_if (is_filled (first_part text).0) _
    ∙ at_rule (first_part text).0 (first_part text).1
    ∙ ap kind_of_rules (sym (segments_by_part text))

behind_rules : (rest : Option (List ℕ)) → AreBytesIfAny rest
    → kind_found (goes_on None rule_rows rest) ≡ kind_of_rules (segments_behind rest)
behind_rules None all = refl
behind_rules (Some rest) all = rule_found rest all

-- ---- captures, profiles or rules

abbrev one_of : List ℕ × Option (List ℕ) → Option Route
one_of part =
    cond (bytes_eq part.0 (codes "captures")) (goes_on (Some list_route) key_rows part.1)
    (cond (bytes_eq part.0 (codes "profiles")) (goes_on None name_rows part.1)
    (cond (bytes_eq part.0 (codes "rules")) (goes_on None rule_rows part.1) None))

of_captures : (path : List ℕ)
    → cond (bytes_eq (first_part (99 ∷ path)).0 (codes "captures"))
    (goes_on (Some list_route) key_rows (first_part (99 ∷ path)).1) None
    ≡ one_of (first_part (99 ∷ path))
of_captures path = refl

of_profiles : (path : List ℕ)
    → cond (bytes_eq (first_part (112 ∷ path)).0 (codes "profiles"))
    (goes_on None name_rows (first_part (112 ∷ path)).1) None
    ≡ one_of (first_part (112 ∷ path))
of_profiles path = refl

of_rules : (path : List ℕ)
    → cond (bytes_eq (first_part (114 ∷ path)).0 (codes "rules"))
    (goes_on None rule_rows (first_part (114 ∷ path)).1) None
    ≡ one_of (first_part (114 ∷ path))
of_rules path = refl

none_of : (b : ℕ) (path : List ℕ) → (b == 99) ≡ false → (b == 112) ≡ false
    → (b == 114) ≡ false → one_of (first_part (b ∷ path)) ≡ None
none_of b path no_c no_p no_r = elim (b == slash) as (λ here.
    one_of (part_by here b path (first_part path)) ≡ None)
    [ true ↦ refl | false ↦ rw (no_c, no_p, no_r) refl ]

by_byte : (b : ℕ) (path : List ℕ) (c p r : Bool)
    → (99 == b) ≡ c → (112 == b) ≡ p → (114 == b) ≡ r
    → seek 0 (step b bench_rows) path ≡ one_of (first_part (b ∷ path))
by_byte b path true p r is_c is_p is_r =
    let same : 99 ≡ b = (Decides-eqb 99 b).0 is_c in
    subst (λ x. seek 0 (step x bench_rows) path ≡ one_of (first_part (x ∷ path))) same
    (sym (seek_byte capture_rows 99 path refl refl)
    ∙ seek_word (Some list_route) key_rows (codes "captures") (99 ∷ path) refl
    ∙ of_captures path)
by_byte b path false true r is_c is_p is_r =
    let same : 112 ≡ b = (Decides-eqb 112 b).0 is_p in
    subst (λ x. seek 0 (step x bench_rows) path ≡ one_of (first_part (x ∷ path))) same
    (sym (seek_byte (under (codes "profiles") (level None name_rows)) 112 path refl refl)
    ∙ seek_word None name_rows (codes "profiles") (112 ∷ path) refl
    ∙ of_profiles path)
by_byte b path false false true is_c is_p is_r =
    let same : 114 ≡ b = (Decides-eqb 114 b).0 is_r in
    subst (λ x. seek 0 (step x bench_rows) path ≡ one_of (first_part (x ∷ path))) same
    (sym (seek_byte (under (codes "rules") (level None rule_rows)) 114 path refl refl)
    ∙ seek_word None rule_rows (codes "rules") (114 ∷ path) refl
    ∙ of_rules path)
by_byte b path false false false is_c is_p is_r =
    rw (is_c, is_p, is_r) (seek_nothing {K = Route} 0 path)
    ∙ sym (none_of b path (grind (arith, nat_tests)) (grind (arith, nat_tests))
    (grind (arith, nat_tests)))

seek_one : (text : List ℕ) → seek 0 bench_rows text ≡ one_of (first_part text)
seek_one [] = seek_end bench_rows
seek_one (b ∷ path) =
    seek_byte bench_rows b path refl refl
    ∙ by_byte b path (99 == b) (112 == b) (114 == b) refl refl refl

if_one : (c p r : Bool) (captures profiles rules : Option Route) (x y z : Option Kind)
    → kind_found captures ≡ x → kind_found profiles ≡ y → kind_found rules ≡ z
    → kind_found (cond c captures (cond p profiles (cond r rules None)))
    ≡ cond c x (cond p y (cond r z None))
if_one true p r captures profiles rules x y z first second third = first
if_one false true r captures profiles rules x y z first second third = second
if_one false false true captures profiles rules x y z first second third = third
if_one false false false captures profiles rules x y z first second third = refl

kind_of_one : (word : List ℕ) (rest : Option (List ℕ)) → AreBytesIfAny rest
    → kind_found (one_of (word, rest)) ≡ kind_of_bench (word ∷ segments_behind rest)
kind_of_one word rest all =
    if_one (bytes_eq word (codes "captures")) (bytes_eq word (codes "profiles"))
    (bytes_eq word (codes "rules")) _ _ _ _ _ _
    (behind_captures rest all) (behind_profiles rest all) (behind_rules rest all)

bench_found : Finds (seek 0 bench_rows) kind_of_bench
bench_found text all =
    ap kind_found (seek_one text)
    ∙ kind_of_one (first_part text).0 (first_part text).1 (more_are_bytes text all)
    ∙ ap kind_of_bench (sym (segments_by_part text))

behind_bench : (rest : Option (List ℕ)) → AreBytesIfAny rest
    → kind_found (goes_on None bench_rows rest) ≡ kind_of_bench (segments_behind rest)
behind_bench None all = refl
behind_bench (Some rest) all = bench_found rest all

-- ---- the whole path

three_tests : (a b c : Bool) (kind : Option Kind)
    → cond a (cond b (cond c kind None) None) None ≡ cond (a && b && c) kind None
three_tests true true c kind = refl
three_tests true false c kind = refl
three_tests false b c kind = refl

at_bench : (front word bench : List ℕ) (rest : Option (List ℕ)) → AreBytesIfAny rest
    → cond (bytes_eq front [])
    (cond (bytes_eq word (codes "benches"))
    (cond (is_filled bench) (kind_found (goes_on None bench_rows rest)) None) None) None
    ≡ kind_of (front ∷ word ∷ bench ∷ segments_behind rest)
at_bench front word bench rest all =
    three_tests (bytes_eq front []) (bytes_eq word (codes "benches")) (is_filled bench) _
    ∙ ap (λ kind. cond (bytes_eq front [] && bytes_eq word (codes "benches") && is_filled bench)
    kind None)
    (behind_bench rest all)

at_benches : (front word : List ℕ) (rest : Option (List ℕ)) → AreBytesIfAny rest
    → cond (bytes_eq front [])
    (cond (bytes_eq word (codes "benches"))
    (kind_found (goes_on None name_of_bench_rows rest)) None) None
    ≡ kind_of (front ∷ word ∷ segments_behind rest)
at_benches front word None all =
    ap (λ kind. cond (bytes_eq front []) kind None)
    (none_either_way (bytes_eq word (codes "benches")))
    ∙ none_either_way (bytes_eq front [])
at_benches front word (Some rest) all =
    ap (λ kind. cond (bytes_eq front []) (cond (bytes_eq word (codes "benches")) kind None) None)
    (ap kind_found (seek_name None bench_rows rest all)
    ∙ kind_if (is_filled (first_part rest).0) _)
    ∙ at_bench front word (first_part rest).0 (first_part rest).1 (more_are_bytes rest all)
    ∙ ap (λ segments. kind_of (front ∷ word ∷ segments)) (sym (segments_by_part rest))

at_front : (front : List ℕ) (rest : Option (List ℕ)) → AreBytesIfAny rest
    → cond (bytes_eq front []) (kind_found (goes_on None benches_rows rest)) None
    ≡ kind_of (front ∷ segments_behind rest)
at_front front None all = none_either_way (bytes_eq front [])
at_front front (Some rest) all =
    ap (λ kind. cond (bytes_eq front []) kind None)
    (ap kind_found (seek_word None name_of_bench_rows (codes "benches") rest refl)
    ∙ kind_if (bytes_eq (first_part rest).0 (codes "benches")) _)
    ∙ at_benches front (first_part rest).0 (first_part rest).1 (more_are_bytes rest all)
    ∙ ap (λ segments. kind_of (front ∷ segments)) (sym (segments_by_part rest))

pub path_found : (path : List ℕ) → AreBytes path
    → kind_found (first all_routes path) ≡ kind_of (segments_of path)
path_found path all =
    ap (λ rows. kind_found (first rows path)) routes_are
    ∙ ap kind_found (seek_word None benches_rows [] path refl)
    ∙ kind_if (bytes_eq (first_part path).0 []) _
    ∙ at_front (first_part path).0 (first_part path).1 (more_are_bytes path all)
    ∙ ap kind_of (sym (segments_by_part path))

pub are_bytes : (text : List ℕ) → ((i : ℕ) → get_or text i 0 < 256) → AreBytes text
are_bytes [] each = refl
are_bytes (c ∷ text) each =
    let here : c < 256 = each 0 in
    let there = are_bytes text (λ i. each (suc i)) in
    grind (arith, nat_tests)
