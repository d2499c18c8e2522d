-- Texts that are written one behind another.
use Rattle.std.proofs.Common.{◌≡◌, ◌++◌, ◌+◌, ◌≤◌, ◌<◌, List, ℕ, zero, suc, [], ◌∷◌, refl, ap, ◌∙◌, sym, subst, length, take, drop, append_assoc, append-nil, length-append, arith, Option, Some, None, slice_get}
use Rattle.std.specs.List.{concat, filter}
use Rattle.std.proofs.lemmas.List.Sums.{count_by-le-length, length-filter}
use Rattle.std.proofs.lemmas.List.{length-map}
use Rattle.pl_base.specs.declared.tally.Tally.{Tally}
use Rattle.pl_io.specs.Told.{plus, HasRoom, Partly}
use Rattle.pl_io.proofs.Told.{plus-plus}
use Rattle.pl_report.specs.Summary.{count_lines, every_rule, is_broken, rule_lines, rule_text, summary_lines}

pub plus-nothing : (w : Option (List ℕ)) → w ≡ plus w []
plus-nothing None = refl
plus-nothing (Some bytes) = ap Some (sym (append-nil bytes))

-- room for more is room for less
pub less_room : (room : Option ℕ) (m n : ℕ) → m ≤ n → HasRoom room n → HasRoom room m
less_room None m n le h = h
less_room (Some k) m n le h = omega arith

-- a part of the lines of an item, behind the lines before it
pub part_behind : (w w1 w2 : Option (List ℕ)) (before here rest : List ℕ) → w1 ≡ plus w before → Partly w1 w2 here → Partly w w2 (before ++ (here ++ rest))
part_behind w w1 w2 before here rest h part = record {
  part = before ++ part.part;
  missing = part.missing ++ rest;
  whole = append_assoc before part.part (part.missing ++ rest)
      ∙ ap (λ (l : List ℕ). before ++ l) (sym (append_assoc part.part part.missing rest) ∙ ap (λ (l : List ℕ). l ++ rest) part.whole);
  written = part.written ∙ ap (λ (o : Option (List ℕ)). plus o part.part) h ∙ plus-plus w before part.part;
}

-- lines, and then a part of the last one
pub behind_lines : (w w1 w2 : Option (List ℕ)) (before last : List ℕ) → w1 ≡ plus w before → Partly w1 w2 last → Partly w w2 (before ++ last)
behind_lines w w1 w2 before last h part = record {
  part = before ++ part.part;
  missing = part.missing;
  whole = append_assoc before part.part part.missing ∙ ap (λ (l : List ℕ). before ++ l) part.whole;
  written = part.written ∙ ap (λ (v : Option (List ℕ)). plus v part.part) h ∙ plus-plus w before part.part;
}

-- ---- one text, and then another

pub both_written : (w w1 w2 : Option (List ℕ)) (a b : List ℕ) → w1 ≡ plus w a → w2 ≡ plus w1 b → w2 ≡ plus w (a ++ b)
both_written w w1 w2 a b h k = k ∙ ap (λ (o : Option (List ℕ)). plus o b) h ∙ plus-plus w a b

pub first_lost : (w w1 : Option (List ℕ)) (a b : List ℕ) → Partly w w1 a → Partly w w1 (a ++ b)
first_lost w w1 a b part = record {
  part = part.part;
  missing = part.missing ++ b;
  whole = sym (append_assoc part.part part.missing b) ∙ ap (λ (l : List ℕ). l ++ b) part.whole;
  written = part.written;
}

pub first_fits : (room : Option ℕ) (a b : List ℕ) → HasRoom room (length (a ++ b)) → HasRoom room (length a)
first_fits room a b h = less_room room (length a) (length (a ++ b)) (omega (arith, length-append a b)) h

pub room_behind : (room room1 : Option ℕ) (a b : List ℕ) (n : ℕ) → ((k : ℕ) → HasRoom room (length a + k) → HasRoom room1 k) →
    HasRoom room (length (a ++ b) + n) → HasRoom room1 (length b + n)
room_behind room room1 a b n left h =
    let same : length (a ++ b) + n ≡ length a + (length b + n) = omega (arith, length-append a b) in
    left (length b + n) (subst (HasRoom room) same h)

-- ---- lines that are written one after another

-- the lines before one, its own, and those behind it
pub line_at : (ls : List (List ℕ)) (k : ℕ) (line : List ℕ) → slice_get ls k ≡ Some line →
    concat ls ≡ concat (take k ls) ++ (line ++ concat (drop (suc k) ls))
line_at [] k line h = absurd (cc)
line_at (l ∷ ls) zero line h = let same : l ≡ line = cc in ap (λ (x : List ℕ). x ++ concat ls) same
line_at (l ∷ ls) (suc k) line h =
    ap (λ (x : List ℕ). l ++ x) (line_at ls k line h) ∙ sym (append_assoc l (concat (take k ls)) (line ++ concat (drop (suc k) ls)))

take_line : (ls : List (List ℕ)) (k : ℕ) (line : List ℕ) → slice_get ls k ≡ Some line → concat (take (suc k) ls) ≡ concat (take k ls) ++ line
take_line [] k line h = absurd (cc)
take_line (l ∷ ls) zero line h = let same : l ≡ line = cc in append-nil l ∙ same
take_line (l ∷ ls) (suc k) line h =
    ap (λ (x : List ℕ). l ++ x) (take_line ls k line h) ∙ sym (append_assoc l (concat (take k ls)) line)

pub take_more : (ls : List (List ℕ)) (k : ℕ) (line : List ℕ) → slice_get ls k ≡ Some line → concat (take (k + 1) ls) ≡ concat (take k ls) ++ line
take_more ls k line h = let same : k + 1 ≡ suc k = omega arith in ap (λ (n : ℕ). concat (take n ls)) same ∙ take_line ls k line h

pub line_inside : (ls : List (List ℕ)) (k : ℕ) (line : List ℕ) → slice_get ls k ≡ Some line → k < length ls
line_inside [] k line h = absurd (cc)
line_inside (l ∷ ls) zero line h = omega arith
line_inside (l ∷ ls) (suc k) line h = omega (arith, line_inside ls k line h)

-- eleven counts, and a line for each rule at most
pub summary_few : (t : Tally) → length (summary_lines t) ≤ 60
unfolding summary_lines every_rule
summary_few t = omega (
  arith,
  length-append (count_lines t) (rule_lines t),
  length-map (filter (is_broken t) every_rule) (rule_text t),
  length-filter (is_broken t) every_rule,
  count_by-le-length (is_broken t) every_rule,
)

-- room for all lines is room for the next one
pub line_room : (room room1 : Option ℕ) (ls : List (List ℕ)) (k : ℕ) (line : List ℕ) → slice_get ls k ≡ Some line →
    ((n : ℕ) → HasRoom room (length (concat (take k ls)) + n) → HasRoom room1 n) → HasRoom room (length (concat ls)) → HasRoom room1 (length line)
line_room room room1 ls k line h left all =
    left (length line) (less_room room (length (concat (take k ls)) + length line) (length (concat ls))
    (omega (
      arith,
      ap (λ (l : List ℕ). length l) (line_at ls k line h),
      length-append (concat (take k ls)) (line ++ concat (drop (suc k) ls)),
      length-append line (concat (drop (suc k) ls)),
    )) all)
