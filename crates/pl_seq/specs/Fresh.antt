-- A span that no gap began, in terms that know of no runs: its first TLP is number 0, and each
-- count is the span's.
-- PCI Express Base Specification 5.0, chapter 3: sequence numbers, Ack and Nak, the retry buffer.
use Rattle.std.specs.Prelude.{ℕ, ◌+◌, ◌-◌, ◌%◌, Bool, false, not, ◌&&◌, ◌||◌, ◌==◌, nat_le, List}
use Rattle.std.specs.Prelude.{if◌then◌else◌, [], ◌∷◌, ◌++◌, length, drop, slice_get, Option, Some}
use Rattle.std.specs.Prelude.{None}
use Rattle.pl_base.specs.Ring.{ring_difference}
use Rattle.pl_base.specs.Verdict.{verdict_if}
use Rattle.pl_base.specs.declared.link.Body.{Body}
use Rattle.pl_base.specs.declared.link.Body.TheVariants.{Whole, Nullified, Spoiled}
use Rattle.pl_base.specs.declared.rule.Rule.TheVariants.{L1, S1, S2, S3, S4, S5}
use Rattle.pl_base.specs.declared.verdict.Verdict.{Verdict}
use Rattle.pl_seq.specs.Sent.{Sent}
use Rattle.pl_seq.specs.declared.number.TheConstants.{MOST_BEHIND, MOST_UNACKNOWLEDGED}
use Rattle.pl_seq.specs.declared.place.Place.{Place}
use Rattle.pl_seq.specs.declared.place.Place.TheVariants.{Taken, Repeat, Stray, Dropped}
use Rattle.pl_seq.specs.History.{Event, Tlp, Ack, Gap, is_spoiled, is_taken, latest_tlp}
use Rattle.pl_seq.specs.Rules.{breaks_l1, differs, is_out_of_turn, is_repeat, is_stray, position_of}
use Rattle.pl_seq.specs.Rules.{position_of_latest}

-- how far a sequence number lies behind the next one, of 12 bits
abbrev pub behind : ℕ → ℕ → ℕ
behind next number = ring_difference (next % 4096) number 4096

-- so far behind that a TLP of this number repeats one that was taken
abbrev pub is_repeat_of : ℕ → ℕ → Bool
is_repeat_of next number =
    nat_le 1 (behind next number)
    && (nat_le (behind next number) MOST_BEHIND && nat_le (behind next number) next)

-- where a TLP stands, when `next` TLPs were taken before it
abbrev pub place_of : ℕ → ℕ → Body → Place
place_of next number Nullified = Dropped
place_of next number Spoiled = Dropped
place_of next number Whole =
    if number == next % 4096 then Taken else (if is_repeat_of next number then Repeat else Stray)

-- the taken TLPs, the oldest first
abbrev pub taken : List Event → List Sent
taken [] = []
taken (Tlp number bytes body at ∷ past) =
    if is_taken (place_of (length (taken past)) number body)
    then taken past ++ record { at = at; bytes = bytes } ∷ [] else taken past
taken (Ack number at ∷ past) = taken past
taken (Gap ∷ past) = []

abbrev pub next : List Event → ℕ
next past = length (taken past)

abbrev pub place_after : List Event → ℕ → Body → Place
place_after past number body = place_of (next past) number body

-- how many more an Ack or Nak of this number would answer
abbrev pub advance : ℕ → ℕ → ℕ
advance answered number = ring_difference ((number + 1) % 4096) (answered % 4096) 4096

abbrev pub is_valid : ℕ → ℕ → ℕ → Bool
is_valid next answered number = nat_le (advance answered number) (next - answered)

abbrev pub newly_answered : ℕ → ℕ → ℕ → ℕ
newly_answered next answered number =
    if is_valid next answered number then advance answered number else 0

abbrev pub answered : List Event → ℕ
answered [] = 0
answered (Tlp number bytes body at ∷ past) = answered past
answered (Ack number at ∷ past) = answered past + newly_answered (next past) (answered past) number
answered (Gap ∷ past) = 0

abbrev pub unacknowledged : List Event → List Sent
unacknowledged past = drop (answered past) (taken past)

abbrev pub latest_taken : List Event → Option ℕ
latest_taken [] = None
latest_taken (Tlp number bytes body at ∷ past) =
    if is_taken (place_after past number body) then Some at else latest_taken past
latest_taken (Ack number at ∷ past) = latest_taken past
latest_taken (Gap ∷ past) = None

abbrev pub spoiled_since : List Event → Bool
spoiled_since [] = false
spoiled_since (Tlp number bytes body at ∷ past) =
    if is_taken (place_after past number body) then false
    else (is_spoiled body || spoiled_since past)
spoiled_since (Ack number at ∷ past) = spoiled_since past
spoiled_since (Gap ∷ past) = false

-- the place among the taken TLPs, from 0, of the original that a repeat of this number has
abbrev pub original_place : List Event → ℕ → ℕ
original_place past number = next past - behind (next past) number

abbrev pub original : List Event → ℕ → Option Sent
original past number = slice_get (taken past) (original_place past number)

abbrev pub breaks_s1 : List Event → ℕ → Body → Bool
breaks_s1 past number body = is_stray (place_after past number body) && not (spoiled_since past)

abbrev pub repeats_unacknowledged : List Event → ℕ → Body → Bool
repeats_unacknowledged past number body =
    is_repeat (place_after past number body) && nat_le (answered past) (original_place past number)

abbrev pub breaks_s2 : List Event → ℕ → List ℕ → Body → Bool
breaks_s2 past number bytes body =
    repeats_unacknowledged past number body && differs (original past number) bytes

abbrev pub breaks_s3 : List Event → ℕ → Body → Bool
breaks_s3 past number body =
    repeats_unacknowledged past number body
    && (not (original_place past number == answered past)
    && is_out_of_turn (latest_tlp past) number)

abbrev pub breaks_s4 : List Event → ℕ → Body → Bool
breaks_s4 past number body =
    is_taken (place_after past number body)
    && nat_le MOST_UNACKNOWLEDGED (length (unacknowledged past))

abbrev pub breaks_s5 : List Event → ℕ → Bool
breaks_s5 past number = not (is_valid (next past) (answered past) number)

-- the verdicts of an event after a history without a gap
unfoldable pub verdicts : List Event → Event → List Verdict
verdicts past (Tlp number bytes body at) =
    verdict_if (breaks_l1 body) L1 at None None
    ++ (verdict_if (breaks_s1 past number body) S1 at (latest_taken past) None
    ++ (verdict_if (breaks_s2 past number bytes body) S2 at
    (position_of (original past number)) None
    ++ (verdict_if (breaks_s3 past number body) S3 at
    (position_of_latest (latest_tlp past)) (position_of (original past number))
    ++ verdict_if (breaks_s4 past number body) S4 at
    (position_of (slice_get (unacknowledged past) 0)) None)))
verdicts past (Ack number at) = verdict_if (breaks_s5 past number) S5 at (latest_taken past) None
verdicts past Gap = []
