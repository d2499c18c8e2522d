-- A run: TLPs of one direction that are numbered one after the other, and how a TLP, an Ack or a
-- Nak stands to them. A span that came whole is one run, from number 0 on. Behind a gap a run
-- begins wherever a number shows that TLPs are missing.
-- PCI Express Base Specification 5.0, chapter 3: sequence numbers, Ack and Nak.
use Rattle.std.specs.Prelude.{◌≡◌, ℕ, ◌+◌, ◌-◌, ◌%◌, ◌<◌, Bool, false, not, ◌&&◌, ◌||◌, ◌==◌}
use Rattle.std.specs.Prelude.{nat_le, if◌then◌else◌, Option, Some, None}
use Rattle.pl_base.specs.Ring.{ring_difference}
use Rattle.pl_base.specs.declared.link.Body.{Body}
use Rattle.pl_base.specs.declared.link.Body.TheVariants.{Whole, Nullified, Spoiled}
use Rattle.pl_seq.specs.declared.number.TheConstants.{MOST_BEHIND, MOST_UNACKNOWLEDGED}
use Rattle.pl_seq.specs.declared.place.Place.{Place}
use Rattle.pl_seq.specs.declared.place.Place.TheVariants.{Taken, Repeat, Stray, Dropped, Opens}

-- whether a gap began its span; the number of its first TLP, none until it is known; how many TLPs
-- were taken; and how many of these are answered
pub record Run : Type 0 where
  pub torn : Bool
  pub base : Option ℕ
  pub next : ℕ
  pub answered : ℕ

-- a run that has no TLP yet
abbrev pub empty_run : Bool → Option ℕ → Run
empty_run torn base = record { torn = torn; base = base; next = 0; answered = 0 }

-- an Ack or Nak has answered a TLP of the run
abbrev pub is_confirmed : Run → Bool
is_confirmed run = nat_le 1 run.answered

-- the numbers of the run are sure: no gap began its span, or an Ack or Nak has confirmed it
abbrev pub is_sure : Run → Bool
is_sure run = not run.torn || is_confirmed run

-- the number of the TLP that comes so many behind the first, of 12 bits
abbrev pub numbered : ℕ → ℕ → ℕ
numbered base count = (base + count) % 4096

-- ---- where a TLP stands

-- how far a sequence number lies behind the next one, of 12 bits
abbrev pub behind : ℕ → ℕ → ℕ → ℕ
behind base next number = ring_difference (numbered base next) number 4096

-- so far behind as a repeat may lie
abbrev pub is_near : ℕ → Bool
is_near back = nat_le 1 back && nat_le back MOST_BEHIND

-- where a whole TLP stands that lies so far behind the next one, but not at 0. Behind a gap a near
-- one may repeat a TLP that the capture hasn't got, and any other is a jump, until an Ack or Nak
-- confirms the run.
abbrev pub place_behind : Run → ℕ → Place
place_behind run back =
    if is_near back then (if run.torn || nat_le back run.next then Repeat else Stray)
    else (if run.torn && not (is_confirmed run) then Opens else Stray)

-- where a whole TLP stands: while the first number isn't known, any is the next one
abbrev pub place_from : Option ℕ → Run → ℕ → Place
place_from None run number = Taken
place_from (Some base) run number =
    if number == numbered base run.next then Taken
    else place_behind run (behind base run.next number)

-- where a TLP stands that comes in the run
abbrev pub place_of : Run → ℕ → Body → Place
place_of run number Nullified = Dropped
place_of run number Spoiled = Dropped
place_of run number Whole = place_from run.base run number

-- the number of the first TLP, once one of this number was taken
abbrev pub known : Option ℕ → ℕ → Option ℕ
known None number = Some number
known (Some base) number = Some base

-- the run with one more TLP, of this number, that has its next number
abbrev pub with_taken : Run → ℕ → Run
with_taken run number = record {
  torn = run.torn;
  base = known run.base number;
  next = run.next + 1;
  answered = run.answered;
}

-- ---- what an Ack or Nak answers

-- how many TLPs more an Ack or Nak of this number would answer
abbrev pub advance : ℕ → ℕ → ℕ → ℕ
advance base answered number = ring_difference ((number + 1) % 4096) (numbered base answered) 4096

-- it answers no TLP that wasn't taken
abbrev pub is_valid_from : Option ℕ → Run → ℕ → Bool
is_valid_from None run number = false
is_valid_from (Some base) run number =
    nat_le (advance base run.answered number) (run.next - run.answered)

abbrev pub is_valid : Run → ℕ → Bool
is_valid run number = is_valid_from run.base run number

-- behind a gap: it answers TLPs that the capture hasn't got
abbrev pub is_ahead_from : Option ℕ → Run → ℕ → Bool
is_ahead_from None run number = run.torn
is_ahead_from (Some base) run number =
    run.torn
    && (nat_le (advance base run.answered number) MOST_UNACKNOWLEDGED && not (is_valid run number))

abbrev pub is_ahead : Run → ℕ → Bool
is_ahead run number = is_ahead_from run.base run number

-- how many more it answers: none where it isn't valid
abbrev pub newly_answered_from : Option ℕ → Run → ℕ → ℕ
newly_answered_from None run number = 0
newly_answered_from (Some base) run number =
    if is_valid run number then advance base run.answered number else 0

abbrev pub newly_answered : Run → ℕ → ℕ
newly_answered run number = newly_answered_from run.base run number

-- the run with so many more answered
abbrev pub with_answered : Run → ℕ → Run
with_answered run count = record {
  torn = run.torn;
  base = run.base;
  next = run.next;
  answered = run.answered + count;
}

-- ---- the original of a repeat

-- the run has the TLP that one of this number would repeat
abbrev pub has_original_from : Option ℕ → Run → ℕ → Bool
has_original_from None run number = false
has_original_from (Some base) run number =
    is_near (behind base run.next number) && nat_le (behind base run.next number) run.next

abbrev pub has_original : Run → ℕ → Bool
has_original run number = has_original_from run.base run number

-- its place among the taken TLPs of the run, from 0
abbrev pub original_place_from : Option ℕ → Run → ℕ → ℕ
original_place_from None run number = 0
original_place_from (Some base) run number = run.next - behind base run.next number

abbrev pub original_place_of : Run → ℕ → ℕ
original_place_of run number = original_place_from run.base run number

-- ---- the number beside a count

-- the TLP so many behind the first has this number, where the first is known
abbrev pub IsNumbered : Option ℕ → ℕ → ℕ → Type 0
IsNumbered None count number = (count ≡ 0) × (number < 4096)
IsNumbered (Some base) count number = (base < 4096) × (number ≡ numbered base count)
