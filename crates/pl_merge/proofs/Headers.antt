-- The header of a file.
use Rattle.std.proofs.Common.{◌≡◌, ℕ, zero, suc, ◌+◌, ◌-◌, ◌<◌, ◌≤◌, ◌⊎◌, inl, inr, List, [], ◌∷◌}
use Rattle.std.proofs.Common.{◌++◌, length, take, drop, refl, ap, sym, subst, ◌∙◌, arith}
use Rattle.std.proofs.Common.{length-append, length-drop, length-take, Option, Some, None, false, true}
use Rattle.std.proofs.Common.{Bool, Result, Ok, Err}
use Rattle.std.proofs.Math.ListN.{drop_of_length-le}
use Rattle.std.proofs.lemmas.Bool.{le-ltb, lt-ltb}
use Rattle.std.proofs.lemmas.List.{take-append-le, take_all}
use Rattle.pl_base.specs.declared.link.Dir.{Dir}
use Rattle.pl_base.specs.declared.stop.Stop.{Stop}
use Rattle.pl_io.specs.Told.{ahead}
use Rattle.pl_capture.specs.Entry.{Entry}
use Rattle.pl_capture.specs.Front.{header_fault, version_of}
use Rattle.pl_capture.specs.Reading.{Reading, reading, records, records_behind, version_read, ends}
use Rattle.pl_capture.specs.Reading.{Ending, Ended, Bad, Open}
use Rattle.pl_capture.specs.Standing.{Standing, StandsFor, Phase, Waiting, Holding, Done, Stopped}
use Rattle.pl_capture.specs.Standing.{Answers, Becomes, Shows, GivesItem, ReachesEnd, Refuses}
use Rattle.pl_capture.specs.declared.step.Step.{Step}
use Rattle.pl_capture.specs.declared.step.Step.TheVariants as step
use Rattle.pl_capture.proofs.Answered.{start_stands}
use Rattle.pl_capture.proofs.Wholes.{Header, header, short, faulty, good, reading_short, reading_bad}
use Rattle.pl_capture.proofs.Wholes.{reading_good, version_in}
use Rattle.pl_merge.specs.declared.end.End.{End}
use Rattle.pl_merge.specs.declared.end.End.TheVariants as end
use Rattle.pl_merge.specs.Lawful.{end_by, lawful_after, lawful_of, limit}
use Rattle.pl_merge.specs.Sides.{Sight, TookBytes, Reached, TookHeader, RefusesHeader, LacksHeader}
use Rattle.pl_merge.specs.Sides.{Halts, HeaderHalts, IsBegun, Lost, NoReadFault, Stops, fresh}
use Rattle.pl_merge.specs.declared.end.Halt.{Halt}
use Rattle.pl_merge.specs.declared.end.Halt.TheVariants as halt
use Rattle.pl_merge.proofs.Finishing.{ahead_none}
use Rattle.pl_merge.proofs.Lawfuls.{lawful_is, none_lawful}
use Rattle.pl_merge.proofs.Longer.{stopped_is}
use Rattle.pl_merge.proofs.Taking.{bad_part, told, whole_parts}

-- no record stands in a header
no_records : (version : ℕ) (b : List ℕ) → b ≡ [] → records_behind version 0 b ≡ ends (Open 1 [])
unfolding records
no_records version b none = rw none refl

-- the reading of no more than a header
pub data HeaderRead (b : List ℕ) : Type 0 where
  cut_short : length b < 16 → reading b ≡ ends (Open 0 b) → HeaderRead b
  refused : (s : Stop) → length b ≡ 16 → header_fault (take 16 b) ≡ Some s
      → reading b ≡ ends (Bad s) → HeaderRead b
  accepted : length b ≡ 16 → header_fault (take 16 b) ≡ None → reading b ≡ ends (Open 1 [])
      → HeaderRead b

pub header_read : (b : List ℕ) → length b ≤ 16 → HeaderRead b
header_read b le =
    elim (header b) [
      | short less ↦ cut_short less (reading_short b less)
      | faulty s long e ↦ refused s (omega arith) e (reading_bad b s long e)
      | good long e ↦
          accepted (omega arith) e (reading_good b long e
          ∙ no_records (version_in b) (drop 16 b) (drop_of_length-le b le))
    ]

pub no_item : (b : List ℕ) → length b ≤ 16 → (reading b).items ≡ []
no_item b le =
    elim (header_read b le) [
      | cut_short less r ↦ ap (λ (r : Reading). r.items) r
      | refused s size e r ↦ ap (λ (r : Reading). r.items) r
      | accepted size e r ↦ ap (λ (r : Reading). r.items) r
    ]

pub no_end : (b : List ℕ) → length b ≤ 16 → (reading b).ending ≡ Ended → ⊥
no_end b le h =
    elim (header_read b le) [
      | cut_short less r ↦ let e = ap (λ (r : Reading). r.ending) r in cc
      | refused s size f r ↦ let e = ap (λ (r : Reading). r.ending) r in cc
      | accepted size f r ↦ let e = ap (λ (r : Reading). r.ending) r in cc
    ]

-- within a header the reader comes to no item and no end
pub gives_none : (before part : List ℕ) (new : Standing) → length (before ++ part) ≤ 16
    → GivesItem before part new → ⊥
gives_none before part new le g =
    let none = no_item (before ++ part) le in
    let some = g.items in
    let size = ap (λ (xs : List Entry). length xs) (sym none ∙ some) in
    omega (arith, size, length-append (reading before).items (g.item ∷ []))

pub ends_none : (before part : List ℕ) (new : Standing) → length (before ++ part) ≤ 16
    → new.phase ≡ Done → ReachesEnd before part new → ⊥
ends_none before part new le done g =
    no_end (before ++ part) le
    (subst (λ (q : Phase). Shows new.place q (reading (before ++ part))) done g.stands.shows).0

-- neither answer comes
pub no_step : (answer : Step) (before piece : List ℕ) (new : Standing)
    → length (before ++ piece) ≤ 16 → Answers before piece answer new → Becomes answer new.phase
    → ((n : ℕ) × answer ≡ step.Item n) ⊎ ((n : ℕ) × answer ≡ step.End n) → ⊥
no_step (step.Item used) before piece new le g b h =
    gives_none before (take used piece) new
    (omega (
      arith,
      length-append before (take used piece),
      length-append before piece,
      length-take used piece,
    )) g
no_step (step.End used) before piece new le g b h =
    ends_none before (take used piece) new
    (omega (
      arith,
      length-append before (take used piece),
      length-append before piece,
      length-take used piece,
    )) b g
no_step step.More before piece new le g b (inl (n, e)) = cc
no_step step.More before piece new le g b (inr (n, e)) = cc
no_step (step.Bad s) before piece new le g b (inl (n, e)) = cc
no_step (step.Bad s) before piece new le g b (inr (n, e)) = cc

-- the version of a longer file
version_bad : (b rest : List ℕ) (s : Stop) → length b ≡ 16 → header_fault (take 16 b) ≡ Some s
    → version_read (b ++ rest) ≡ None
unfolding version_read
version_bad b rest s size fault =
    let front = take-append-le 16 b rest (omega arith) in
    rw (le-ltb (length (b ++ rest)) 16 (omega (arith, length-append b rest)), front, fault) refl

version_good : (b rest : List ℕ) → length b ≡ 16 → header_fault (take 16 b) ≡ None
    → version_read (b ++ rest) ≡ Some (version_of (take 16 b))
unfolding version_read
version_good b rest size fault =
    let front = take-append-le 16 b rest (omega arith) in
    rw (le-ltb (length (b ++ rest)) 16 (omega (arith, length-append b rest)), front, fault) refl

version_short : (b : List ℕ) → length b < 16 → version_read b ≡ None
unfolding version_read
version_short b less = rw (lt-ltb (length b) 16 less) refl

pub version_refused : (b rest : List ℕ) (t : Stop) → length b ≤ 16 → (reading b).ending ≡ Bad t
    → version_read (b ++ rest) ≡ None
version_refused b rest t le bad =
    elim (header_read b le) [
      | cut_short less r ↦ let e = ap (λ (r : Reading). r.ending) r in absurd cc
      | refused s size f r ↦ version_bad b rest s size f
      | accepted size f r ↦ let e = ap (λ (r : Reading). r.ending) r in absurd cc
    ]

-- the versions that are accepted
one_or_two : (h : List ℕ) → header_fault h ≡ None → version_of h ≡ 1 ⊎ version_of h ≡ 2
unfolding header_fault
one_or_two h fault = grind arith

-- the place behind a header
place_one : (place : ℕ) (phase : Phase) (r : Reading) → r ≡ ends (Open 1 []) → Shows place phase r
    → place ≡ 1
place_one place (Waiting pending) r is shows =
    let e = ap (λ (r : Reading). r.ending) is in cc (e, shows)
place_one place (Holding x) r is shows =
    let e = ap (λ (r : Reading). r.ending) is in cc (e, shows.0)
place_one place Done r is shows =
    let e = ap (λ (r : Reading). r.ending) is in absurd (cc (e, shows.0))
place_one place (Stopped s) r is shows =
    let e = ap (λ (r : Reading). r.ending) is in absurd (cc (e, shows.0))

-- the bytes of a header that wasn't refused
pub record Accepted (s : Sight) (bytes : List ℕ) : Type 0 where
  pub place : s.reader.place ≡ 1
  pub version : s.reader.version ≡ version_of (take 16 bytes)
  pub size : length bytes ≡ 16
  pub fault : header_fault (take 16 bytes) ≡ None

accepted_is : (s : Sight) (rest file : Option (List ℕ)) (bytes : List ℕ)
    → TookBytes s rest file bytes → s.used ≡ 16 → Accepted s bytes
accepted_is s rest file bytes t full =
    elim (header_read bytes (omega (arith, t.used))) [
      | cut_short less r ↦ absurd (omega (arith, t.used))
      | refused f size e r ↦ absurd (t.goes_on f (ap (λ (r : Reading). r.ending) r))
      | accepted size e r ↦
          let place = place_one s.reader.place s.reader.phase (reading bytes) r t.stands.shows in
          record {
            place = place;
            version = t.stands.version (omega arith);
            size = size;
            fault = e;
          }
    ]

pub took_header : (s : Sight) (rest file : Option (List ℕ)) → s.used ≡ 16
    → Reached s rest file [] → TookHeader s rest file
took_header s rest file full r =
    let a = accepted_is s rest file r.bytes r.took full in
    record {
      reached = r;
      told = λ whole is.
          let behind = told whole r.took is in
          ap version_read behind.2
          ∙ version_good r.bytes (s.left ++ behind.0) a.size a.fault ∙ ap Some (sym a.version);
    }

pub begun_is : (s : Sight) (rest file : Option (List ℕ)) → s.used ≡ 16
    → Reached s rest file [] → IsBegun s
begun_is s rest file full r =
    let a = accepted_is s rest file r.bytes r.took full in
    record {
      begun = omega (arith, a.place);
      version = subst (λ (v : ℕ). v ≡ 1 ⊎ v ≡ 2) (sym a.version)
          (one_or_two (take 16 r.bytes) a.fault);
      bound = r.took.within;
    }

-- a header that is refused
pub header_bad : (s : Sight) (reader : Standing) (t : Stop) (part left : List ℕ)
    (rest file : Option (List ℕ)) → s.left ≡ part ++ left → s.used + length part ≤ 16
    → ((before : List ℕ) → StandsFor s.reader before → Refuses before part reader)
    → reader.phase ≡ Stopped t → Reached s rest file []
    → RefusesHeader s.dir file (end_by t)
header_bad s reader t part left rest file split le answers stopped r =
    let a = answers r.bytes r.took.stands in
    let bad = stopped_is reader (r.bytes ++ part) t stopped a.stands in
    record {
      stops = bad_part s reader t part left rest file [] split answers stopped r;
      none = λ whole is.
          let behind = told whole r.took is in
          ap version_read (behind.2 ∙ whole_parts r.bytes part left behind.0 s.left split)
          ∙ version_refused (r.bytes ++ part) (left ++ behind.0) t
          (omega (arith, length-append r.bytes part, r.took.used)) bad;
    }

-- a file that is shorter than a header
short_lawful : (dir : Dir) (file : List ℕ) → length file < 16
    → lawful_of dir file ≡ record { items = []; end = end.Malformed }
unfolding lawful_after
short_lawful dir file less =
    let read : reading (take limit file) ≡ ends (Open 0 file) =
    ap reading (take_all limit file (omega arith)) ∙ reading_short file less in
    lawful_is dir file ∙ rw (read, le-ltb limit (length file) (omega arith)) refl

pub header_short : (dir : Dir) (file : Option (List ℕ))
    → ((whole : List ℕ) → file ≡ Some whole → length whole < 16)
    → RefusesHeader dir file end.Malformed
header_short dir file less = record {
  stops = record {
    lawful = λ whole is. short_lawful dir whole (less whole is);
    unlawful = refl;
  };
  none = λ whole is. version_short whole (less whole is);
}

pub header_stops : (dir : Dir) (file : Option (List ℕ)) (e : End)
    → ((whole : List ℕ) → file ≡ Some whole → length whole < 16)
    → Stops dir file [] e → RefusesHeader dir file e
header_stops dir file e less stops = record {
  stops = stops;
  none = λ whole is. version_short whole (less whole is);
}

pub header_lost : (s : Sight) (rest file : Option (List ℕ)) → s.used < 16
    → Lost s rest file [] → LacksHeader rest file
header_lost s rest file less l = record {
  read = l.reached.bytes;
  short = omega (arith, l.reached.took.used);
  file_is = l.reached.took.file_is
      ∙ ap (λ (left : List ℕ). ahead l.reached.bytes (ahead left rest)) l.none_left
      ∙ ap (ahead l.reached.bytes) (ahead_none rest);
}

-- ---- from the opening on

reached_fresh : (dir : Dir) (rest : Option (List ℕ)) → Reached (fresh dir) rest rest []
reached_fresh dir rest =
    let none : reading [] ≡ ends (Open 0 []) = reading_short [] (omega arith) in
    record {
      bytes = [];
      took = record {
        file_is = sym (ahead_none (ahead [] rest) ∙ ahead_none rest);
        stands = start_stands;
        goes_on = λ s bad. let e = ap (λ (r : Reading). r.ending) none in cc;
        used = refl;
        within = omega arith;
      };
      items_are = ap (λ (r : Reading). r.items) none;
      lawful = none_lawful dir;
    }

pub fresh_reached : (s : Sight) (rest : Option (List ℕ)) → s ≡ fresh s.dir → Reached s rest rest []
fresh_reached s rest same =
    subst (λ (t : Sight). Reached t rest rest []) (sym same) (reached_fresh s.dir rest)

pub fresh_parts : (s : Sight) → s ≡ fresh s.dir → (s.used ≡ 0) × (length s.left ≡ 0)
fresh_parts s same = (ap (λ (t : Sight). t.used) same, ap (λ (t : Sight). length t.left) same)

pub not_true : (answer : Bool) → answer ≡ false → (r : Result Bool Halt) → r ≡ Ok answer
    → r ≡ Ok true → ⊥
not_true answer unset r is set = let same = sym is ∙ set in cc

pub header_halts : (h : Halt) (s : Sight) (rest file : Option (List ℕ))
    → Halts h s rest file [] → s.used < 16
    → (NoReadFault {T = Bool} (Err h) → (whole : List ℕ) → file ≡ Some whole → length whole < 16)
    → HeaderHalts h s rest file
header_halts (halt.Stops e) s rest file stops less size = header_stops s.dir file e (size tt) stops
header_halts halt.ReadFault s rest file lost less size = header_lost s rest file less lost
header_halts halt.WriteFault s rest file never less size = never
