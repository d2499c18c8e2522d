-- Judging goes on within a piece: by each answer of the reader.
use Rattle.std.proofs.Common.{◌≡◌, ◌++◌, ◌+◌, ◌≤◌, ◌<◌, List, ℕ, [], refl, ap, ◌∙◌, sym, subst, length, take, drop, append_assoc, append-nil, arith, Option, Some, None, Result, Ok}
use Rattle.std.proofs.Math.Seq.{take-add}
use Rattle.std.proofs.lemmas.List.{take-append-drop, take_all}
use Rattle.pl_base.specs.declared.stop.Stop.{Stop}
use Rattle.pl_io.specs.declared.failed.Failed.{Failed}
use Rattle.pl_capture.specs.Entry.{Entry}
use Rattle.pl_capture.specs.Reading.{reading}
use Rattle.pl_capture.specs.Standing.{Standing, StandsFor, Waiting, Holding, Done, Stopped, NeedsMore, GivesItem, ReachesEnd, Refuses}
use Rattle.pl_profile.specs.declared.profile.Profile.{Profile}
use Rattle.pl_engine.specs.declared.engine.Engine.{Engine}
use Rattle.pl_engine.specs.Engine as engine
use Rattle.pl_engine.specs.Verdicts.{history_after}
use Rattle.pl_engine.proofs.Lists.{length-history}
use Rattle.pl_cli.specs.declared.judging.Judging.{Judging}
use Rattle.pl_cli.specs.Output.{View}
use Rattle.pl_cli.specs.Progress.{Accepts, Blocks, CutIn, Fails, Gathering, Gathers, Loses, PieceGathered, PieceJudged, RefusedHolding, SoFar, Tells, lines_in}
use Rattle.pl_cli.proofs.Gathered.{all_sent, gathers_written}
use Rattle.pl_cli.proofs.Longer.{done_goes, holding_goes, prefix, stays, stopped_is, waiting_goes}
use Rattle.pl_cli.proofs.Refusals.{cut_before, engine_refuses, gathering_lost, reader_refuses, refused_before, refused_lost, sink_fails}
use Rattle.pl_cli.proofs.Steps.{gathering_item, gathering_on}

-- the reader as it is after an answer, and the counts as before
abbrev pub with_reader : Judging → Standing → Judging
with_reader j s = record { reader = s; items = j.items; listed = j.listed; verdicts = j.verdicts }

-- before the first item of a piece nothing is held
pub gathering_start : {v : View} {p : Profile} {j : Judging} {k : Engine} {w w1 : Tells} (before piece held : List ℕ) → held ≡ [] →
    SoFar v p before j k w w1 → Gathering v p (before ++ take 0 piece) j k held w w1
gathering_start {v} {p} {j} {k} {w} {w1} before piece held none f =
    let start : Gathering v p before j k [] w w1 = record { judged = f.judged; gathers = gathers_written (lines_in v p before) w w1 f.written f.room_left } in
    subst (λ (h : List ℕ). Gathering v p (before ++ take 0 piece) j k h w w1) (sym none)
    (subst (λ (b : List ℕ). Gathering v p b j k [] w w1) (sym (append-nil before)) start)

-- the bytes so far and a part of what is left
pub part_on : (before piece rest : List ℕ) (place used : ℕ) → rest ≡ drop place piece → (before ++ take place piece) ++ take used rest ≡ before ++ take (place + used) piece
part_on before piece rest place used h =
    append_assoc before (take place piece) (take used rest)
    ∙ ap (λ (l : List ℕ). before ++ (take place piece ++ take used l)) h ∙ ap (λ (l : List ℕ). before ++ l) (sym (take-add place used piece))

-- the bytes so far and all that is left
pub all_on : (before piece rest : List ℕ) (place : ℕ) → rest ≡ drop place piece → (before ++ take place piece) ++ rest ≡ before ++ piece
all_on before piece rest place h =
    append_assoc before (take place piece) rest ∙ ap (λ (l : List ℕ). before ++ (take place piece ++ l)) h
    ∙ ap (λ (l : List ℕ). before ++ l) (take-append-drop place piece)

pub all_behind : (before piece : List ℕ) (place : ℕ) → (before ++ take place piece) ++ drop place piece ≡ before ++ piece
all_behind before piece place = all_on before piece (drop place piece) place refl

pub piece_more : {v : View} {p : Profile} {j : Judging} {k : Engine} {h : List ℕ} {w w1 : Tells} (so_far more bytes : List ℕ) (new : Standing) →
    so_far ++ more ≡ bytes → Gathering v p so_far j k h w w1 → NeedsMore so_far more new → ((pending : List ℕ) × (new.phase ≡ Waiting pending)) →
    Gathering v p bytes (with_reader j new) k h w w1
piece_more {v} {p} {j} {k} {h} {w} {w1} so_far more bytes new e f a b =
    subst (λ (l : List ℕ). Gathering v p l (with_reader j new) k h w w1) e
    (gathering_on so_far (so_far ++ more) (with_reader j new) f a.items a.stands (waiting_goes new (so_far ++ more) b.0 b.1 a.stands) refl refl refl)

pub piece_end : {v : View} {p : Profile} {j : Judging} {k : Engine} {h : List ℕ} {w w1 : Tells} (so_far more bytes : List ℕ) (new : Standing) →
    so_far ++ more ≡ bytes → Gathering v p so_far j k h w w1 → ReachesEnd so_far more new → new.phase ≡ Done →
    Gathering v p bytes (with_reader j new) k h w w1
piece_end {v} {p} {j} {k} {h} {w} {w1} so_far more bytes new e f a b =
    subst (λ (l : List ℕ). Gathering v p l (with_reader j new) k h w w1) e
    (gathering_on so_far (so_far ++ more) (with_reader j new) f a.items a.stands (done_goes new (so_far ++ more) b a.stands) refl refl refl)

pub piece_bad : {v : View} {p : Profile} {j : Judging} {k : Engine} {h : List ℕ} {w w1 : Tells} (so_far more bytes : List ℕ) (new : Standing) (s : Stop) →
    so_far ++ more ≡ bytes → Gathering v p so_far j k h w w1 → Refuses so_far more new → new.phase ≡ Stopped s →
    RefusedHolding v p bytes s k h w w1
piece_bad {v} {p} {j} {k} {h} {w} {w1} so_far more bytes new s e f a b =
    let bad = stopped_is new (so_far ++ more) s b a.stands in
    subst (λ (l : List ℕ). RefusedHolding v p l s k h w w1) e
    (reader_refuses so_far (so_far ++ more) s f a.items bad (λ rest. stays (so_far ++ more) rest s bad))

-- as many items were judged as the history has
pub counted : {v : View} {p : Profile} {j : Judging} {k : Engine} {h : List ℕ} {w w1 : Tells} (bytes : List ℕ) →
    Gathering v p bytes j k h w w1 → j.items ≡ length (history_after [] (reading bytes).items)
counted bytes f = omega (arith, f.judged.items, length-history [] (reading bytes).items)

pub piece_item : {v : View} {p : Profile} {j j' : Judging} {k k' : Engine} {h h' : List ℕ} {w w1 w2 : Tells} (so_far more bytes : List ℕ) (new : Standing) →
    so_far ++ more ≡ bytes → Gathering v p so_far j k h w w1 → GivesItem so_far more new → j'.reader ≡ new →
    ((past : List Entry) (x : Entry) → new.phase ≡ Holding x → engine.StandsFor k past → j.items ≡ length past →
    Accepts v past x (with_reader j new) j' k k' h h' w1 w2) →
    Gathering v p bytes j' k' h' w w2
piece_item {v} {p} {j} {j'} {k} {k'} {h} {h'} {w} {w1} {w2} so_far more bytes new e f a same judged =
    let stands : StandsFor j'.reader (so_far ++ more) = subst (λ (s : Standing). StandsFor s (so_far ++ more)) (sym same) a.stands in
    subst (λ (l : List ℕ). Gathering v p l j' k' h' w w2) e
    (gathering_item so_far (so_far ++ more) a.item (with_reader j new) f a.items stands
    (holding_goes j'.reader (so_far ++ more) a.item (ap (λ (s : Standing). s.phase) same ∙ a.holds) stands) refl refl refl
    (judged (history_after [] (reading so_far).items) a.item a.holds f.judged.engine_stands (counted so_far f)))

pub piece_blocked : {v : View} {p : Profile} {j : Judging} {k k' : Engine} {h h' : List ℕ} {w w1 w2 : Tells} (so_far more rest bytes : List ℕ) (new : Standing) (s : Stop) →
    (so_far ++ more) ++ rest ≡ bytes → Gathering v p so_far j k h w w1 → GivesItem so_far more new →
    ((past : List Entry) (x : Entry) → new.phase ≡ Holding x → engine.StandsFor k past → j.items ≡ length past → Blocks past x s k k' h h' w1 w2) →
    RefusedHolding v p bytes s k' h' w w2
piece_blocked {v} {p} {j} {k} {k'} {h} {h'} {w} {w1} {w2} so_far more rest bytes new s e f a judged =
    subst (λ (l : List ℕ). RefusedHolding v p l s k' h' w w2) e
    (refused_before (so_far ++ more) rest
    (engine_refuses so_far (so_far ++ more) a.item s f a.items (prefix (so_far ++ more))
    (judged (history_after [] (reading so_far).items) a.item a.holds f.judged.engine_stands (counted so_far f))))

pub piece_lost : {v : View} {p : Profile} {j : Judging} {k k' : Engine} {h : List ℕ} {w w1 w2 : Tells} (so_far more rest bytes : List ℕ) (new : Standing) →
    (so_far ++ more) ++ rest ≡ bytes → Gathering v p so_far j k h w w1 → GivesItem so_far more new →
    ((past : List Entry) (x : Entry) → new.phase ≡ Holding x → engine.StandsFor k past → j.items ≡ length past → Loses v past x k k' h w1 w2) →
    CutIn v p bytes k' w w2
piece_lost {v} {p} {j} {k} {k'} {h} {w} {w1} {w2} so_far more rest bytes new e f a judged =
    subst (λ (l : List ℕ). CutIn v p l k' w w2) e
    (cut_before (so_far ++ more) rest
    (sink_fails so_far (so_far ++ more) a.item f a.items (prefix (so_far ++ more))
    (judged (history_after [] (reading so_far).items) a.item a.holds f.judged.engine_stands (counted so_far f))))

-- the whole piece was used
pub piece_done : {v : View} {p : Profile} {j : Judging} {k : Engine} {h : List ℕ} {w w1 : Tells} (before piece : List ℕ) (place : ℕ) →
    length piece ≤ place → Gathering v p (before ++ take place piece) j k h w w1 → Gathering v p (before ++ piece) j k h w w1
piece_done {v} {p} {j} {k} {h} {w} {w1} before piece place le f =
    subst (λ (l : List ℕ). Gathering v p (before ++ l) j k h w w1) (take_all place piece le) f

-- what was held is written
pub piece_written : (v : View) (p : Profile) (j : Judging) (k : Engine) {h h' : List ℕ} (w : Tells) {w1 w2 : Tells} (bytes : List ℕ) (stop : Option Stop) →
    (let r : Result (Option Stop) Failed = Ok stop in PieceGathered v p bytes r j k h w w1) → Gathers h h' [] w1 w2 → h' ≡ [] →
    (let r : Result (Option Stop) Failed = Ok stop in PieceJudged v p bytes r j k w w2)
piece_written v p j k {h} {h'} w bytes None f g none =
    let all = all_sent (lines_in v p bytes) h h' f.gathers g none in record { judged = f.judged; written = all.0; room_left = all.1 }
piece_written v p j k {h} {h'} w bytes (Some s) f g none =
    let all = all_sent f.before h h' f.gathers g none in record { before = f.before; refused = f.refused; written = all.0; room_left = all.1 }

-- or the sink fails within it
pub piece_unwritten : {v : View} {p : Profile} (j : Judging) {k : Engine} (h : List ℕ) {w w1 w2 : Tells} (bytes : List ℕ) (stop : Option Stop) →
    (let r : Result (Option Stop) Failed = Ok stop in PieceGathered v p bytes r j k h w w1) → 0 < length h → Fails (h ++ []) w1 w2 → CutIn v p bytes k w w2
piece_unwritten j h bytes None f some x = gathering_lost bytes f (prefix bytes) some x
piece_unwritten j h bytes (Some s) f some x = refused_lost bytes s f some x
