-- What showing a capture with an engine that was just opened promises.
use Rattle.std.specs.Prelude.{◌≡◌, ◌≢◌, ◌≤◌, ◌⊎◌, ℕ, true, false, List, [], take, Some}
use Rattle.pl_io.specs.declared.shelf.Shelf as shelf
use Rattle.pl_io.specs.declared.sink.Sink as sink
use Rattle.pl_io.specs.Told.{plus}
use Rattle.pl_capture.specs.Reading.{reading}
use Rattle.pl_engine.specs.declared.engine.Engine.{Engine}
use Rattle.pl_engine.specs.Engine as engine
use Rattle.pl_engine.specs.Judged.{judged_items}
use Rattle.pl_engine.specs.Verdicts.{history_after}
use Rattle.pl_cli.specs.declared.status.TheConstants.{BROKEN, MALFORMED, READ_FAULT, WRITE_FAULT}
use Rattle.pl_cli.specs.Output.{AtFault, Fault, View, cause, cut, limit, output, status_of}
use Rattle.pl_cli.specs.Progress.{LostAtEnd, LostAtItem, ReadOf}
use Rattle.pl_cli.specs.Promise.{Judges}

pub record ShowsWith {H O : Type 0} (S : shelf.Ghosts H) (T : sink.Ghosts O) (view : View)
    (capture : List ℕ) (kept kept' : Engine) (old new : H) (out out' : O) (answer : ℕ)
    : Type 0 where
  -- What was read, written, answered and counted, whatever it came to.
  pub judges : Judges S T view kept.profile capture old new out out' answer
  pub status : (answer ≤ BROKEN) ⊎ ((MALFORMED ≤ answer) × (answer ≤ WRITE_FAULT))
  -- Where nothing failed, the lines are the output for the whole file, and so is the status. The
  -- engine then stands for the items before the ending.
  pub exact : S.told old ≡ true → (b : List ℕ) → S.file old capture ≡ Some b →
      answer ≢ READ_FAULT → answer ≢ WRITE_FAULT →
      (T.written out' ≡ plus (T.written out) (output view kept.profile b))
      × (answer ≡ status_of kept.profile b)
      × engine.StandsFor kept'
      (history_after [] (judged_items kept.profile (reading (take limit b))))
  -- Where reading failed, they are those of what was read, in which nothing is refused.
  pub cut_short : S.told old ≡ true → (b : List ℕ) →
      S.file old capture ≡ Some b → answer ≡ READ_FAULT →
      (read : List ℕ) × ReadOf b (S.is_open new) (S.rest new) read
      × (cause kept.profile (reading read) Fault ≡ AtFault)
      × (T.written out' ≡ plus (T.written out) (cut view kept.profile read))
      × engine.StandsFor kept' (history_after [] (reading read).items)
  -- Where the sink failed, the engine stands for a front of the items that has the one within whose
  -- lines it failed; or for all that are judged of what was read, where it failed within the last
  -- lines.
  pub lost : S.told old ≡ true → (b : List ℕ) → S.file old capture ≡ Some b →
      answer ≡ WRITE_FAULT →
      (read : List ℕ) × ReadOf b (S.is_open new) (S.rest new) read
      × (LostAtItem view kept.profile (reading (take limit read)).items kept'
      (T.written out) (T.written out')
      ⊎ LostAtEnd view kept.profile (reading (take limit read)).items kept'
      (T.written out) (T.written out'))
  -- Where the capture couldn't be opened, the engine is as it was.
  pub unopened : S.is_open new ≡ false → kept' ≡ kept
