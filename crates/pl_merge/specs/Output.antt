-- What is written of two files, and the status.
use Rattle.std.specs.Prelude.{ℕ, max, List, [], ◌++◌, map, length, Option, Some, None}
use Rattle.std.specs.List.{concat}
use Rattle.pl_base.specs.declared.link.Dir.{Dir}
use Rattle.pl_base.specs.declared.link.Dir.TheVariants.{Down, Up}
use Rattle.pl_capture.specs.Reading.{end_time, version_read}
use Rattle.pl_capture.specs.Record.{header_of, record_of, end_of}
use Rattle.pl_status.specs.declared.TheConstants.{CLEAN, MALFORMED, LIMIT, UNSUPPORTED}
use Rattle.pl_status.specs.declared.TheConstants.{WRONG_DIRECTION, FALLEN_TIME}
use Rattle.pl_merge.specs.declared.end.End.{End}
use Rattle.pl_merge.specs.declared.end.End.TheVariants as end
use Rattle.pl_merge.specs.Lawful.{Lawful, lawful_of}
use Rattle.pl_merge.specs.Merged.{Placed, merged, to_last, decider}

pub record Outcome : Type 0 where
  pub bytes : List ℕ
  pub status : ℕ

abbrev pub status_of : End → ℕ
status_of end.Ended = CLEAN
status_of end.Malformed = MALFORMED
status_of end.TooLong = LIMIT
status_of end.Unsupported = UNSUPPORTED
status_of end.WrongDirection = WRONG_DIRECTION
status_of end.FallenTime = FALLEN_TIME

abbrev pub records_of : List Placed → List ℕ
records_of ms = concat (map (λ m. record_of m.item) ms)

abbrev pub of_file : {A : Type 0} → Dir → A → A → A
of_file Down a b = a
of_file Up a b = b

-- A capture of these items, with this header and time of its end.
abbrev pub capture_of : ℕ → ℕ → List Placed → List ℕ
capture_of version time ms =
    header_of version 0 ++ (records_of ms ++ end_of (length ms) time)

-- Or its front up to the last item of a file.
abbrev pub cut_after : ℕ → Dir → List Placed → List ℕ
cut_after version file ms = header_of version 0 ++ records_of (to_last file ms)

abbrev pub decided : ℕ → ℕ → List Placed → End → End → Option Dir → Outcome
decided version time ms first second None =
    record { bytes = capture_of version time ms; status = CLEAN }
decided version time ms first second (Some file) =
    record {
      bytes = cut_after version file ms;
      status = status_of (of_file file first second);
    }

abbrev pub outcome_in : ℕ → ℕ → Lawful → Lawful → Outcome
outcome_in version time first second =
    let ms = merged first.items second.items in
    decided version time ms first.end second.end (decider ms first.end second.end)

-- A header that is refused decides at once.
abbrev pub refused : End → Outcome
refused e = record { bytes = []; status = status_of e }

abbrev pub by_headers : Option ℕ → Option ℕ → ℕ → Lawful → Lawful → Outcome
by_headers None other time first second = refused first.end
by_headers (Some version) None time first second = refused second.end
by_headers (Some version) (Some other) time first second =
    outcome_in (max version other) time first second

-- The one capture of a file of packets that travel down and one of packets that travel up.
unfoldable pub outcome_of : List ℕ → List ℕ → Outcome
outcome_of first second =
    by_headers (version_read first) (version_read second)
    (max (end_time first) (end_time second)) (lawful_of Down first) (lawful_of Up second)
