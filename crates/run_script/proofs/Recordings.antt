-- What the recording of a film does, over the streams before and after.
use Rattle.std.proofs.Common.{◌≡◌, inl, inr, ℕ, ◌<◌, ◌≤◌, true, List, [], ◌++◌, length, refl, sym, ap, ◌∙◌, subst, arith, length-append}
use Rattle.std.specs.Prelude.{◌⊎◌, Option, Some, None, IfSome}
use Rattle.std.specs.List.{list_all}
use Rattle.std.specs.Str.Lines.{lines}
use Rattle.play_outside.specs.Faults.{Rose}
use Rattle.play_outside.specs.SinkState.{SinkState}
use Rattle.play_outside.proofs.Counting.{Rose-then}
use Rattle.history_model.specs.declared.limits.TheConstants.{MAX_INPUT_BYTES}
use Rattle.history_model.specs.recordings.Film.{film, film_span}
use Rattle.history_model.specs.scripts.History.{setup_of}
use Rattle.history_model.specs.scripts.Line.{until_stop}
use Rattle.server_setup.specs.declared.fault.RunFault.{RunFault}
use Rattle.server_setup.specs.declared.fault.RunFault.TheVariants.{Usage, ConfigText, ConfigKey, BadLine, InputTooLong, Plan, PlanEnd, Record, Resume, Clip, MediaTwice, MediaTotal, Device, OutOfMemory}
use Rattle.script_player.specs.Ending.{exit_status, last_line}
use Rattle.script_player.specs.Run.{Streams}
use Rattle.script_film.specs.Recording.{FilmRequest, HasNoFilm, RecordEnds}
use Rattle.script_player.specs.Script.{Reading, meanings}
use Rattle.run_script.specs.Program.{AlwaysHasFilm, EndsRecord, IsFilmWritten, WritesFaultLine, WritesFilmOf}
use Rattle.script_player.specs.Script.{is_accepted}
use Rattle.script_player.proofs.FailedWrites.{fails_rose}
use Rattle.run_script.proofs.Complete.{line_count, nothing_written, part_of, rejected_early}
use Rattle.run_script.proofs.Conversions.{IsRead, IsStatus, read_by}
use Rattle.run_script.proofs.FilmInputs.{input_played}

module _ (request : FilmRequest) (reading : Reading) (before after : Streams) where
  status_by : (fault : Option RunFault) → RecordEnds request fault reading before after → IsStatus (exit_status fault)
  status_by None ends = (omega arith, λ e. omega (arith, e), λ e. omega (arith, e))
  status_by (Some (Record told)) ends = (omega arith, λ e. omega (arith, e), λ e. omega (arith, e))
  status_by (Some (BadLine number)) ends = (omega arith, λ e. omega (arith, e), λ e. omega (arith, e))
  status_by (Some InputTooLong) ends = (omega arith, λ e. omega (arith, e), λ e. omega (arith, e))
  status_by (Some Device) ends = (omega arith, λ e. omega (arith, e), λ e. omega (arith, e))
  status_by (Some OutOfMemory) ends = (omega arith, λ e. omega (arith, e), λ e. omega (arith, e))
  status_by (Some Usage) ends = absurd ends
  status_by (Some ConfigText) ends = absurd ends
  status_by (Some (ConfigKey key)) ends = absurd ends
  status_by (Some (Plan number)) ends = absurd ends
  status_by (Some PlanEnd) ends = absurd ends
  status_by (Some (Resume number)) ends = absurd ends
  status_by (Some (Clip fault)) ends = absurd ends
  status_by (Some (MediaTwice name)) ends = absurd ends
  status_by (Some (MediaTotal sum)) ends = absurd ends

  -- with status 0 there is no fault
  well_by : (fault : Option RunFault) → RecordEnds request fault reading before after → exit_status fault ≡ 0
      → (last_line fault ≡ []) × RecordEnds request None reading before after
  well_by None ends good = (refl, ends)
  well_by (Some (Record told)) ends good = absurd (omega (arith, good))
  well_by (Some (BadLine number)) ends good = absurd (omega (arith, good))
  well_by (Some InputTooLong) ends good = absurd (omega (arith, good))
  well_by (Some Device) ends good = absurd (omega (arith, good))
  well_by (Some OutOfMemory) ends good = absurd (omega (arith, good))
  well_by (Some Usage) ends good = absurd ends
  well_by (Some ConfigText) ends good = absurd ends
  well_by (Some (ConfigKey key)) ends good = absurd ends
  well_by (Some (Plan number)) ends good = absurd ends
  well_by (Some PlanEnd) ends good = absurd ends
  well_by (Some (Resume number)) ends good = absurd ends
  well_by (Some (Clip fault)) ends good = absurd ends
  well_by (Some (MediaTwice name)) ends good = absurd ends
  well_by (Some (MediaTotal sum)) ends good = absurd ends

  -- with status 4 a read or a write failed
  device_by : (fault : Option RunFault) → RecordEnds request fault reading before after → exit_status fault ≡ 4
      → Rose before.input.faults after.input.faults ⊎ Rose before.out.faults after.out.faults
  device_by None ends bad = absurd (omega (arith, bad))
  device_by (Some (Record told)) ends bad = absurd (omega (arith, bad))
  device_by (Some (BadLine number)) ends bad = absurd (omega (arith, bad))
  device_by (Some InputTooLong) ends bad = absurd (omega (arith, bad))
  device_by (Some Device) ends bad =
      elim ends [
        | inl failed ↦ inl failed.1
        | inr failed ↦ inr (fails_rose _ before.out after.out failed.3)
      ]
  device_by (Some OutOfMemory) ends bad = absurd (omega (arith, bad))
  device_by (Some Usage) ends bad = absurd ends
  device_by (Some ConfigText) ends bad = absurd ends
  device_by (Some (ConfigKey key)) ends bad = absurd ends
  device_by (Some (Plan number)) ends bad = absurd ends
  device_by (Some PlanEnd) ends bad = absurd ends
  device_by (Some (Resume number)) ends bad = absurd ends
  device_by (Some (Clip fault)) ends bad = absurd ends
  device_by (Some (MediaTwice name)) ends bad = absurd ends
  device_by (Some (MediaTotal sum)) ends bad = absurd ends

  module _ (input rest : List ℕ) (parts : input ≡ reading.bytes ++ rest) (at_end : reading.ended ≡ true → rest ≡ []) where
    -- a history that always has a film has one
    film_there : AlwaysHasFilm request input → HasNoFilm request reading → ⊥
    film_there always missing =
        let all = input_played request.playout reading input rest parts at_end missing.played missing.out in
        always all.played all.said all.memory (ap (λ es. film_span es request.name) all.history ∙ missing.none)

    complete_by : (fault : Option RunFault) → RecordEnds request fault reading before after → length input ≤ MAX_INPUT_BYTES
        → list_all is_accepted (until_stop (meanings (lines input))) ≡ true → AlwaysHasFilm request input
        → (Rose before.input.faults after.input.faults → ⊥) → (Rose before.out.faults after.out.faults → ⊥) → (exit_status fault ≡ 0) ⊎ (exit_status fault ≡ 5)
    complete_by None ends few accepted always read_well wrote_well = inl refl
    complete_by (Some (Record told)) ends few accepted always read_well wrote_well = absurd (film_there always ends.0)
    complete_by (Some (BadLine number)) ends few accepted always read_well wrote_well =
        let line = ends.0 in
        let more = part_of reading line.part rest input parts at_end line.prefix in
        absurd (rejected_early request.playout line.part more.0 input more.1 more.2 line.at line.rejected accepted)
    complete_by (Some InputTooLong) ends few accepted always read_well wrote_well =
        let long : MAX_INPUT_BYTES < length reading.bytes = ends.0 in
        absurd (omega (arith, long, few, ap length parts, length-append reading.bytes rest))
    complete_by (Some Device) ends few accepted always read_well wrote_well =
        elim ends [
          | inl failed ↦ absurd (read_well failed.1)
          | inr failed ↦ absurd (wrote_well (fails_rose _ before.out after.out failed.3))
        ]
    complete_by (Some OutOfMemory) ends few accepted always read_well wrote_well = inr refl
    complete_by (Some Usage) ends few accepted always read_well wrote_well = absurd ends
    complete_by (Some ConfigText) ends few accepted always read_well wrote_well = absurd ends
    complete_by (Some (ConfigKey key)) ends few accepted always read_well wrote_well = absurd ends
    complete_by (Some (Plan number)) ends few accepted always read_well wrote_well = absurd ends
    complete_by (Some PlanEnd) ends few accepted always read_well wrote_well = absurd ends
    complete_by (Some (Resume number)) ends few accepted always read_well wrote_well = absurd ends
    complete_by (Some (Clip fault)) ends few accepted always read_well wrote_well = absurd ends
    complete_by (Some (MediaTwice name)) ends few accepted always read_well wrote_well = absurd ends
    complete_by (Some (MediaTotal sum)) ends few accepted always read_well wrote_well = absurd ends

module _ (request : FilmRequest) (status : ℕ) (before after : Streams) (ends : EndsRecord request status before after) where
  abbrev middle : Streams
  middle = record { input = after.input; out = ends.between }

  abbrev reading : Reading
  reading = ends.recording.reading

  pub record_status : IsStatus status
  record_status = subst IsStatus (sym ends.outcome) (status_by request reading before middle ends.fault ends.recording.ends)

  -- the count of faults of the output does not fall with the line of the fault
  wrote : ends.between.faults ≤ after.out.faults
  wrote = line_count ends.between after.out (last_line ends.fault) ends.said

  pub record_device : status ≡ 4 → Rose before.input.faults after.input.faults ⊎ Rose before.out.faults after.out.faults
  record_device bad =
      elim (device_by request reading before middle ends.fault ends.recording.ends (sym ends.outcome ∙ bad)) [
        | inl read ↦ inl read
        | inr write ↦ inr (Rose-then before.out.faults ends.between.faults after.out.faults write wrote)
      ]

  -- what is left of an input whose bytes are known
  rest_of : (input : List ℕ) → before.input.left ≡ Some input → IsRead input reading.bytes after.input.left
  rest_of input known = read_by input reading.bytes before.input.left after.input.left known ends.recording.gives

  none_left : (input : List ℕ) → (read : IsRead input reading.bytes after.input.left) → reading.ended ≡ true → read.rest ≡ []
  none_left input read ended = subst (λ (l : Option (List ℕ)). IfSome l (λ r. r ≡ [])) read.left (ends.recording.at_end ended)

  pub record_complete : (input : List ℕ) → before.input.left ≡ Some input → length input ≤ MAX_INPUT_BYTES
      → list_all is_accepted (until_stop (meanings (lines input))) ≡ true → AlwaysHasFilm request input
      → (Rose before.input.faults after.input.faults → ⊥) → (Rose before.out.faults after.out.faults → ⊥) → (status ≡ 0) ⊎ (status ≡ 5)
  record_complete input known few accepted always read_well wrote_well =
      let read = rest_of input known in
      subst (λ s. (s ≡ 0) ⊎ (s ≡ 5)) (sym ends.outcome)
      (complete_by request reading before middle input read.rest read.parts (none_left input read) ends.fault ends.recording.ends few accepted always read_well
      (λ rose. wrote_well (Rose-then before.out.faults ends.between.faults after.out.faults rose wrote)))

  pub record_finished : status ≡ 0 → IsFilmWritten request before after
  record_finished good = (by_left before.input.left refl, well.1.2, ap (λ (s : SinkState). s.faults) (same ∙ well.1.3))
    where
      well : (last_line ends.fault ≡ []) × RecordEnds request None reading before middle
      well = well_by request reading before middle ends.fault ends.recording.ends (sym ends.outcome ∙ good)

      same : after.out ≡ ends.between
      same = nothing_written ends.between after.out (subst (λ l. WritesFaultLine l ends.between after.out) well.0 ends.said)

      by_left : (found : Option (List ℕ)) → before.input.left ≡ found → IfSome found (λ input. WritesFilmOf request input before after)
      by_left None is = tt
      by_left (Some input) is =
          let read = rest_of input is in
          let has = well.1.1 in
          let all = input_played request.playout reading input read.rest read.parts (none_left input read) has.played has.out in
          record {
            read = reading.bytes;
            rest = read.rest;
            parts = read.parts;
            left = read.left;
            played = all.played;
            said = all.said;
            ended = all.ended;
            memory = all.memory;
            clip = well.1.0;
            found = ap (λ es. film (setup_of request.playout) es request.name) all.history ∙ has.found;
            written = same ∙ well.1.3;
          }
