-- What a log has of the history of its run, and how it is played again.
use Rattle.std.proofs.Common.{◌≡◌, ℕ, Bool, List, ◌++◌, length, sym, ap, ◌∙◌, subst, append-nil}
use Rattle.std.specs.Prelude.{All, Some}
use mathlib.Core.List.{IsPrefix}
use Rattle.play_types.specs.declared.event.Event.{Event}
use Rattle.play_outside.specs.SinkState.{SinkState}
use Rattle.play_outside.specs.declared.devices.Devices.{Devices}
use Rattle.play_outside.specs.declared.sink.Sent.TheVariants as sent
use Rattle.clip_format.specs.Table.{media_names}
use Rattle.history_model.specs.scripts.History.{PlayedLine, script_events}
use Rattle.history_model.specs.scripts.Memory.{HasMemory, lines_played}
use Rattle.history_model.specs.scripts.Output.{script_output}
use Rattle.history_model.specs.text.History.{joined_events, log_text}
use Rattle.history_replay.specs.Replay.{IsReplayable, NamesShortClips, script_of}
use Rattle.history_replay.specs.ReplayOutput.{history_output}
use Rattle.history_replay.proofs.Marked.{log_events, log_output}
use Rattle.play_server.specs.Program.{AtSite, program_of}
use Rattle.server_run.specs.Run.{HasRun, Program, playout_of}
use Rattle.server_run.specs.Devices.{DeviceStates}
use Rattle.play_server.specs.Statuses.{HasServedClients}
use Rattle.server_run.specs.declared.served.ServeEnd.{ServeEnd}
use Rattle.server_run.specs.declared.served.ServeEnd.TheVariants as serve
use Rattle.play_server.proofs.ADeviceFails.{no_faults}
use Rattle.server_laws.proofs.HasServedClients.{whole}
use Rattle.server_laws.proofs.IsReplayable.{run_replayable, taken_by_new}

module _ {C D O L : Type 0} (words : DeviceStates C D O L) (tells : L → SinkState) (program : Program) (end : ServeEnd) (devices : Devices C D O × Devices C D O)
    (run : HasRun words tells program end devices) where
  -- the log is of a part of the history
  pub part_logged : IsPrefix (joined_events run.log.pieces) run.history
  part_logged = (run.log.rest, sym run.log.whole)

  module _ (all : run.logged ≡ sent.All) where
    -- the log is of all of the history if no write failed
    pub all_logged : joined_events run.log.pieces ≡ run.history
    all_logged =
        sym (run.log.whole ∙ ap (λ (l : List Event). joined_events run.log.pieces ++ l) (run.log.all all) ∙ append-nil (joined_events run.log.pieces))

    module _ (digests : Bool) (many : length devices.0.doors.items ≡ program.config.connections) (named : All (NamesShortClips (media_names program.media)) run.history)
        (played : List PlayedLine) (same : lines_played played ≡ script_of (log_text (media_names program.media) run.log.pieces)) (without : HasMemory (playout_of program digests) played) where
      log_replayable : IsReplayable (playout_of program digests) (joined_events run.log.pieces)
      log_replayable = subst (IsReplayable (playout_of program digests)) (sym all_logged) (run_replayable words tells program end devices digests run many named)

      pub logged_events : script_events (playout_of program digests) played ≡ run.history
      logged_events = log_events (playout_of program digests) run.log.pieces played log_replayable same without ∙ all_logged

      pub logged_output : script_output (playout_of program digests) played ≡ history_output (playout_of program digests) run.history
      logged_output =
          log_output (playout_of program digests) run.log.pieces played log_replayable same without ∙ ap (history_output (playout_of program digests)) all_logged

module _ {C D O L : Type 0} (device : DeviceStates C D O L) (tells : L → SinkState) (line : List (List ℕ)) (moments : AtSite C D O × AtSite C D O)
    (run : HasServedClients device tells line serve.Ended moments) where
  -- no write of the log failed in a run that ended without a fault
  pub whole_logged : run.served.serves.logged ≡ sent.All
  whole_logged = whole run.served.serves.logged (no_faults device tells (program_of run.setup) (run.served.given, run.served.finished) run.served.serves).3

  -- the output for the log holds it
  pub log_taken : (text : List ℕ) → (device.out run.served.finished.log).taken ≡ Some text
      → text ≡ log_text (media_names run.setup.media) run.served.serves.log.pieces
  log_taken text told =
      let serves = run.served.serves in
      taken_by_new serves.logged (device.out run.served.given.log) (device.out run.served.finished.log)
      (log_text (media_names run.setup.media) serves.log.pieces) text run.served.ready.new.log whole_logged serves.log.sends told
