-- The history of a run of the program that ended without a fault.
use Rattle.std.proofs.Common.{◌≡◌, ℕ, Bool, false, true≢false, List, length, refl, sym, ◌∙◌}
use Rattle.std.specs.Prelude.{All, Some}
use Rattle.play_outside.specs.SinkState.{SinkState}
use Rattle.play_outside.specs.declared.sink.Sent.{Sent}
use Rattle.play_outside.specs.declared.sink.Sent.TheVariants as sent
use Rattle.clip_format.specs.Table.{media_names}
use Rattle.history_model.specs.text.History.{history_text}
use Rattle.history_replay.specs.Replay.{IsReplayable, NamesShortClips}
use Rattle.play_server.specs.Program.{AtSite, program_of}
use Rattle.server_run.specs.Run.{is_cut, playout_of}
use Rattle.server_run.specs.Devices.{DeviceStates}
use Rattle.play_server.specs.Statuses.{HasServedClients}
use Rattle.server_run.specs.declared.served.ServeEnd.TheVariants as serve
use Rattle.play_server.proofs.ADeviceFails.{no_faults}
use Rattle.server_laws.proofs.IsReplayable.{run_replayable, taken_by_new}

-- what was not cut was wholly written
pub whole : (written : Sent) → is_cut written ≡ false → written ≡ sent.All
whole sent.All uncut = refl
whole sent.Failed uncut = absurd (true≢false uncut)

module _ {C D O L : Type 0} (device : DeviceStates C D O L) (tells : L → SinkState) (line : List (List ℕ)) (moments : AtSite C D O × AtSite C D O)
    (run : HasServedClients device tells line serve.Ended moments) where
  -- the output for the history holds its text
  pub text_taken : (text : List ℕ) → (device.out run.served.finished.history).taken ≡ Some text
      → text ≡ history_text (media_names run.setup.media) run.served.serves.history
  text_taken text told =
      let serves = run.served.serves in
      let uncut = no_faults device tells (program_of run.setup) (run.served.given, run.served.finished) serves in
      taken_by_new serves.written (device.out run.served.given.history) (device.out run.served.finished.history)
      (history_text (media_names run.setup.media) serves.history) text run.served.ready.new.history (whole serves.written uncut.2) serves.text told

  -- it is a history that its text plays again
  pub program_replayable : (digests : Bool) → All (NamesShortClips (media_names run.setup.media)) run.served.serves.history
      → IsReplayable (playout_of (program_of run.setup) digests) run.served.serves.history
  program_replayable digests named =
      let doors : length run.served.given.doors.items ≡ run.setup.config.connections = sym run.served.given.doors.ok.0 ∙ run.served.ready.doors in
      run_replayable device tells (program_of run.setup) serve.Ended (run.served.given, run.served.finished) digests run.served.serves doors named
