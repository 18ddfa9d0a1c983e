-- What `read_history` reads, and what it returns.
use Rattle.std.specs.Prelude.{◌≡◌, ℕ, ◌+◌, ◌≤◌, Bool, false, Some, None, Result, Ok, Err, List, All, length}
use Rattle.play_types.specs.History.{stop_at}
use Rattle.play_outside.specs.Faults.{Rose}
use Rattle.play_outside.specs.Source.{Gives, IsAtEnd}
use Rattle.play_outside.specs.SourceState.{SourceState}
use Rattle.history_model.specs.scripts.Input.{unended}
use Rattle.history_replay.specs.Replay.{IsWritten}
use Rattle.server_setup.specs.declared.setup.ServerSetup.{ServerSetup}
use Rattle.script_player.specs.Playouts.{playout_of}
use Rattle.history_reader.specs.HistoryText.{faulty_line, has_stop, text_events}
use Rattle.history_reader.specs.declared.fault.ReadHistoryFault.{ReadHistoryFault}
use Rattle.history_reader.specs.declared.fault.ReadHistoryFault.TheVariants.{Line, Device, OutOfMemory, TooLong}
use Rattle.history_reader.specs.declared.reading.ReadHistory.{ReadHistory}
use Rattle.history_reader.specs.declared.reading.TheConstants.{MAX_HISTORY_BYTES}

-- each line of the text is one of a history on this setup. The stage is made for its configuration, has the events of the text without the
-- stop at its end, and accepts more. Scripts can ask for these events. `bytes_left_out` bytes follow the last line feed
pub record IsReadFrom (setup : ServerSetup) (text : List ℕ) (history : ReadHistory) : Type 0 where
  pub right : faulty_line (playout_of setup false) text ≡ None
  pub events : history.stage.journal.events ≡ text_events (playout_of setup false) text
  pub running : stop_at history.stage.journal.events ≡ None
  pub limit : history.stage.journal.limit ≡ setup.config.journal_limit
  pub channels : history.stage.channels ≡ length setup.config.channels
  pub written : (digests : Bool) → All (IsWritten (playout_of setup digests)) history.stage.journal.events
  pub on : (digests : Bool) → playout_of history.setup digests ≡ playout_of setup digests
  pub given_back : history.setup ≡ setup
  pub stop : history.stop_left_out ≡ has_stop (playout_of setup false) text
  pub left_out : history.bytes_left_out ≡ length (unended text)

-- all of the input is a text that is not too long, and no read failed
pub record IsWholeText (text : List ℕ) (before after : SourceState) : Type 0 where
  pub few : length text ≤ MAX_HISTORY_BYTES
  pub at_end : IsAtEnd after
  pub quiet : after.faults ≡ before.faults

-- how the reading of a text ends: its history was read; or a line of it is none of a history; or it is too long; or a read failed; or
-- memory ran out
abbrev pub ReadEnds : ServerSetup → Result ReadHistory ReadHistoryFault → List ℕ → SourceState → SourceState → Type 0
ReadEnds setup (Ok history) text before after = IsWholeText text before after × IsReadFrom setup text history
ReadEnds setup (Err (Line number)) text before after =
    IsWholeText text before after × (faulty_line (playout_of setup false) text ≡ Some number)
ReadEnds setup (Err TooLong) text before after = (length text ≡ MAX_HISTORY_BYTES + 1) × (after.faults ≡ before.faults)
ReadEnds setup (Err Device) text before after = (length text ≤ MAX_HISTORY_BYTES) × Rose before.faults after.faults
ReadEnds setup (Err OutOfMemory) text before after = (length text ≤ MAX_HISTORY_BYTES) × (after.faults ≡ before.faults)

-- what was read of the input, and how the reading ended
pub record ReadsHistory (setup : ServerSetup) (result : Result ReadHistory ReadHistoryFault) (before after : SourceState) : Type 0 where
  pub text : List ℕ
  pub gives : Gives text before.left after.left
  pub ends : ReadEnds setup result text before after
