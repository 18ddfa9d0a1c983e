-- A text of a history whose lines are played.
use Rattle.std.specs.Prelude.{◌≡◌, ℕ, ◌+◌, ◌*◌, ◌≤◌, Bool, true, false, Some, None, Result, Ok, Err, List, [], ◌∷◌, ◌++◌, length, take}
use Rattle.std.specs.List.{list_any}
use Rattle.amcp_text.specs.Lines.{is_line_end}
use Rattle.play_types.specs.History.{ticks}
use Rattle.history_model.specs.scripts.History.{Playout, goes_on}
use Rattle.history_model.specs.scripts.Input.{ended_lines, unended}
use Rattle.server_setup.specs.declared.setup.ServerSetup.{ServerSetup}
use Rattle.server_setup.specs.declared.fault.RunFault.{RunFault}
use Rattle.server_setup.specs.declared.fault.RunFault.TheVariants as faults
use Rattle.script_player.specs.declared.player.Player.{Player}
use Rattle.script_player.specs.Playouts.{playout_of}
use Rattle.script_player.specs.Player.{IsReady, events_in, playout_in}
use Rattle.script_player.specs.Ticks.{ticks_per_byte}
use Rattle.history_reader.specs.HistoryText.{faulty_line, has_stop, text_events, text_lines}
use Rattle.history_reader.specs.Reading.{IsReadFrom}
use Rattle.history_reader.specs.inner.PlayedLines.{HasPlayed}
use Rattle.history_reader.specs.declared.fault.ReadHistoryFault.{ReadHistoryFault}
use Rattle.history_reader.specs.declared.fault.ReadHistoryFault.TheVariants.{Line, Device, OutOfMemory, TooLong}
use Rattle.history_reader.specs.declared.reading.ReadHistory.{ReadHistory}
use Rattle.history_reader.specs.declared.text.TextEnd.{TextEnd}
use Rattle.history_reader.specs.declared.text.TextEnd.TheVariants.{Whole, Killed}

-- the lines of the text before `rest` were played, and their number is `count`
pub record IsPlayedUpTo (playout : Playout) (text rest : List ℕ) (player : Player) (count : ℕ) : Type 0 where
  pub done : List ℕ
  pub parts : text ≡ done ++ rest
  pub whole : unended done ≡ []
  pub played : HasPlayed playout player (ended_lines done)
  pub number : count ≡ length (ended_lines done)
  pub few : count ≤ length done
  pub ready : IsReady player
  pub time : ticks (events_in player) ≤ ticks_per_byte * length done

-- each line of the text is one of a history, and the player has its events without the stop
pub record HasText (playout : Playout) (text : List ℕ) (left_out : ℕ) (stopped : Bool) (player : Player) : Type 0 where
  pub right : faulty_line playout text ≡ None
  pub events : events_in player ≡ text_events playout text
  pub on : playout_in player ≡ playout
  pub ready : IsReady player
  pub left : left_out ≡ length (unended text)
  pub stop : stopped ≡ has_stop playout text

-- each line of the text is one of a history, and the last of them is a kill. It begins after `front` bytes, whose lines make the same
-- events without the stop
pub record IsKilled (playout : Playout) (text : List ℕ) (front left_out : ℕ) (player : Player) : Type 0 where
  pub right : faulty_line playout text ≡ None
  pub over : goes_on playout (text_lines text) ≡ false
  pub within : front ≤ length text
  pub right_before : faulty_line playout (take front text) ≡ None
  pub goes : goes_on playout (text_lines (take front text)) ≡ true
  pub events : text_events playout text ≡ text_events playout (take front text)
  pub on : playout_in player ≡ playout
  pub left : left_out ≡ length (unended text)
  pub stop : has_stop playout text ≡ true

-- how the playing of a text ends
abbrev pub PlaysText : Playout → List ℕ → Result TextEnd ReadHistoryFault → Player → Type 0
PlaysText playout text (Ok (Whole left_out stopped)) player = HasText playout text left_out stopped player
PlaysText playout text (Ok (Killed front left_out)) player = IsKilled playout text front left_out player
PlaysText playout text (Err (Line number)) player = faulty_line playout text ≡ Some number
PlaysText playout text (Err OutOfMemory) player = Unit {0}
PlaysText playout text (Err Device) player = ⊥
PlaysText playout text (Err TooLong) player = ⊥

-- a text was cut at its first line feed, if it has one
abbrev pub IsCutAtFeed : List ℕ → List ℕ → List ℕ → Type 0
IsCutAtFeed text line rest = (text ≡ line ++ 10 ∷ rest) × (list_any is_line_end line ≡ false)

-- a text has a line
pub record HasLine (text : List ℕ) : Type 0 where
  pub line : List ℕ
  pub rest : List ℕ
  pub cut : IsCutAtFeed text line rest

-- no line follows a stop, which is the line of this number; or the line that follows is faulty
abbrev pub EndsLines : ℕ → List ℕ → Result (Unit {0}) ReadHistoryFault → Type 0
EndsLines lines after (Ok done) = list_any is_line_end after ≡ false
EndsLines lines after (Err (Line number)) = (number ≡ lines + 1) × HasLine after
EndsLines lines after (Err OutOfMemory) = ⊥
EndsLines lines after (Err Device) = ⊥
EndsLines lines after (Err TooLong) = ⊥

-- the history that was read is that of the player
pub record IsHistoryOf (player : Player) (left_out : ℕ) (stopped : Bool) (history : ReadHistory) : Type 0 where
  pub stage : history.stage ≡ player.stage
  pub setup : history.setup ≡ player.setup
  pub left : history.bytes_left_out ≡ left_out
  pub stop : history.stop_left_out ≡ stopped

-- how the reading of a text ends
abbrev pub ReadsText : ServerSetup → List ℕ → Result ReadHistory ReadHistoryFault → Type 0
ReadsText setup text (Ok history) = IsReadFrom setup text history
ReadsText setup text (Err (Line number)) = faulty_line (playout_of setup false) text ≡ Some number
ReadsText setup text (Err OutOfMemory) = Unit {0}
ReadsText setup text (Err Device) = ⊥
ReadsText setup text (Err TooLong) = ⊥

-- how a text is played by a new player: as on the playout of the setup, and the player keeps that setup
abbrev pub PlaysAnew : ServerSetup → List ℕ → Result (TextEnd × Player) ReadHistoryFault → Type 0
PlaysAnew setup text (Ok (end, player)) = PlaysText (playout_of setup false) text (Ok end) player × (player.setup ≡ setup)
PlaysAnew setup text (Err (Line number)) = faulty_line (playout_of setup false) text ≡ Some number
PlaysAnew setup text (Err OutOfMemory) = Unit {0}
PlaysAnew setup text (Err Device) = ⊥
PlaysAnew setup text (Err TooLong) = ⊥

-- a fault with which the reading of an input ends
abbrev pub IsReadFault : RunFault → Type 0
IsReadFault faults.InputTooLong = Unit {0}
IsReadFault faults.Device = Unit {0}
IsReadFault faults.OutOfMemory = Unit {0}
IsReadFault faults.Usage = ⊥
IsReadFault faults.ConfigText = ⊥
IsReadFault (faults.ConfigKey key) = ⊥
IsReadFault (faults.BadLine number) = ⊥
IsReadFault (faults.Plan number) = ⊥
IsReadFault faults.PlanEnd = ⊥
IsReadFault (faults.Record name) = ⊥
IsReadFault (faults.Resume number) = ⊥
IsReadFault (faults.Clip fault) = ⊥
IsReadFault (faults.MediaTwice name) = ⊥
IsReadFault (faults.MediaTotal sum) = ⊥

-- the fault of a history whose input could not be read
abbrev pub fault_of : RunFault → ReadHistoryFault
fault_of faults.InputTooLong = TooLong
fault_of faults.Device = Device
fault_of faults.OutOfMemory = OutOfMemory
fault_of faults.Usage = OutOfMemory
fault_of faults.ConfigText = OutOfMemory
fault_of (faults.ConfigKey key) = OutOfMemory
fault_of (faults.BadLine number) = OutOfMemory
fault_of (faults.Plan number) = OutOfMemory
fault_of faults.PlanEnd = OutOfMemory
fault_of (faults.Record name) = OutOfMemory
fault_of (faults.Resume number) = OutOfMemory
fault_of (faults.Clip fault) = OutOfMemory
fault_of (faults.MediaTwice name) = OutOfMemory
fault_of (faults.MediaTotal sum) = OutOfMemory
