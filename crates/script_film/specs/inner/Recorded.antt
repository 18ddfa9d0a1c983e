-- A script that is played again for a film, and the film of a player's history.
use Rattle.std.specs.Prelude.{◌≡◌, ◌⊎◌, ℕ, true, Option, Some, None, Result, Ok, Err, List}
use Rattle.play_types.specs.ClipFile.{ClipView, clip_bytes}
use Rattle.play_outside.specs.Source.{Gives, IsAtEnd}
use Rattle.play_outside.specs.SourceState.{SourceState}
use Rattle.play_outside.specs.SinkState.{SinkState, after_taking}
use Rattle.play_outside.specs.Sink.{Fails}
use Rattle.play_recorder.specs.Recording.{TakesPrefix}
use Rattle.play_recorder.specs.declared.recording.Recorded.{Recorded}
use Rattle.play_recorder.specs.declared.recording.Recorded.TheVariants as recorded
use Rattle.history_model.specs.recordings.Film.{film, film_span}
use Rattle.history_model.specs.scripts.History.{Playout, PlayedLine}
use Rattle.server_setup.specs.declared.fault.RunFault.{RunFault}
use Rattle.server_setup.specs.declared.fault.RunFault.TheVariants as faults
use Rattle.script_film.specs.Recording.{IsPlayedOut, RecordEnds}
use Rattle.script_player.specs.Run.{Streams}
use Rattle.script_player.specs.Script.{Reading}
use Rattle.script_player.specs.declared.player.Player.{Player}
use Rattle.script_player.specs.Player.{HasHistory, events_in, setup_in}

-- an input beside an output
abbrev pub streams_with : SinkState → SourceState → Streams
streams_with out input = record { input = input; out = out }

-- a script was played out, and the player has its history
pub record HasReplayed (playout : Playout) (reading : Reading) (player : Player) : Type 0 where
  pub played : List PlayedLine
  pub out : IsPlayedOut playout reading played
  pub history : HasHistory playout played player

-- a script was played out by a player; or it was not, and any recording of it ends with this fault and writes nothing
abbrev pub ReplayEnds : Playout → Result Player RunFault → Reading → SourceState → SourceState → Type 0
ReplayEnds playout (Ok player) reading before after = HasReplayed playout reading player × (after.faults ≡ before.faults)
ReplayEnds playout (Err fault) reading before after =
    (name : List ℕ) (out : SinkState)
    → RecordEnds (record { playout = playout; name = name }) (Some fault) reading (streams_with out before) (streams_with out after)

-- what was read of the input, and how the replay ended
pub record ReplaysScript (playout : Playout) (result : Result Player RunFault) (before after : SourceState) : Type 0 where
  pub reading : Reading
  pub gives : Gives reading.bytes before.left after.left
  pub at_end : reading.ended ≡ true → IsAtEnd after
  pub ends : ReplayEnds playout result reading before after

-- the history of a player has this film of a name
abbrev pub HasFilmOf : Player → List ℕ → ClipView → Type 0
HasFilmOf player name clip = film (setup_in player) (events_in player) name ≡ Some clip

-- the film of a name was written, or there is none, or a write of it failed, or memory ran out
abbrev pub WritesFilm : Player → List ℕ → Option RunFault → SinkState → SinkState → Type 0
WritesFilm player name None before after = (clip : ClipView) × HasFilmOf player name clip × (after ≡ after_taking before (clip_bytes clip))
WritesFilm player name (Some (faults.Record told)) before after =
    (film_span (events_in player) name ≡ None) × (told ≡ name) × (after ≡ before)
WritesFilm player name (Some faults.Device) before after = (clip : ClipView) × HasFilmOf player name clip × Fails (clip_bytes clip) before after
WritesFilm player name (Some faults.OutOfMemory) before after =
    (after ≡ before) ⊎ ((clip : ClipView) × HasFilmOf player name clip × TakesPrefix (clip_bytes clip) before after)
WritesFilm player name (Some (faults.BadLine number)) before after = ⊥
WritesFilm player name (Some faults.InputTooLong) before after = ⊥
WritesFilm player name (Some faults.Usage) before after = ⊥
WritesFilm player name (Some faults.ConfigText) before after = ⊥
WritesFilm player name (Some (faults.ConfigKey key)) before after = ⊥
WritesFilm player name (Some (faults.Plan number)) before after = ⊥
WritesFilm player name (Some faults.PlanEnd) before after = ⊥
WritesFilm player name (Some (faults.Resume number)) before after = ⊥
WritesFilm player name (Some (faults.Clip fault)) before after = ⊥
WritesFilm player name (Some (faults.MediaTwice twice)) before after = ⊥
WritesFilm player name (Some (faults.MediaTotal sum)) before after = ⊥

-- the fault with which the writing of a film ended, none if it ended well
abbrev pub fault_of_film : Recorded → Option RunFault
fault_of_film recorded.All = None
fault_of_film recorded.Failed = Some faults.Device
fault_of_film recorded.OutOfMemory = Some faults.OutOfMemory
