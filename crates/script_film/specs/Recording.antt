-- What `record` reads and writes.
use Rattle.std.specs.Prelude.{◌≡◌, ◌≢◌, ◌⊎◌, ℕ, ◌+◌, ◌<◌, ◌≤◌, true, false, Option, Some, None, List, [], ◌∷◌, ◌++◌, length, take}
use Rattle.play_types.specs.ClipFile.{ClipView, clip_bytes}
use Rattle.play_outside.specs.Faults.{Rose}
use Rattle.play_outside.specs.Source.{Gives, IsAtEnd}
use Rattle.play_outside.specs.SinkState.{after_taking}
use Rattle.play_outside.specs.Sink.{Fails}
use Rattle.play_recorder.specs.Recording.{TakesPrefix}
use Rattle.history_model.specs.declared.limits.TheConstants.{MAX_INPUT_BYTES}
use Rattle.history_model.specs.recordings.Film.{film, film_span}
use Rattle.history_model.specs.scripts.Input.{received}
use Rattle.history_model.specs.scripts.Line.{Rejected}
use Rattle.history_model.specs.scripts.History.{Playout, PlayedLine, ends_at, goes_on, script_events, setup_of}
use Rattle.history_model.specs.scripts.Memory.{HasMemory}
use Rattle.server_setup.specs.declared.setup.ServerSetup.{ServerSetup}
use Rattle.server_setup.specs.declared.fault.RunFault.{RunFault}
use Rattle.server_setup.specs.declared.fault.RunFault.TheVariants as faults
use Rattle.script_player.specs.Run.{IsPrefix, Streams}
use Rattle.script_player.specs.Playouts.{playout_of}
use Rattle.script_player.specs.Script.{IsAtLast, Reading, meanings, played_meanings}

-- a request for a film: the playout of its script, and the name of the recording, in capitals
pub record FilmRequest : Type 0 where
  pub playout : Playout
  pub name : List ℕ

-- all lines of an input, which is not too long, were played
pub record IsWholeScript (playout : Playout) (reading : Reading) (played : List PlayedLine) : Type 0 where
  pub ended : reading.ended ≡ true
  pub few : length reading.bytes ≤ MAX_INPUT_BYTES
  pub said : played_meanings played ≡ meanings (received reading.bytes true)
  pub runs_on : goes_on playout played ≡ true

-- the lines of an input were played up to one at which the run ends, which is the server's own stop or a kill
pub record IsStoppedScript (playout : Playout) (reading : Reading) (played : List PlayedLine) : Type 0 where
  pub part : Reading
  pub prefix : IsPrefix reading part
  pub at : IsAtLast playout part
  pub lines : played ≡ at.before ++ at.last ∷ []
  pub accepted : at.last.line ≢ Rejected
  pub ends : ends_at playout at.before at.last at.last.line ≡ true

-- a script was played to its end, or to a line at which the run ends, and no reply to its lines reports out of memory
pub record IsPlayedOut (playout : Playout) (reading : Reading) (played : List PlayedLine) : Type 0 where
  pub lines : IsWholeScript playout reading played ⊎ IsStoppedScript playout reading played
  pub memory : HasMemory playout played

-- a script was played out, and its history has this film of the name
pub record HasFilm (request : FilmRequest) (reading : Reading) (clip : ClipView) : Type 0 where
  pub played : List PlayedLine
  pub out : IsPlayedOut request.playout reading played
  pub found : film (setup_of request.playout) (script_events request.playout played) request.name ≡ Some clip

-- a script was played out, and its history has no film of the name
pub record HasNoFilm (request : FilmRequest) (reading : Reading) : Type 0 where
  pub played : List PlayedLine
  pub out : IsPlayedOut request.playout reading played
  pub none : film_span (script_events request.playout played) request.name ≡ None

-- these lines were played, the run goes on after them, and no reply to them reports out of memory
pub record ArePlayed (playout : Playout) (lines : List (List ℕ)) : Type 0 where
  pub played : List PlayedLine
  pub said : played_meanings played ≡ meanings lines
  pub runs_on : goes_on playout played ≡ true
  pub memory : HasMemory playout played

-- the last line of a part of what was read is rejected, and this is its number; no reply to the lines before it reports out of memory
pub record RejectsLine (playout : Playout) (reading : Reading) (number : ℕ) : Type 0 where
  pub part : Reading
  pub prefix : IsPrefix reading part
  pub at : IsAtLast playout part
  pub rejected : at.last.line ≡ Rejected
  pub place : number ≡ length at.before + 1
  pub memory : HasMemory playout at.before

-- no read of the input failed
abbrev pub NoReadFails : Streams → Streams → Type 0
NoReadFails before after = after.input.faults ≡ before.input.faults

-- no read of the input failed, and nothing was written
abbrev pub WritesNothing : Streams → Streams → Type 0
WritesNothing before after = NoReadFails before after × (after.out ≡ before.out)

-- how a recording ends after what was read: the film was written; or there is none; or a line is rejected; or the input is too long; or a
-- read or a write of the film failed; or memory ran out, also for a reply
abbrev pub RecordEnds : FilmRequest → Option RunFault → Reading → Streams → Streams → Type 0
RecordEnds request None reading before after =
    (clip : ClipView) × HasFilm request reading clip × NoReadFails before after × (after.out ≡ after_taking before.out (clip_bytes clip))
RecordEnds request (Some (faults.Record told)) reading before after =
    HasNoFilm request reading × (told ≡ request.name) × WritesNothing before after
RecordEnds request (Some (faults.BadLine number)) reading before after =
    RejectsLine request.playout reading number × WritesNothing before after
RecordEnds request (Some faults.InputTooLong) reading before after =
    (MAX_INPUT_BYTES < length reading.bytes) × ArePlayed request.playout (received (take MAX_INPUT_BYTES reading.bytes) false)
    × WritesNothing before after
RecordEnds request (Some faults.Device) reading before after =
    (ArePlayed request.playout (received reading.bytes false) × Rose before.input.faults after.input.faults × (after.out ≡ before.out))
    ⊎ ((clip : ClipView) × HasFilm request reading clip × NoReadFails before after × Fails (clip_bytes clip) before.out after.out)
RecordEnds request (Some faults.OutOfMemory) reading before after =
    NoReadFails before after
    × ((after.out ≡ before.out)
    ⊎ ((clip : ClipView) × HasFilm request reading clip × TakesPrefix (clip_bytes clip) before.out after.out))
RecordEnds request (Some faults.Usage) reading before after = ⊥
RecordEnds request (Some faults.ConfigText) reading before after = ⊥
RecordEnds request (Some (faults.ConfigKey key)) reading before after = ⊥
RecordEnds request (Some (faults.Plan number)) reading before after = ⊥
RecordEnds request (Some faults.PlanEnd) reading before after = ⊥
RecordEnds request (Some (faults.Resume number)) reading before after = ⊥
RecordEnds request (Some (faults.Clip fault)) reading before after = ⊥
RecordEnds request (Some (faults.MediaTwice name)) reading before after = ⊥
RecordEnds request (Some (faults.MediaTotal sum)) reading before after = ⊥

-- what was read of the input, and how the recording ended
pub record RecordsFilm (request : FilmRequest) (fault : Option RunFault) (before after : Streams) : Type 0 where
  pub reading : Reading
  pub gives : Gives reading.bytes before.input.left after.input.left
  pub at_end : reading.ended ≡ true → IsAtEnd after.input
  pub ends : RecordEnds request fault reading before after

-- the request for the film of a name in the history of a script on a setup
abbrev pub film_of : ServerSetup → List ℕ → FilmRequest
film_of setup name = record { playout = playout_of setup false; name = name }
