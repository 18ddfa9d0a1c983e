-- What `run_main` promises of a run.
use Rattle.std.specs.Prelude.{◌≡◌, ◌≢◌, ◌↔◌, ℕ, ◌<◌, ◌≤◌, ◌⊎◌, Bool, true, Option, Some, None, Ok, Err, List, [], ◌∷◌, ◌++◌, length, IfSome, MatchOption}
use Rattle.std.specs.List.{list_all}
use Rattle.std.specs.Str.Lines.{lines}
use Rattle.play_outside.specs.Faults.{Rose}
use Rattle.play_outside.specs.FolderState.{FolderState, Files}
use Rattle.play_outside.specs.SourceState.{SourceState}
use Rattle.play_outside.specs.SinkState.{SinkState, after_taking}
use Rattle.play_outside.specs.Sink.{Fails}
use Rattle.history_model.specs.declared.limits.TheConstants.{MAX_INPUT_BYTES}
use Rattle.history_model.specs.scripts.Line.{Rejected, until_stop}
use Rattle.history_model.specs.recordings.Film.{film, film_span}
use Rattle.history_model.specs.scripts.History.{Playout, PlayedLine, ends_at, goes_on, script_events, setup_of}
use Rattle.history_model.specs.scripts.Input.{ended_lines}
use Rattle.history_model.specs.scripts.Memory.{HasMemory}
use Rattle.history_model.specs.scripts.Generator.{generator_output}
use Rattle.play_types.specs.declared.geometry.Geometry.{Geometry}
use Rattle.script_player.specs.declared.ending.Ending.{Ending}
use Rattle.script_player.specs.Ending.{exit_status, last_line, status_of, fault_line}
use Rattle.server_setup.specs.declared.setup.ServerSetup.{ServerSetup}
use Rattle.server_setup.specs.declared.fault.RunFault.{RunFault}
use Rattle.server_setup.specs.declared.fault.RunFault.TheVariants.{Usage}
use Rattle.run_script.specs.CommandLine.{CommandLine, Plain, Configured, Generated, Converted, Planned, Recorded, command_line_of}
use Rattle.play_types.specs.ClipFile.{ClipView, clip_bytes}
use Rattle.clip_format.specs.Decoding.{clip_of}
use Rattle.clip_format.specs.Preparing.{straight_clip}
use Rattle.run_script.specs.declared.converting.TheConstants.{MAX_CLIP_BYTES}
use Rattle.made_script.specs.Generating.{Generates}
use Rattle.run_script.specs.Converting.{Converts}
use Rattle.cue_player.specs.Planning.{PlaysPlan, PlaysSheet}
use Rattle.script_film.specs.Recording.{FilmRequest, RecordsFilm, film_of}
use Rattle.play_schedule.specs.declared.limits.TheConstants.{MAX_SHEET_BYTES}
use Rattle.play_schedule.specs.SheetView.{SheetView}
use Rattle.play_schedule.specs.Sheet.{sheet_of}
use Rattle.script_player.specs.Playouts.{plain_playout, playout_of}
use Rattle.script_player.specs.Script.{is_accepted, meanings, played_meanings}
use Rattle.server_setup.specs.Setup.{SetsUp, fault_of_files}
use Rattle.server_setup.specs.Fault as table
use Rattle.script_player.specs.Run.{Streams, RunsScript}
use Rattle.script_player.specs.Shown.{Shown, Frames, shown_output}

-- all that `run_main` reads and writes: the folder of configurations and clips, the input and the output
pub record Outside : Type 0 where
  pub media : FolderState
  pub input : SourceState
  pub out : SinkState

-- the input and the output of these
abbrev pub streams_of : Outside → Streams
streams_of outside = record { input = outside.input; out = outside.out }

-- the line of a fault was written, or a write failed after a part of it
abbrev pub WritesFaultLine : List ℕ → SinkState → SinkState → Type 0
WritesFaultLine line before after = (after ≡ after_taking before line) ⊎ Fails line before after

-- the words are no command line: nothing is read, and the line of this fault is written
abbrev pub SaysUsage : Outside → Outside → Type 0
SaysUsage before after =
    (after.media ≡ before.media) × (after.input ≡ before.input) × WritesFaultLine (table.fault_line Usage) before.out after.out

-- a script was run, and then the line of its fault was written, if it has one
pub record EndsRun (shown : Shown) (playout : Playout) (status : ℕ) (before after : Streams) : Type 0 where
  pub ending : Ending
  pub outcome : status ≡ status_of ending
  -- the output before the line of the fault
  pub between : SinkState
  pub run : RunsScript shown playout ending before (record { input = after.input; out = between })
  pub said : WritesFaultLine (fault_line ending) between after.out

-- nothing was set up from the configuration of this path: nothing of the input is read, and the line of the fault is written
pub record IsRefused (path : List ℕ) (status : ℕ) (before after : Outside) : Type 0 where
  pub fault : RunFault
  pub outcome : status ≡ table.status_of fault
  pub refused : SetsUp path (Err fault) before.media after.media
  pub unread : after.input ≡ before.input
  pub said : WritesFaultLine (table.fault_line fault) before.out after.out

-- a script was run on the configuration of this path and the clips of its folder
pub record IsConfigured (shown : Shown) (path : List ℕ) (digests : Bool) (status : ℕ) (before after : Outside) : Type 0 where
  pub setup : ServerSetup
  pub set_up : SetsUp path (Ok setup) before.media after.media
  pub run : EndsRun shown (playout_of setup digests) status (streams_of before) (streams_of after)

-- the summary of a generated script was written, or the line of a fault; nothing is read
pub record EndsGenerated (seed steps status : ℕ) (before after : Outside) : Type 0 where
  pub fault : Option RunFault
  pub outcome : status ≡ exit_status fault
  -- the output before the line of the fault
  pub between : SinkState
  pub made : Generates seed steps fault before.out between
  pub said : WritesFaultLine (last_line fault) between after.out
  pub media : after.media ≡ before.media
  pub unread : after.input ≡ before.input

-- the clip of the input was written with straight alpha, or the line of a fault was
pub record EndsConverted (status : ℕ) (before after : Outside) : Type 0 where
  pub fault : Option RunFault
  pub outcome : status ≡ exit_status fault
  -- the output before the line of the fault
  pub between : SinkState
  pub made : Converts fault (streams_of before) (record { input = after.input; out = between })
  pub said : WritesFaultLine (last_line fault) between after.out
  pub media : after.media ≡ before.media

-- the cue sheet of the input was played, or the line of a fault was written
pub record EndsPlan (playout : Playout) (status : ℕ) (before after : Streams) : Type 0 where
  pub fault : Option RunFault
  pub outcome : status ≡ exit_status fault
  -- the output before the line of the fault
  pub between : SinkState
  pub plan : PlaysPlan playout fault before (record { input = after.input; out = between })
  pub said : WritesFaultLine (last_line fault) between after.out

-- a cue sheet was played on the configuration of this path and the clips of its folder
pub record IsPlanned (path : List ℕ) (digests : Bool) (status : ℕ) (before after : Outside) : Type 0 where
  pub setup : ServerSetup
  pub set_up : SetsUp path (Ok setup) before.media after.media
  pub run : EndsPlan (playout_of setup digests) status (streams_of before) (streams_of after)

-- the film of the script of the input was written, or the line of a fault was
pub record EndsRecord (request : FilmRequest) (status : ℕ) (before after : Streams) : Type 0 where
  pub fault : Option RunFault
  pub outcome : status ≡ exit_status fault
  -- the output before the line of the fault
  pub between : SinkState
  pub recording : RecordsFilm request fault before (record { input = after.input; out = between })
  pub said : WritesFaultLine (last_line fault) between after.out

-- a script was played for a film on the configuration of this path and the clips of its folder
pub record IsRecorded (path name : List ℕ) (status : ℕ) (before after : Outside) : Type 0 where
  pub setup : ServerSetup
  pub set_up : SetsUp path (Ok setup) before.media after.media
  pub run : EndsRecord (film_of setup name) status (streams_of before) (streams_of after)

-- what was read and written for a command line, with this status
abbrev pub RunsCommandLine : CommandLine → ℕ → Outside → Outside → Type 0
RunsCommandLine (Plain size) status before after =
    (after.media ≡ before.media) × EndsRun Frames (plain_playout size) status (streams_of before) (streams_of after)
RunsCommandLine (Configured shown path digests) status before after =
    IsRefused path status before after ⊎ IsConfigured shown path digests status before after
RunsCommandLine (Generated seed steps) status before after = EndsGenerated seed steps status before after
RunsCommandLine Converted status before after = EndsConverted status before after
RunsCommandLine (Planned path digests) status before after =
    IsRefused path status before after ⊎ IsPlanned path digests status before after
RunsCommandLine (Recorded path name) status before after =
    IsRefused path status before after ⊎ IsRecorded path name status before after

-- the run ended at a line, which is the server's own stop or a kill, and the input was read at least to that line's end
pub record EndsAtLine (playout : Playout) (played : List PlayedLine) (read rest : List ℕ) : Type 0 where
  pub before : List PlayedLine
  pub last : PlayedLine
  pub later : List PlayedLine
  pub parts : played ≡ before ++ last ∷ later
  pub runs_on : goes_on playout before ≡ true
  pub accepted : last.line ≢ Rejected
  pub ends : ends_at playout before last last.line ≡ true
  pub whole : (rest ≡ []) ⊎ (length before < length (ended_lines read))

-- the output of the lines of an input was written, and nothing else, for some choice of the lines for which there was no memory; the
-- input was read to its end, or to a line at which the run ends
pub record PlaysInput (shown : Shown) (playout : Playout) (input : List ℕ) (before after : Streams) : Type 0 where
  pub read : List ℕ
  pub rest : List ℕ
  pub parts : input ≡ read ++ rest
  pub left : after.input.left ≡ Some rest
  pub played : List PlayedLine
  pub said : played_meanings played ≡ meanings (lines input)
  pub ended : ((goes_on playout played ≡ true) × (rest ≡ [])) ⊎ EndsAtLine playout played read rest
  pub written : after.out ≡ after_taking before.out (shown_output shown playout played)

-- the input was played, if its bytes are known, and no read or write failed
abbrev pub IsPlayed : Shown → Playout → Streams → Streams → Type 0
IsPlayed shown playout before after =
    IfSome before.input.left (λ input. PlaysInput shown playout input before after)
    × (after.input.faults ≡ before.input.faults) × (after.out.faults ≡ before.out.faults)

-- the four lines of the summary of a generated script were written, and nothing else, and nothing was read
pub record WritesSummary (seed steps : ℕ) (before after : Outside) : Type 0 where
  pub written : after.out ≡ after_taking before.out (generator_output seed steps)
  pub media : after.media ≡ before.media
  pub unread : after.input ≡ before.input

-- the clip of an input was written in version 2, and nothing else; the input was read to its end
pub record WritesStraight (input : List ℕ) (before after : Outside) : Type 0 where
  pub clip : ClipView
  pub reads : clip_of input ≡ Ok clip
  pub at_end : after.input.left ≡ Some []
  pub written : after.out ≡ after_taking before.out (clip_bytes (straight_clip clip))

-- the input is a clip that was converted, if its bytes are known, and no read or write failed
abbrev pub IsConverted : Outside → Outside → Type 0
IsConverted before after =
    IfSome before.input.left (λ input. WritesStraight input before after)
    × (after.media ≡ before.media) × (after.input.faults ≡ before.input.faults) × (after.out.faults ≡ before.out.faults)

-- the sheet of an input was played, and the input was read to its end
pub record PlaysSheetInput (playout : Playout) (input : List ℕ) (before after : Streams) : Type 0 where
  pub sheet : SheetView
  pub reads : sheet_of playout.config.rate input ≡ Ok sheet
  pub at_end : after.input.left ≡ Some []
  pub plays : PlaysSheet playout sheet before.out after.out

-- the input is a cue sheet that was played, if its bytes are known, and no read or write failed
abbrev pub IsSheetPlayed : Playout → Streams → Streams → Type 0
IsSheetPlayed playout before after =
    IfSome before.input.left (λ input. PlaysSheetInput playout input before after)
    × (after.input.faults ≡ before.input.faults) × (after.out.faults ≡ before.out.faults)

-- the film of a script was written, and nothing else; the script was played with memory for each of its lines, and the input was read
-- to its end, or to a line at which the run ends
pub record WritesFilmOf (request : FilmRequest) (input : List ℕ) (before after : Streams) : Type 0 where
  pub read : List ℕ
  pub rest : List ℕ
  pub parts : input ≡ read ++ rest
  pub left : after.input.left ≡ Some rest
  pub played : List PlayedLine
  pub said : played_meanings played ≡ meanings (lines input)
  pub ended : ((goes_on request.playout played ≡ true) × (rest ≡ [])) ⊎ EndsAtLine request.playout played read rest
  pub memory : HasMemory request.playout played
  pub clip : ClipView
  pub found : film (setup_of request.playout) (script_events request.playout played) request.name ≡ Some clip
  pub written : after.out ≡ after_taking before.out (clip_bytes clip)

-- the film of the input was written, if its bytes are known, and no read or write failed
abbrev pub IsFilmWritten : FilmRequest → Streams → Streams → Type 0
IsFilmWritten request before after =
    IfSome before.input.left (λ input. WritesFilmOf request input before after)
    × (after.input.faults ≡ before.input.faults) × (after.out.faults ≡ before.out.faults)

-- what the command line asks for was done: the input was played, or a script was generated and played, or the clip of the input was
-- converted, or its cue sheet was played, or its film was written
abbrev pub PlaysToEnd : CommandLine → Outside → Outside → Type 0
PlaysToEnd (Plain size) before after =
    (after.media ≡ before.media) × IsPlayed Frames (plain_playout size) (streams_of before) (streams_of after)
PlaysToEnd (Configured shown path digests) before after =
    (setup : ServerSetup) × SetsUp path (Ok setup) before.media after.media
    × IsPlayed shown (playout_of setup digests) (streams_of before) (streams_of after)
PlaysToEnd (Generated seed steps) before after = WritesSummary seed steps before after
PlaysToEnd Converted before after = IsConverted before after
PlaysToEnd (Planned path digests) before after =
    (setup : ServerSetup) × SetsUp path (Ok setup) before.media after.media
    × IsSheetPlayed (playout_of setup digests) (streams_of before) (streams_of after)
PlaysToEnd (Recorded path name) before after =
    (setup : ServerSetup) × SetsUp path (Ok setup) before.media after.media
    × IsFilmWritten (film_of setup name) (streams_of before) (streams_of after)

-- a read or a write of the input or of the output failed
abbrev pub StreamsFail : Outside → Outside → Type 0
StreamsFail before after = Rose before.input.faults after.input.faults ⊎ Rose before.out.faults after.out.faults

-- a read of the folder, or a read or a write of the input or of the output failed
abbrev pub DeviceFails : Outside → Outside → Type 0
DeviceFails before after = Rose before.media.faults after.media.faults ⊎ StreamsFail before after

-- if the files have a first fault, nothing of the input is read, and the status is that of the fault, unless memory ran out or a read of
-- the folder failed before; if they have none, the status is not 3, that of faulty clips
abbrev pub MeetsFault : Option RunFault → ℕ → Outside → Outside → Type 0
MeetsFault None status before after = status ≢ 3
MeetsFault (Some fault) status before after =
    ((status ≡ table.status_of fault) ⊎ ((status ≡ 5) ⊎ ((status ≡ 4) × Rose before.media.faults after.media.faults)))
    × (after.input ≡ before.input)

-- the first fault of the files of the command line is met, if the files are known; without a configuration the status is not 3
abbrev pub MeetsFirstFault : CommandLine → ℕ → Outside → Outside → Type 0
MeetsFirstFault (Plain size) status before after = status ≢ 3
MeetsFirstFault (Configured shown path digests) status before after =
    IfSome before.media.files (λ files. MeetsFault (fault_of_files path files) status before after)
MeetsFirstFault (Generated seed steps) status before after = status ≢ 3
MeetsFirstFault Converted status before after = status ≢ 3
MeetsFirstFault (Planned path digests) status before after =
    IfSome before.media.files (λ files. MeetsFault (fault_of_files path files) status before after)
MeetsFirstFault (Recorded path name) status before after =
    IfSome before.media.files (λ files. MeetsFault (fault_of_files path files) status before after)

-- the command line can be set up: with a configuration, if the files are known and have no fault, and no read of the folder fails
abbrev pub CanBeSetUp : CommandLine → Outside → Outside → Type 0
CanBeSetUp (Plain size) before after = Unit {0}
CanBeSetUp (Configured shown path digests) before after =
    (files : Files) × (before.media.files ≡ Some files) × (fault_of_files path files ≡ None)
    × (Rose before.media.faults after.media.faults → ⊥)
CanBeSetUp (Generated seed steps) before after = Unit {0}
CanBeSetUp Converted before after = Unit {0}
CanBeSetUp (Planned path digests) before after =
    (files : Files) × (before.media.files ≡ Some files) × (fault_of_files path files ≡ None)
    × (Rose before.media.faults after.media.faults → ⊥)
CanBeSetUp (Recorded path name) before after =
    (files : Files) × (before.media.files ≡ Some files) × (fault_of_files path files ≡ None)
    × (Rose before.media.faults after.media.faults → ⊥)

-- the bytes of the input are known, it is not too long, and none of its lines up to the first stop is rejected
abbrev pub IsValid : SourceState → Type 0
IsValid input =
    (bytes : List ℕ) × (input.left ≡ Some bytes) × (length bytes ≤ MAX_INPUT_BYTES)
    × (list_all is_accepted (until_stop (meanings (lines bytes))) ≡ true)

-- the bytes of the input are known, they are not too many for a clip, and they are a clip file
abbrev pub IsClipInput : SourceState → Type 0
IsClipInput input =
    (bytes : List ℕ) × (input.left ≡ Some bytes) × (length bytes ≤ MAX_CLIP_BYTES) × (clip : ClipView) × (clip_of bytes ≡ Ok clip)

-- the bytes of the input are known, they are not too many for a cue sheet, and they are a cue sheet at the rate of the configuration of
-- this path
abbrev pub IsSheetInput : List ℕ → Outside → Outside → Type 0
IsSheetInput path before after =
    (bytes : List ℕ) × (before.input.left ≡ Some bytes) × (length bytes ≤ MAX_SHEET_BYTES)
    × ((setup : ServerSetup) → SetsUp path (Ok setup) before.media after.media
    → (sheet : SheetView) × (sheet_of setup.config.rate bytes ≡ Ok sheet))

-- however these bytes are played as a script, with memory for each of its lines, its history has a film of the name
abbrev pub AlwaysHasFilm : FilmRequest → List ℕ → Type 0
AlwaysHasFilm request bytes =
    (played : List PlayedLine) → played_meanings played ≡ meanings (lines bytes) → HasMemory request.playout played
    → film_span (script_events request.playout played) request.name ≢ None

-- the input is valid, and its history on the configuration of this path has a film of the name
abbrev pub IsFilmInput : List ℕ → List ℕ → Outside → Outside → Type 0
IsFilmInput path name before after =
    (valid : IsValid before.input)
    × ((setup : ServerSetup) → SetsUp path (Ok setup) before.media after.media → AlwaysHasFilm (film_of setup name) valid.0)

-- the input is what the command line needs; a generated script needs none
abbrev pub TakesInput : CommandLine → Outside → Outside → Type 0
TakesInput (Plain size) before after = IsValid before.input
TakesInput (Configured shown path digests) before after = IsValid before.input
TakesInput (Generated seed steps) before after = Unit {0}
TakesInput Converted before after = IsClipInput before.input
TakesInput (Planned path digests) before after = IsSheetInput path before after
TakesInput (Recorded path name) before after = IsFilmInput path name before after

-- what the command line asks for succeeds, or memory runs out, if it can be set up, its input is valid, and no read or write fails
abbrev pub SucceedsIfValid : CommandLine → ℕ → Outside → Outside → Type 0
SucceedsIfValid line status before after =
    CanBeSetUp line before after → TakesInput line before after → (StreamsFail before after → ⊥) → (status ≡ 0) ⊎ (status ≡ 5)

-- what `run_main` promises of these words, with its exit status, and what is outside before and after the call
pub record PlaysScript (words : List (List ℕ)) (status : ℕ) (before after : Outside) : Type 0 where
  -- the status is 1 exactly if the words are no command line
  pub usage : (status ≡ 1) ↔ (command_line_of words ≡ None)
  -- the status is one of the table
  pub statuses : status ≤ 5
  -- what was read and written, with each status
  pub run : MatchOption (command_line_of words) (SaysUsage before after) (λ line. RunsCommandLine line status before after)
  -- with status 0 the whole script was played, and nothing but its output was written
  pub finished : status ≡ 0 → IfSome (command_line_of words) (λ line. PlaysToEnd line before after)
  -- status 4 comes only if a device failed
  pub device : status ≡ 4 → DeviceFails before after
  -- the first fault of the configuration and of the clips decides the status
  pub refused : IfSome (command_line_of words) (λ line. MeetsFirstFault line status before after)
  -- with valid files and a valid input the status is 0, or 5 if memory runs out
  pub complete : IfSome (command_line_of words) (λ line. SucceedsIfValid line status before after)
  -- nothing is written to the folder, and without a failed read of it nothing of its state changes
  pub files : after.media.files ≡ before.media.files
  pub media : status ≢ 4 → after.media ≡ before.media
