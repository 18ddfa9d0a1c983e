-- The whole program: the arguments, the configuration and the clips, the desk, the viewing, and the line that is printed for a fault.
use Rattle.std.specs.Prelude.{◌≡◌, ◌⊎◌, ℕ, false, List, [], ◌∷◌, ◌++◌, Result, Ok, Err, string_bytes}
use Rattle.play_outside.specs.FolderState.{FolderState}
use Rattle.play_outside.specs.declared.folder.FileFault.{FileFault}
use Rattle.play_outside.specs.declared.sink.WriteStep.{WriteStep}
use Rattle.script_player.specs.Playouts.{playout_of}
use Rattle.server_setup.specs.Fault.{HasDetail, fault_line, fault_of_file, status_of}
use Rattle.server_setup.specs.Setup.{SetsUp}
use Rattle.server_setup.specs.declared.fault.RunFault.{RunFault}
use Rattle.server_setup.specs.declared.fault.RunFault.TheVariants.{Usage, OutOfMemory}
use Rattle.server_setup.specs.declared.setup.ServerSetup.{ServerSetup}
use Rattle.play_viewer.specs.Desk.{IsNotOpened, Says}
use Rattle.play_viewer.specs.Moves.{DeskState, Opened, after_move, opening_of}
use Rattle.play_viewer.specs.ViewerWords.{ReadsWords}
use Rattle.play_viewer.specs.Viewing.{Viewed, Views}
use Rattle.play_viewer.specs.declared.words.ViewerWords.{ViewerWords}
use Rattle.play_viewer.specs.declared.words.ViewerWordsFault.{ViewerWordsFault}
use Rattle.play_viewer.specs.declared.words.ViewerWordsFault.TheVariants as words

-- a desk at one moment: its folder, and what it has recorded of its calls
pub record AtDesk : Type 0 where
  pub folder : FolderState
  pub desk : DeskState

-- the line of a fault was printed, or the desk failed to print it
pub record SaysLine (fault : RunFault) (before after : DeskState) : Type 0 where
  -- the line without its line feed
  pub line : List ℕ
  pub line_is : line ++ 10 ∷ [] ≡ fault_line fault
  pub step : WriteStep
  pub said : Says step line before after

-- the reported fault is the one that was met, or OutOfMemory if memory ran out for the name or the number in its line
abbrev pub IsToldAs : RunFault → RunFault → Type 0
IsToldAs met told = (told ≡ met) ⊎ (HasDetail met × (told ≡ OutOfMemory))

-- a fault was met and reported: the line of the reported fault was printed, and gives the exit status
pub record EndsWithFault (met : RunFault) (status : ℕ) (before after : DeskState) : Type 0 where
  pub told : RunFault
  pub told_is : IsToldAs met told
  pub says : SaysLine told before after
  pub status_is : status ≡ status_of told

-- the end of the program: status 0, and nothing is printed; or the fault was reported
abbrev pub EndsProgram : Result (Unit {0}) RunFault → ℕ → DeskState → DeskState → Type 0
EndsProgram (Ok done) status before after = (status ≡ 0) × (after ≡ before)
EndsProgram (Err fault) status before after = EndsWithFault fault status before after

-- the fault of a run whose arguments could not be parsed
abbrev pub fault_of_words : ViewerWordsFault → RunFault
fault_of_words words.Usage = Usage
fault_of_words words.OutOfMemory = OutOfMemory

-- what is viewed on a setup, as the arguments ask
abbrev pub viewed_of : ViewerWords → ServerSetup → Viewed
viewed_of named setup = record { playout = playout_of setup false; pictures = named.pictures }

-- the desk was not opened
pub record OpensNothing (result : Result (Unit {0}) RunFault) (before after : DeskState) : Type 0 where
  pub fault : FileFault
  pub met : result ≡ Err (fault_of_file fault)
  pub unopened : IsNotOpened fault before after

-- the desk was opened as the arguments ask, and then the log was viewed; or it was not opened
abbrev pub OpensAndViews : ViewerWords → ServerSetup → Result (Unit {0}) RunFault → DeskState → DeskState → Type 0
OpensAndViews named setup result before after =
    Views (viewed_of named setup) result (after_move (Opened (opening_of named)) before) after
    ⊎ OpensNothing result before after

-- the result after setup: that of the viewing; or the fault of the configuration or the clips, and no call of the desk
abbrev pub RunsSetUp : ViewerWords → Result ServerSetup RunFault → Result (Unit {0}) RunFault → DeskState → DeskState → Type 0
RunsSetUp named (Ok setup) result before after = OpensAndViews named setup result before after
RunsSetUp named (Err fault) result before after = (result ≡ Err fault) × (after ≡ before)

-- with accepted arguments: the configuration and the clips are read, and then the log is viewed
pub record RunsAccepted (named : ViewerWords) (result : Result (Unit {0}) RunFault) (moments : AtDesk × AtDesk) : Type 0 where
  pub setup : Result ServerSetup RunFault
  pub sets_up : SetsUp (string_bytes named.config) setup moments.0.folder moments.1.folder
  pub runs : RunsSetUp named setup result moments.0.desk moments.1.desk

-- the result after parsing: that of the run that the arguments ask for; or their fault, and nothing else was called
abbrev pub RunsWords : Result ViewerWords ViewerWordsFault → Result (Unit {0}) RunFault → AtDesk × AtDesk → Type 0
RunsWords (Ok named) result moments = RunsAccepted named result moments
RunsWords (Err fault) result moments = (result ≡ Err (fault_of_words fault)) × (moments.1 ≡ moments.0)

-- the arguments are parsed, and then the log is viewed as they ask. The first word of the line is the program's name
pub record RunsLine (line : List (List ℕ)) (result : Result (Unit {0}) RunFault) (moments : AtDesk × AtDesk) : Type 0 where
  pub read : Result ViewerWords ViewerWordsFault
  pub reads : ReadsWords line read
  pub runs : RunsWords read result moments

-- the whole program, from the desk before it to the desk after it
pub record RunsViewer (line : List (List ℕ)) (status : ℕ) (moments : AtDesk × AtDesk) : Type 0 where
  -- the result of the run, and the desk after it
  pub result : Result (Unit {0}) RunFault
  pub between : AtDesk
  pub runs : RunsLine line result (moments.0, between)
  pub ends : EndsProgram result status between.desk moments.1.desk
  pub folder : moments.1.folder ≡ between.folder
