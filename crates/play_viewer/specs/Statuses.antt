-- What the exit status of the program means.
use Rattle.std.specs.Prelude.{◌≡◌, ◌⊎◌, ℕ, ◌≤◌, false, Option, None, Some, List, [], Result, Ok, Err, codes, string_bytes}
use Rattle.clap.specs.Words.{fault_of, first_of, matches_of}
use Rattle.play_outside.specs.Faults.{Rose}
use Rattle.play_outside.specs.FolderState.{Files, FolderState}
use Rattle.server_setup.specs.Fault.{status_of}
use Rattle.server_setup.specs.Setup.{SetsUp, fault_of_files}
use Rattle.server_setup.specs.declared.fault.RunFault.{RunFault}
use Rattle.server_setup.specs.declared.fault.RunFault.TheVariants as fault
use Rattle.server_setup.specs.declared.setup.ServerSetup.{ServerSetup}
use Rattle.play_viewer.specs.Moves.{DeskState, Opened, after_move, opening_of}
use Rattle.play_viewer.specs.Program.{AtDesk, IsToldAs, SaysLine, viewed_of}
use Rattle.play_viewer.specs.ViewerWords.{Accepts, IsRefusedLine, has_too_many, playview_app}
use Rattle.play_viewer.specs.Viewing.{Views}
use Rattle.play_viewer.specs.declared.words.ViewerWords.{ViewerWords}

-- the arguments are accepted, the files of the folder are known, and `first` is their first fault, or there is none
pub record HasFirstFault (line : List (List ℕ)) (first : Option RunFault) (folder : FolderState) : Type 0 where
  pub path : List ℕ
  pub files : Files
  pub accepted : fault_of playview_app line ≡ []
  pub few : has_too_many (matches_of playview_app line) ≡ false
  pub config : first_of (codes "config") (matches_of playview_app line) ≡ Some path
  pub told : folder.files ≡ Some files
  pub first_is : fault_of_files path files ≡ first

-- the arguments were accepted, and the setup met this fault
pub record IsRefused (line : List (List ℕ)) (fault : RunFault) (folders : FolderState × FolderState) : Type 0 where
  pub named : ViewerWords
  pub accepted : Accepts line named
  pub refused : SetsUp (string_bytes named.config) (Err fault) folders.0 folders.1

-- the configuration was refused: it is not TOML, or a key of it is refused
abbrev pub RefusesConfig : List (List ℕ) → FolderState × FolderState → Type 0
RefusesConfig line folders = IsRefused line fault.ConfigText folders ⊎ ((key : List ℕ) × IsRefused line (fault.ConfigKey key) folders)

-- the clips were refused: two have one name, or they are too large
abbrev pub RefusesClips : List (List ℕ) → FolderState × FolderState → Type 0
RefusesClips line folders = ((name : List ℕ) × IsRefused line (fault.MediaTwice name) folders) ⊎ ((total : ℕ) × IsRefused line (fault.MediaTotal total) folders)

-- the arguments were accepted, a viewer was set up as they ask, the desk was opened, and this came of the viewing
pub record HasViewed (line : List (List ℕ)) (result : Result (Unit {0}) RunFault) (folders : FolderState × FolderState) (before after : DeskState) : Type 0 where
  pub named : ViewerWords
  pub accepted : Accepts line named
  pub setup : ServerSetup
  pub set_up : SetsUp (string_bytes named.config) (Ok setup) folders.0 folders.1
  pub views : Views (viewed_of named setup) result (after_move (Opened (opening_of named)) before) after

-- a viewing met this fault, and its line was printed
pub record HasMet (line : List (List ℕ)) (met : RunFault) (folders : FolderState × FolderState) (before after : DeskState) : Type 0 where
  pub between : DeskState
  pub viewed : HasViewed line (Err met) folders before between
  pub says : SaysLine met between after

-- the log was refused: a line of it is none of a log, or it is too long
abbrev pub RefusesViewed : List (List ℕ) → FolderState × FolderState → DeskState → DeskState → Type 0
RefusesViewed line folders before after =
    ((number : ℕ) × HasMet line (fault.BadLine number) folders before after) ⊎ HasMet line fault.InputTooLong folders before after

-- a count of faults rose: of the folder or of the desk
abbrev pub SomethingFails : AtDesk × AtDesk → Type 0
SomethingFails moments = Rose moments.0.folder.faults moments.1.folder.faults ⊎ Rose moments.0.desk.faults moments.1.desk.faults

-- a viewing met that memory ran out, or a fault for whose line memory ran out, and the line of OutOfMemory was printed
pub record HasLost (line : List (List ℕ)) (folders : FolderState × FolderState) (before after : DeskState) : Type 0 where
  pub met : RunFault
  pub told_is : IsToldAs met fault.OutOfMemory
  pub between : DeskState
  pub viewed : HasViewed line (Err met) folders before between
  pub says : SaysLine fault.OutOfMemory between after

-- the exit status of a call of the program has its cause
pub record HasItsCause (line : List (List ℕ)) (status : ℕ) (moments : AtDesk × AtDesk) : Type 0 where
  pub most : status ≤ 5
  -- 1 comes only if the arguments are refused, and then the status is 1, or 5 if memory ran out
  pub usage : status ≡ 1 → IsRefusedLine line
  pub refused : IsRefusedLine line → (status ≡ 1) ⊎ (status ≡ 5)
  -- 2 comes only if the configuration or the log is refused, and 3 only if the clips are
  pub config : status ≡ 2 → RefusesConfig line (moments.0.folder, moments.1.folder)
      ⊎ RefusesViewed line (moments.0.folder, moments.1.folder) moments.0.desk moments.1.desk
  pub clips : status ≡ 3 → RefusesClips line (moments.0.folder, moments.1.folder)
  -- 4 comes only if a count of faults rose: of the folder or of the desk
  pub device : status ≡ 4 → SomethingFails moments
  -- 5 comes only if memory ran out, before the desk was open or in a viewing, and no call of the desk failed but that for the line
  pub memory : status ≡ 5 → SaysLine fault.OutOfMemory moments.0.desk moments.1.desk
      ⊎ HasLost line (moments.0.folder, moments.1.folder) moments.0.desk moments.1.desk
  -- 0 comes only after a viewing that the desk has ended
  pub success : status ≡ 0 → HasViewed line (Ok tt) (moments.0.folder, moments.1.folder) moments.0.desk moments.1.desk
  -- if the arguments are accepted and the known files of the folder have no fault, the status is 0, or 5, or 4 and a count rose, or 2
  -- and the log is refused
  pub valid : HasFirstFault line None moments.0.folder
      → (status ≡ 0) ⊎ ((status ≡ 5) ⊎ (((status ≡ 4) × SomethingFails moments)
      ⊎ ((status ≡ 2) × RefusesViewed line (moments.0.folder, moments.1.folder) moments.0.desk moments.1.desk)))
  -- if the files have a fault, the first one decides, unless a read of the folder failed or memory ran out
  pub invalid : (found : RunFault) → HasFirstFault line (Some found) moments.0.folder
      → (status ≡ status_of found) ⊎ ((status ≡ 5) ⊎ ((status ≡ 4) × Rose moments.0.folder.faults moments.1.folder.faults))
