-- The whole program: the arguments, the configuration and the clips, the devices, the run, and the line that is printed for a fault.
use Rattle.std.specs.Prelude.{◌≡◌, ◌⊎◌, ℕ, true, false, Option, Some, None, List, [], ◌∷◌, ◌++◌, Result, Ok, Err, option_map, string_bytes}
use Rattle.play_outside.specs.FolderState.{FolderState}
use Rattle.play_outside.specs.SinkState.{SinkState}
use Rattle.play_outside.specs.SourceState.{SourceState}
use Rattle.play_outside.specs.declared.devices.Devices.{Devices}
use Rattle.play_outside.specs.declared.folder.FileFault.{FileFault}
use Rattle.play_outside.specs.declared.folder.FileFault.TheVariants as file
use Rattle.play_outside.specs.declared.sink.WriteStep.{WriteStep}
use Rattle.server_setup.specs.Fault.{HasNumber, fault_line, fault_of_file, status_of}
use Rattle.server_setup.specs.Setup.{SetsUp}
use Rattle.server_setup.specs.declared.fault.RunFault.{RunFault}
use Rattle.server_setup.specs.declared.fault.RunFault.TheVariants.{Usage, ConfigText, ConfigKey, BadLine, InputTooLong, Plan, PlanEnd, Record, Resume, Clip, MediaTwice, MediaTotal, Device, OutOfMemory}
use Rattle.server_setup.specs.declared.setup.ServerSetup.{ServerSetup}
use Rattle.history_reader.specs.Reading.{ReadsHistory}
use Rattle.history_reader.specs.Fault.{fault_of_history}
use Rattle.history_reader.specs.declared.fault.ReadHistoryFault.{ReadHistoryFault}
use Rattle.history_reader.specs.declared.reading.ReadHistory.{ReadHistory}
use Rattle.server_run.specs.Run.{Program, Serves}
use Rattle.server_run.specs.Beginning.{program_from}
use Rattle.play_server.specs.ServerWords.{ReadsWords}
use Rattle.server_run.specs.Devices.{DeviceStates}
use Rattle.play_server.specs.Site.{AreReady, Finishes, IsNotOpened, IsNotReady, Opens, Says, ready_call}
use Rattle.play_server.specs.SiteState.{SiteState, after_call}
use Rattle.server_run.specs.declared.served.ServeEnd.{ServeEnd}
use Rattle.server_run.specs.declared.served.ServeEnd.TheVariants as serve
use Rattle.play_server.specs.declared.site.FinishStep.{FinishStep}
use Rattle.play_server.specs.declared.site.FinishStep.TheVariants as finish
use Rattle.play_server.specs.declared.words.ServerWords.{ServerWords}
use Rattle.play_server.specs.declared.words.ServerWordsFault.{ServerWordsFault}
use Rattle.play_server.specs.declared.words.ServerWordsFault.TheVariants as words

-- the exit status: 0, or that of the fault
abbrev pub status_in : Result (Unit {0}) RunFault → ℕ
status_in (Ok done) = 0
status_in (Err fault) = status_of fault

-- the configuration and the clips of a setup. The run begins with no events
abbrev pub program_of : ServerSetup → Program
program_of setup = record { config = setup.config; media = setup.media; given = [] }

-- a requested run: its configuration and clips, and the path of the history's file, if there is one
pub record Asked : Type 0 where
  pub program : Program
  pub path : Option (List ℕ)

-- the requested run on a setup
abbrev pub asked_of : ServerSetup → Option (List ℕ) → Asked
asked_of setup path = record { program = program_of setup; path = path }

-- the requested run on a setup, or the fault of the setup
abbrev pub asked_in : Result ServerSetup RunFault → Option (List ℕ) → Result Asked RunFault
asked_in (Ok setup) path = Ok (asked_of setup path)
asked_in (Err fault) path = Err fault

-- a requested run that goes on from a history: the setup, the path of that history, and the path of the history's file, if there is one
pub record Resumption : Type 0 where
  pub setup : ServerSetup
  pub from : List ℕ
  pub path : Option (List ℕ)

-- the run that goes on from a history on a setup, or the fault of the setup
abbrev pub resumption_in : Result ServerSetup RunFault → List ℕ → Option (List ℕ) → Result Resumption RunFault
resumption_in (Ok setup) from path = Ok (record { setup = setup; from = from; path = path })
resumption_in (Err fault) from path = Err fault

-- the requested run that goes on from the events of a history that was read, on the setup that its reader gave back
abbrev pub asked_after : ReadHistory → Option (List ℕ) → Asked
asked_after history path = record { program = program_from history.setup.config history.setup.media history.stage; path = path }

-- the requested run that goes on from a history, or the fault of the history
abbrev pub asked_read : Result ReadHistory ReadHistoryFault → Option (List ℕ) → Result Asked RunFault
asked_read (Ok history) path = Ok (asked_after history path)
asked_read (Err fault) path = Err (fault_of_history fault)

-- the line of the fault needs memory: it has a key, a name, or a number other than the length of all clip files
abbrev pub TakesMemory : RunFault → Type 0
TakesMemory Usage = ⊥
TakesMemory ConfigText = ⊥
TakesMemory (ConfigKey key) = Unit {0}
TakesMemory (BadLine number) = Unit {0}
TakesMemory InputTooLong = ⊥
TakesMemory (Plan number) = Unit {0}
TakesMemory PlanEnd = ⊥
TakesMemory (Record name) = Unit {0}
TakesMemory (Resume number) = Unit {0}
TakesMemory (Clip fault) = HasNumber fault
TakesMemory (MediaTwice name) = Unit {0}
TakesMemory (MediaTotal total) = ⊥
TakesMemory Device = ⊥
TakesMemory OutOfMemory = ⊥

-- the reported fault is the one that was met, or OutOfMemory if memory ran out for the line of the one that was met
abbrev pub IsToldAs : RunFault → RunFault → Type 0
IsToldAs met told = (told ≡ met) ⊎ (TakesMemory met × (told ≡ OutOfMemory))

-- the fault of a run whose arguments could not be parsed
abbrev pub fault_of_words : ServerWordsFault → RunFault
fault_of_words words.Usage = Usage
fault_of_words words.OutOfMemory = OutOfMemory

module _ (C D O : Type 0) where
  -- a site at one moment: its folder, and what it has recorded of its own calls
  pub record AtSite : Type 0 where
    pub folder : FolderState
    pub site : SiteState C D O

module _ {C D O : Type 0} where
  -- the line of a fault was printed, or the site failed to print it
  pub record SaysLine (fault : RunFault) (before after : SiteState C D O) : Type 0 where
    -- the line without its line feed
    pub line : List ℕ
    pub line_is : line ++ 10 ∷ [] ≡ fault_line fault
    pub step : WriteStep
    pub said : Says step line before after

  -- the history at a path was opened, and read on a setup
  pub record ReadsAt (asked : Resumption) (read : Result ReadHistory ReadHistoryFault) (before after : SiteState C D O) : Type 0 where
    -- its source before and after
    pub source : SourceState
    pub left : SourceState
    pub opens : Opens asked.from source before after
    pub reads : ReadsHistory asked.setup read source left

  -- the history that was asked for was not opened
  pub record OpensNothing (result : Result (Unit {0}) RunFault) (before after : SiteState C D O) : Type 0 where
    pub fault : FileFault
    pub met : result ≡ Err (fault_of_file fault)
    pub unopened : IsNotOpened fault before after

  -- what is printed at the end: nothing, or the line of the fault
  abbrev pub SaysEnd : Result (Unit {0}) RunFault → SiteState C D O → SiteState C D O → Type 0
  SaysEnd (Ok done) before after = after ≡ before
  SaysEnd (Err fault) before after = SaysLine fault before after

module _ {C D O L : Type 0} where
  -- the site gave devices for the requested run, which ended with `end`, and took them back
  pub record ServesOn (device : DeviceStates C D O L) (tells : L → SinkState) (asked : Asked) (end : ServeEnd) (moments : SiteState C D O × SiteState C D O) : Type 0 where
    pub given : Devices C D O
    pub finished : Devices C D O
    pub ready : AreReady device asked.program.config given
    pub serves : Serves device tells asked.program end (given, finished)
    -- whether the history got its name
    pub step : FinishStep
    pub finishes : Finishes step finished (after_call (ready_call asked.program.config asked.path true) moments.0) moments.1

  -- the result of a requested run. Ok: no device failed, and the history has its name. Device: a device failed in the run, or none
  -- failed but the history did not get its name, or the site failed to give devices. OutOfMemory: memory ran out before the run, or
  -- for the devices
  abbrev pub RunsOn : DeviceStates C D O L → (L → SinkState) → Asked → Result (Unit {0}) RunFault → SiteState C D O × SiteState C D O → Type 0
  RunsOn device tells asked (Ok done) moments = (served : ServesOn device tells asked serve.Ended moments) × (served.step ≡ finish.Done)
  RunsOn device tells asked (Err Device) moments =
      ServesOn device tells asked serve.DeviceFault moments
      ⊎ (((served : ServesOn device tells asked serve.Ended moments) × (served.step ≡ finish.Failed))
      ⊎ IsNotReady file.Failed (ready_call asked.program.config asked.path false) moments.0 moments.1)
  RunsOn device tells asked (Err OutOfMemory) moments =
      ServesOn device tells asked serve.OutOfMemory moments
      ⊎ IsNotReady file.OutOfMemory (ready_call asked.program.config asked.path false) moments.0 moments.1
  RunsOn device tells asked (Err Usage) moments = ⊥
  RunsOn device tells asked (Err ConfigText) moments = ⊥
  RunsOn device tells asked (Err (ConfigKey key)) moments = ⊥
  RunsOn device tells asked (Err (BadLine number)) moments = ⊥
  RunsOn device tells asked (Err InputTooLong) moments = ⊥
  RunsOn device tells asked (Err (Plan number)) moments = ⊥
  RunsOn device tells asked (Err PlanEnd) moments = ⊥
  RunsOn device tells asked (Err (Record name)) moments = ⊥
  RunsOn device tells asked (Err (Resume number)) moments = ⊥
  RunsOn device tells asked (Err (Clip fault)) moments = ⊥
  RunsOn device tells asked (Err (MediaTwice name)) moments = ⊥
  RunsOn device tells asked (Err (MediaTotal total)) moments = ⊥

  -- the result after setup: that of the run; or the fault of the configuration or the clips, as it is reported, and no call of the site
  abbrev pub RunsSetUp : DeviceStates C D O L → (L → SinkState) → Result Asked RunFault → Result (Unit {0}) RunFault → SiteState C D O × SiteState C D O → Type 0
  RunsSetUp device tells (Ok asked) result moments = RunsOn device tells asked result moments
  RunsSetUp device tells (Err fault) result moments = (told : RunFault) × IsToldAs fault told × (result ≡ Err told) × (moments.1 ≡ moments.0)

  -- the result of a run that goes on from a history that was read: memory ran out for the frames of its last tick, and the site was not
  -- called; or that of the run
  abbrev pub GoesOn : DeviceStates C D O L → (L → SinkState) → Asked → Result (Unit {0}) RunFault → SiteState C D O × SiteState C D O → Type 0
  GoesOn device tells asked result moments =
      ((result ≡ Err OutOfMemory) × (moments.1 ≡ moments.0))
      ⊎ RunsOn device tells asked result moments

  -- the result after reading a history: that of the run that goes on from it; or the fault of the history, as it is reported, and no call
  -- of the site
  abbrev pub RunsRead : DeviceStates C D O L → (L → SinkState) → Result Asked RunFault → Result (Unit {0}) RunFault → SiteState C D O × SiteState C D O → Type 0
  RunsRead device tells (Ok asked) result moments = GoesOn device tells asked result moments
  RunsRead device tells (Err fault) result moments = (told : RunFault) × IsToldAs fault told × (result ≡ Err told) × (moments.1 ≡ moments.0)

  -- the history that was asked for was opened and read, and then the server ran, or not
  pub record RunsOpened (device : DeviceStates C D O L) (tells : L → SinkState) (asked : Resumption) (result : Result (Unit {0}) RunFault) (moments : SiteState C D O × SiteState C D O) : Type 0 where
    pub read : Result ReadHistory ReadHistoryFault
    -- the site after the history was opened
    pub opened : SiteState C D O
    pub reads : ReadsAt asked read moments.0 opened
    pub runs : RunsRead device tells (asked_read read asked.path) result (opened, moments.1)

  -- the result after setup if the run goes on from a history: the history was opened, or it was not; or the fault of the configuration or
  -- the clips, as it is reported, and no call of the site
  abbrev pub ResumesSetUp : DeviceStates C D O L → (L → SinkState) → Result Resumption RunFault → Result (Unit {0}) RunFault → SiteState C D O × SiteState C D O → Type 0
  ResumesSetUp device tells (Ok asked) result moments = RunsOpened device tells asked result moments ⊎ OpensNothing result moments.0 moments.1
  ResumesSetUp device tells (Err fault) result moments = (told : RunFault) × IsToldAs fault told × (result ≡ Err told) × (moments.1 ≡ moments.0)

  -- with accepted arguments: the configuration and the clips are read, and then the server runs, from nothing or from a history
  pub record RunsAccepted (device : DeviceStates C D O L) (tells : L → SinkState) (named : ServerWords) (result : Result (Unit {0}) RunFault) (moments : AtSite C D O × AtSite C D O) : Type 0 where
    pub setup : Result ServerSetup RunFault
    pub sets_up : SetsUp (string_bytes named.config) setup moments.0.folder moments.1.folder
    pub runs : option_map string_bytes named.resume ≡ None
        → RunsSetUp device tells (asked_in setup (option_map string_bytes named.journal)) result (moments.0.site, moments.1.site)
    pub resumes : (from : List ℕ) → option_map string_bytes named.resume ≡ Some from
        → ResumesSetUp device tells (resumption_in setup from (option_map string_bytes named.journal)) result (moments.0.site, moments.1.site)

  -- the result after parsing: that of the run that the arguments ask for; or their fault, and nothing else was called
  abbrev pub RunsWords : DeviceStates C D O L → (L → SinkState) → Result ServerWords ServerWordsFault → Result (Unit {0}) RunFault → AtSite C D O × AtSite C D O → Type 0
  RunsWords device tells (Ok named) result moments = RunsAccepted device tells named result moments
  RunsWords device tells (Err fault) result moments = (result ≡ Err (fault_of_words fault)) × (moments.1 ≡ moments.0)

  -- the arguments are parsed, and then the server runs as they ask. The first word of the line is the program's name
  pub record RunsLine (device : DeviceStates C D O L) (tells : L → SinkState) (line : List (List ℕ)) (result : Result (Unit {0}) RunFault) (moments : AtSite C D O × AtSite C D O) : Type 0 where
    pub read : Result ServerWords ServerWordsFault
    pub reads : ReadsWords line read
    pub runs : RunsWords device tells read result moments

  -- the whole program, from the site before it to the site after it
  pub record RunsServer (device : DeviceStates C D O L) (tells : L → SinkState) (line : List (List ℕ)) (status : ℕ) (moments : AtSite C D O × AtSite C D O) : Type 0 where
    -- the result of the run, and the site after it
    pub result : Result (Unit {0}) RunFault
    pub between : AtSite C D O
    pub runs : RunsLine device tells line result (moments.0, between)
    pub says : SaysEnd result between.site moments.1.site
    pub folder : moments.1.folder ≡ between.folder
    pub status_is : status ≡ status_in result
