-- What the exit status of the program means.
use Rattle.std.specs.Prelude.{◌≡◌, ◌⊎◌, ◌≤◌, ℕ, Option, true, false, None, Some, IfSome, List, [], ◌∷◌, Ok, Err, codes, option_map, string_bytes}
use Rattle.clap.specs.Words.{fault_of, first_of, matches_of}
use Rattle.play_types.specs.History.{ticks}
use Rattle.play_types.specs.declared.event.TheConstants.{MAX_TICKS}
use Rattle.play_outside.specs.Faults.{Rose}
use Rattle.play_outside.specs.FolderState.{Files, FolderState}
use Rattle.play_outside.specs.SinkState.{SinkState}
use Rattle.play_outside.specs.declared.devices.Devices.{Devices}
use Rattle.play_ticker.specs.declared.ending.TickEnd.TheVariants as ticker
use Rattle.server_setup.specs.Fault.{status_of}
use Rattle.server_setup.specs.Setup.{SetsUp, fault_of_files}
use Rattle.server_setup.specs.declared.fault.RunFault.{RunFault}
use Rattle.server_setup.specs.declared.fault.RunFault.TheVariants as fault
use Rattle.server_setup.specs.declared.setup.ServerSetup.{ServerSetup}
use Rattle.server_run.specs.Doors.{IsTagOfLink}
use Rattle.history_reader.specs.declared.fault.ReadHistoryFault.{ReadHistoryFault}
use Rattle.history_reader.specs.declared.fault.ReadHistoryFault.TheVariants as read
use Rattle.history_reader.specs.declared.reading.ReadHistory.{ReadHistory}
use Rattle.play_server.specs.Program.{AtSite, ReadsAt, SaysLine, ServesOn, asked_after, asked_of}
use Rattle.server_run.specs.Run.{HasRun, Program}
use Rattle.play_server.specs.ServerWords.{Accepts, IsRefusedLine, names_twice, playd_app}
use Rattle.server_run.specs.Devices.{DeviceStates}
use Rattle.play_server.specs.SiteState.{SiteState, after_call_without_memory, after_resumed}
use Rattle.server_run.specs.declared.served.ServeEnd.{ServeEnd}
use Rattle.server_run.specs.declared.served.ServeEnd.TheVariants as serve
use Rattle.play_server.specs.declared.site.FinishStep.TheVariants as finish
use Rattle.play_server.specs.declared.words.ServerWords.{ServerWords}

-- the count of one element rose
abbrev pub AnyRose : {X : Type 0} → (X → ℕ) → List X → List X → Type 0
AnyRose count [] news = ⊥
AnyRose count (old ∷ olds) [] = ⊥
AnyRose count (old ∷ olds) (new ∷ news) = Rose (count old) (count new) ⊎ AnyRose count olds news

-- the count of each element is unchanged
abbrev pub AllStay : {X : Type 0} → (X → ℕ) → List X → List X → Type 0
AllStay count [] [] = Unit {0}
AllStay count [] (new ∷ news) = ⊥
AllStay count (old ∷ olds) [] = ⊥
AllStay count (old ∷ olds) (new ∷ news) = (count new ≡ count old) × AllStay count olds news

-- the arguments are accepted, the files of the folder are known, and `first` is their first fault, or there is none
pub record HasFirstFault (line : List (List ℕ)) (first : Option RunFault) (folder : FolderState) : Type 0 where
  pub path : List ℕ
  pub files : Files
  pub accepted : fault_of playd_app line ≡ []
  pub once : names_twice (matches_of playd_app line) ≡ false
  pub config : first_of (codes "config") (matches_of playd_app line) ≡ Some path
  pub told : folder.files ≡ Some files
  pub first_is : fault_of_files path files ≡ first

-- the arguments were accepted, and ask for a run that goes on from the history at this path
pub record AsksAfter (line : List (List ℕ)) (from : List ℕ) : Type 0 where
  pub named : ServerWords
  pub accepted : Accepts line named
  pub resumes : option_map string_bytes named.resume ≡ Some from

module _ {C D O : Type 0} where
  -- the arguments were accepted, and the setup met this fault
  pub record IsRefused (line : List (List ℕ)) (fault : RunFault) (moments : AtSite C D O × AtSite C D O) : Type 0 where
    pub named : ServerWords
    pub accepted : Accepts line named
    pub refused : SetsUp (string_bytes named.config) (Err fault) moments.0.folder moments.1.folder

  -- the configuration was refused: it is not TOML, or a key of it is refused
  abbrev pub RefusesConfig : List (List ℕ) → AtSite C D O × AtSite C D O → Type 0
  RefusesConfig line moments = IsRefused line fault.ConfigText moments ⊎ ((key : List ℕ) × IsRefused line (fault.ConfigKey key) moments)

  -- the clips were refused: two have one name, or they are too large
  abbrev pub RefusesClips : List (List ℕ) → AtSite C D O × AtSite C D O → Type 0
  RefusesClips line moments = ((name : List ℕ) × IsRefused line (fault.MediaTwice name) moments) ⊎ ((total : ℕ) × IsRefused line (fault.MediaTotal total) moments)

  -- a server was set up as the arguments ask, the history that they ask for was opened, and it was not read for this fault
  pub record IsUnread (line : List (List ℕ)) (fault : ReadHistoryFault) (moments : AtSite C D O × AtSite C D O) : Type 0 where
    pub from : List ℕ
    pub asks : AsksAfter line from
    pub setup : ServerSetup
    pub set_up : SetsUp (string_bytes asks.named.config) (Ok setup) moments.0.folder moments.1.folder
    -- the site after the history was opened
    pub opened : SiteState C D O
    pub reads : ReadsAt (record { setup = setup; from = from; path = option_map string_bytes asks.named.journal }) (Err fault) moments.0.site opened

  -- the history was refused: a line of it is none of a history there, or it is too long
  abbrev pub RefusesHistory : List (List ℕ) → AtSite C D O × AtSite C D O → Type 0
  RefusesHistory line moments = ((number : ℕ) × IsUnread line (read.Line number) moments) ⊎ IsUnread line read.TooLong moments

module _ {C D O L : Type 0} where
  -- the count of faults of the clock, of a door, of an output, or of the output for the history or for the log rose
  abbrev pub ADeviceFails : DeviceStates C D O L → Devices C D O → Devices C D O → Type 0
  ADeviceFails device given finished =
      Rose (device.clock given.clock).faults (device.clock finished.clock).faults
      ⊎ (AnyRose (λ door. (device.door door).faults) given.doors.items finished.doors.items
      ⊎ (AnyRose (λ out. (device.out out).faults) given.outs.items finished.outs.items
      ⊎ (Rose (device.out given.history).faults (device.out finished.history).faults
      ⊎ Rose (device.out given.log).faults (device.out finished.log).faults)))

  -- the counts of faults of all devices are unchanged
  pub record NoDeviceFails (device : DeviceStates C D O L) (given finished : Devices C D O) : Type 0 where
    pub clock : (device.clock finished.clock).faults ≡ (device.clock given.clock).faults
    pub doors : AllStay (λ door. (device.door door).faults) given.doors.items finished.doors.items
    pub outs : AllStay (λ out. (device.out out).faults) given.outs.items finished.outs.items
    pub history : (device.out finished.history).faults ≡ (device.out given.history).faults
    pub log : (device.out finished.log).faults ≡ (device.out given.log).faults

  -- what stopped a run in which no device failed: a client, a closed clock, or the maximum number of ticks
  abbrev pub IsStopped : {device : DeviceStates C D O L} {tells : L → SinkState} {program : Program} {end : ServeEnd} {devices : Devices C D O × Devices C D O}
      → HasRun device tells program end devices → Type 0
  IsStopped {device} {program = program} {devices = devices} run =
      IsTagOfLink program.given 1 run.runs run.stopped.tag
      ⊎ (((run.ticker ≡ ticker.ClockClosed) × IfSome (device.clock devices.1.clock).told (λ told. told.closed ≡ true))
      ⊎ (ticks run.history ≡ MAX_TICKS))

  -- the arguments were accepted and name no history to go on from, a server was set up as they ask, and there was a run on the devices
  -- that the site gave for it, which ended with `end`
  pub record HasServedClients (device : DeviceStates C D O L) (tells : L → SinkState) (line : List (List ℕ)) (end : ServeEnd) (moments : AtSite C D O × AtSite C D O) : Type 0 where
    pub named : ServerWords
    pub accepted : Accepts line named
    pub fresh : option_map string_bytes named.resume ≡ None
    pub setup : ServerSetup
    pub set_up : SetsUp (string_bytes named.config) (Ok setup) moments.0.folder moments.1.folder
    -- the site after the run
    pub site : SiteState C D O
    pub served : ServesOn device tells (asked_of setup (option_map string_bytes named.journal)) end (moments.0.site, site)

  -- the same for a run that goes on from a history: it was opened and read, and the run goes on from its events
  pub record HasGoneOn (device : DeviceStates C D O L) (tells : L → SinkState) (line : List (List ℕ)) (end : ServeEnd) (moments : AtSite C D O × AtSite C D O) : Type 0 where
    pub from : List ℕ
    pub asks : AsksAfter line from
    pub setup : ServerSetup
    pub set_up : SetsUp (string_bytes asks.named.config) (Ok setup) moments.0.folder moments.1.folder
    pub history : ReadHistory
    -- the site after the history was opened, and after the run
    pub opened : SiteState C D O
    pub site : SiteState C D O
    pub reads : ReadsAt (record { setup = setup; from = from; path = option_map string_bytes asks.named.journal }) (Ok history) moments.0.site opened
    pub served : ServesOn device tells (asked_after history (option_map string_bytes asks.named.journal)) end (opened, site)

  -- something failed: the folder, the site, in the run a device, or the source of the history
  abbrev pub SomethingFails : DeviceStates C D O L → (L → SinkState) → List (List ℕ) → AtSite C D O × AtSite C D O → Type 0
  SomethingFails device tells line moments =
      Rose moments.0.folder.faults moments.1.folder.faults
      ⊎ (Rose moments.0.site.faults moments.1.site.faults
      ⊎ (((run : HasServedClients device tells line serve.DeviceFault moments) × ADeviceFails device run.served.given run.served.finished)
      ⊎ (((run : HasGoneOn device tells line serve.DeviceFault moments) × ADeviceFails device run.served.given run.served.finished)
      ⊎ IsUnread line read.Device moments)))

  -- a run ended without any fault, and the history has its name
  pub record EndsWell (device : DeviceStates C D O L) (tells : L → SinkState) (line : List (List ℕ)) (moments : AtSite C D O × AtSite C D O) : Type 0 where
    pub run : HasServedClients device tells line serve.Ended moments
    pub stopped : IsStopped run.served.serves
    pub devices : NoDeviceFails device run.served.given run.served.finished
    pub named : run.served.step ≡ finish.Done
    pub folder : moments.1.folder ≡ moments.0.folder
    pub site : moments.1.site.faults ≡ moments.0.site.faults

  -- a run that goes on from a history ended without any fault, and the history has its name
  pub record GoesOnWell (device : DeviceStates C D O L) (tells : L → SinkState) (line : List (List ℕ)) (moments : AtSite C D O × AtSite C D O) : Type 0 where
    pub run : HasGoneOn device tells line serve.Ended moments
    pub stopped : IsStopped run.served.serves
    pub devices : NoDeviceFails device run.served.given run.served.finished
    pub named : run.served.step ≡ finish.Done
    pub folder : moments.1.folder ≡ moments.0.folder
    pub site : moments.1.site.faults ≡ moments.0.site.faults

  -- memory ran out, and no call was made on a device: the site was not asked for devices; or it was asked once and gave none; or it
  -- got back the devices as it had given them. Then the line of the fault was printed, or the site failed to print it
  abbrev pub EndsUncalled : DeviceStates C D O L → (L → SinkState) → List (List ℕ) → AtSite C D O × AtSite C D O → Type 0
  EndsUncalled device tells line moments =
      SaysLine fault.OutOfMemory moments.0.site moments.1.site
      ⊎ (SaysLine fault.OutOfMemory (after_call_without_memory moments.0.site) moments.1.site
      ⊎ ((run : HasServedClients device tells line serve.OutOfMemory moments)
      × (run.served.finished ≡ run.served.given) × SaysLine fault.OutOfMemory run.site moments.1.site))

  -- the same after the history that the arguments ask for was opened
  abbrev pub EndsOpened : DeviceStates C D O L → (L → SinkState) → List (List ℕ) → AtSite C D O × AtSite C D O → Type 0
  EndsOpened device tells line moments =
      ((from : List ℕ) × AsksAfter line from × SaysLine fault.OutOfMemory (after_resumed from moments.0.site) moments.1.site)
      ⊎ (((from : List ℕ) × AsksAfter line from × SaysLine fault.OutOfMemory (after_call_without_memory (after_resumed from moments.0.site)) moments.1.site)
      ⊎ ((run : HasGoneOn device tells line serve.OutOfMemory moments)
      × (run.served.finished ≡ run.served.given) × SaysLine fault.OutOfMemory run.site moments.1.site))

  -- the exit status of a call of the program has its cause
  pub record HasItsCause (words : DeviceStates C D O L) (tells : L → SinkState) (line : List (List ℕ)) (status : ℕ) (moments : AtSite C D O × AtSite C D O) : Type 0 where
    pub most : status ≤ 5
    -- 1 comes only if the arguments are refused, and then the status is 1, or 5 if memory ran out
    pub usage : status ≡ 1 → IsRefusedLine line
    pub refused : IsRefusedLine line → (status ≡ 1) ⊎ (status ≡ 5)
    -- 2 comes only if the configuration or the history to go on from is refused, and 3 only if the clips are
    pub config : status ≡ 2 → RefusesConfig line moments ⊎ RefusesHistory line moments
    pub clips : status ≡ 3 → RefusesClips line moments
    -- 4 comes only if a count of faults rose: of the folder, of the site, which counts a history that did not get its name or was not
    -- opened, of a device in the run, or of the source of a history
    pub device : status ≡ 4 → SomethingFails words tells line moments
    -- 5 comes only if memory ran out, and no call was made on a device
    pub memory : status ≡ 5 → EndsUncalled words tells line moments ⊎ EndsOpened words tells line moments
    -- 0 comes only after a run in which nothing failed, and whose history has its name
    pub success : status ≡ 0 → EndsWell words tells line moments ⊎ GoesOnWell words tells line moments
    -- if the arguments are accepted and the known files of the folder have no fault, the status is 0, or 5, or 4 and a count rose, or 2
    -- and the history to go on from is refused
    pub valid : HasFirstFault line None moments.0.folder
        → (status ≡ 0) ⊎ ((status ≡ 5) ⊎ (((status ≡ 4) × SomethingFails words tells line moments) ⊎ ((status ≡ 2) × RefusesHistory line moments)))
    -- if the files have a fault, the first one decides, unless a read of the folder failed or memory ran out
    pub invalid : (found : RunFault) → HasFirstFault line (Some found) moments.0.folder
        → (status ≡ status_of found) ⊎ ((status ≡ 5) ⊎ ((status ≡ 4) × Rose moments.0.folder.faults moments.1.folder.faults))
