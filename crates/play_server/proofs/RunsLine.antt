-- What came of a call, by its result, before a line was printed.
use Rattle.std.proofs.Common.{◌≡◌, ◌⊎◌, ℕ, true≢false, List, refl, sym, ap, ◌∙◌, subst, inl, inr}
use Rattle.std.specs.Prelude.{true, Option, Some, None, Result, Ok, Err, option_map, string_bytes}
use Rattle.play_outside.specs.Faults.{Rose}
use Rattle.play_outside.specs.SinkState.{SinkState}
use Rattle.server_setup.specs.Setup.{SetsUp}
use Rattle.server_setup.specs.declared.fault.RunFault.{RunFault}
use Rattle.server_setup.specs.declared.fault.RunFault.TheVariants.{Usage, ConfigText, ConfigKey, BadLine, InputTooLong, Plan, PlanEnd, Record, Resume, Clip, MediaTwice, MediaTotal, Device, OutOfMemory}
use Rattle.server_setup.specs.declared.setup.ServerSetup.{ServerSetup}
use Rattle.play_server.specs.Program.{Asked, AtSite, ReadsAt, ResumesSetUp, RunsLine, RunsOn, RunsRead, RunsSetUp, RunsWords, ServesOn, asked_after, asked_in, asked_of, asked_read, resumption_in}
use Rattle.play_server.specs.ServerWords.{Accepts, IsRefusedLine, ReadsWords}
use Rattle.server_run.specs.Devices.{DeviceStates}
use Rattle.play_server.specs.Site.{Finishes, IsNotOpened, ready_call}
use Rattle.play_server.specs.SiteState.{SiteState, after_call, after_call_without_memory, after_resumed}
use Rattle.play_server.specs.Statuses.{AsksAfter, HasGoneOn, HasServedClients, IsRefused, IsUnread}
use Rattle.server_run.specs.declared.served.ServeEnd.{ServeEnd}
use Rattle.server_run.specs.declared.served.ServeEnd.TheVariants as serve
use Rattle.play_server.specs.declared.site.FinishStep.{FinishStep}
use Rattle.play_server.specs.declared.site.FinishStep.TheVariants as finish
use Rattle.play_server.specs.declared.words.ServerWords.{ServerWords}
use Rattle.play_server.specs.declared.words.ServerWordsFault.{ServerWordsFault}
use Rattle.play_server.specs.declared.words.ServerWordsFault.TheVariants as words
use Rattle.play_server.proofs.ADeviceFails.{rises}
use Rattle.play_outside.specs.declared.folder.FileFault.{FileFault}
use Rattle.play_outside.specs.declared.folder.FileFault.TheVariants as file
use Rattle.server_setup.specs.Fault.{fault_of_file}
use Rattle.history_reader.specs.Fault.{fault_of_history}
use Rattle.history_reader.specs.declared.fault.ReadHistoryFault.{ReadHistoryFault}
use Rattle.history_reader.specs.declared.fault.ReadHistoryFault.TheVariants as read
use Rattle.history_reader.specs.declared.reading.ReadHistory.{ReadHistory}

module _ {C D O L : Type 0} (device : DeviceStates C D O L) (tells : L → SinkState) (line : List (List ℕ)) where
  -- a server was set up as the arguments ask
  pub record IsSetUp (moments : AtSite C D O × AtSite C D O) : Type 0 where
    pub named : ServerWords
    pub accepted : Accepts line named
    pub setup : ServerSetup
    pub set_up : SetsUp (string_bytes named.config) (Ok setup) moments.0.folder moments.1.folder

  -- memory ran out after the history that the arguments ask for was opened: before the site was asked for devices, for the devices, or for
  -- the run
  abbrev pub CameOpened : AtSite C D O × AtSite C D O → Type 0
  CameOpened moments =
      ((from : List ℕ) × AsksAfter line from × (moments.1.site ≡ after_resumed from moments.0.site))
      ⊎ (((from : List ℕ) × AsksAfter line from × (moments.1.site ≡ after_call_without_memory (after_resumed from moments.0.site)))
      ⊎ ((run : HasGoneOn device tells line serve.OutOfMemory moments) × (run.site ≡ moments.1.site)))

  -- what came of a call, by its result, before a line was printed
  abbrev pub Came : Result (Unit {0}) RunFault → AtSite C D O × AtSite C D O → Type 0
  Came (Ok done) moments =
      ((run : HasServedClients device tells line serve.Ended moments) × (run.served.step ≡ finish.Done) × (run.site ≡ moments.1.site))
      ⊎ ((run : HasGoneOn device tells line serve.Ended moments) × (run.served.step ≡ finish.Done) × (run.site ≡ moments.1.site))
  Came (Err Usage) moments = IsRefusedLine line
  Came (Err ConfigText) moments = IsRefused line ConfigText moments
  Came (Err (ConfigKey key)) moments = IsRefused line (ConfigKey key) moments
  Came (Err (BadLine number)) moments = ⊥
  Came (Err InputTooLong) moments = IsUnread line read.TooLong moments
  Came (Err (Plan number)) moments = ⊥
  Came (Err PlanEnd) moments = ⊥
  Came (Err (Record name)) moments = ⊥
  Came (Err (Resume number)) moments = IsUnread line (read.Line number) moments
  Came (Err (Clip fault)) moments = ⊥
  Came (Err (MediaTwice name)) moments = IsRefused line (MediaTwice name) moments
  Came (Err (MediaTotal total)) moments = IsRefused line (MediaTotal total) moments
  Came (Err Device) moments =
      (IsRefusedLine line → ⊥)
      × (Rose moments.0.folder.faults moments.1.folder.faults
      ⊎ (IsSetUp moments × (Rose moments.0.site.faults moments.1.site.faults
      ⊎ (HasServedClients device tells line serve.DeviceFault moments
      ⊎ (HasGoneOn device tells line serve.DeviceFault moments ⊎ IsUnread line read.Device moments)))))
  Came (Err OutOfMemory) moments =
      (moments.1.site ≡ moments.0.site)
      ⊎ ((moments.1.site ≡ after_call_without_memory moments.0.site)
      ⊎ (((run : HasServedClients device tells line serve.OutOfMemory moments) × (run.site ≡ moments.1.site))
      ⊎ CameOpened moments))

  -- accepted arguments are not refused
  pub unrefused : (named : ServerWords) → Accepts line named → IsRefusedLine line → ⊥
  unrefused named accepted refused =
      elim refused [
        | inl by_clap ↦ by_clap accepted.accepted
        | inr twice ↦ true≢false (sym twice ∙ accepted.once)
      ]

  -- what came of a setup that met a fault
  came_of_fault : (named : ServerWords) (fault : RunFault) (moments : AtSite C D O × AtSite C D O) → Accepts line named
      → SetsUp (string_bytes named.config) (Err fault) moments.0.folder moments.1.folder → moments.1.site ≡ moments.0.site → Came (Err fault) moments
  came_of_fault named Usage moments accepted sets same = absurd sets
  came_of_fault named ConfigText moments accepted sets same = record { named = named; accepted = accepted; refused = sets }
  came_of_fault named (ConfigKey key) moments accepted sets same = record { named = named; accepted = accepted; refused = sets }
  came_of_fault named (BadLine number) moments accepted sets same = absurd sets
  came_of_fault named InputTooLong moments accepted sets same = absurd sets
  came_of_fault named (Plan number) moments accepted sets same = absurd sets
  came_of_fault named PlanEnd moments accepted sets same = absurd sets
  came_of_fault named (Record name) moments accepted sets same = absurd sets
  came_of_fault named (Resume number) moments accepted sets same = absurd sets
  came_of_fault named (Clip fault) moments accepted sets same = absurd sets
  came_of_fault named (MediaTwice name) moments accepted sets same = record { named = named; accepted = accepted; refused = sets }
  came_of_fault named (MediaTotal total) moments accepted sets same = record { named = named; accepted = accepted; refused = sets }
  came_of_fault named Device moments accepted sets same = (unrefused named accepted, inl sets.1)
  came_of_fault named OutOfMemory moments accepted sets same = inl same

  -- a history that did not get its name is a fault of the site
  unnamed : (asked : Asked) (end : ServeEnd) (moments : SiteState C D O × SiteState C D O) (served : ServesOn device tells asked end moments) → served.step ≡ finish.Failed
      → Rose moments.0.faults moments.1.faults
  unnamed asked end moments served failed =
      let called = after_call (ready_call asked.program.config asked.path true) moments.0 in
      let done : Finishes finish.Failed served.finished called moments.1 = subst (λ (step : FinishStep). Finishes step served.finished called moments.1) failed served.finishes in
      rises moments.0.faults moments.1.faults (ap (λ (s : SiteState C D O). s.faults) done)

  -- what came of a run on what was set up
  came_of_run : (named : ServerWords) (setup : ServerSetup) (result : Result (Unit {0}) RunFault) (moments : AtSite C D O × AtSite C D O) → Accepts line named
      → option_map string_bytes named.resume ≡ None
      → SetsUp (string_bytes named.config) (Ok setup) moments.0.folder moments.1.folder
      → RunsOn device tells (asked_of setup (option_map string_bytes named.journal)) result (moments.0.site, moments.1.site) → Came result moments
  came_of_run named setup (Ok done) moments accepted fresh sets runs =
      inl (record { named = named; accepted = accepted; fresh = fresh; setup = setup; set_up = sets; site = moments.1.site; served = runs.0 }, runs.1, refl)
  came_of_run named setup (Err Device) moments accepted fresh sets runs =
      let set_up : IsSetUp moments = record { named = named; accepted = accepted; setup = setup; set_up = sets } in
      elim runs [
        | inl served ↦
            (unrefused named accepted, inr (set_up, inr (inl (record { named = named; accepted = accepted; fresh = fresh; setup = setup; set_up = sets; site = moments.1.site; served = served }))))
        | inr other ↦ elim other [
          | inl served ↦
              (unrefused named accepted, inr (set_up, inl (unnamed (asked_of setup (option_map string_bytes named.journal)) serve.Ended (moments.0.site, moments.1.site) served.0 served.1)))
          | inr unready ↦
              (unrefused named accepted, inr (set_up, inl (rises moments.0.site.faults moments.1.site.faults (ap (λ (s : SiteState C D O). s.faults) unready))))
        ]
      ]
  came_of_run named setup (Err OutOfMemory) moments accepted fresh sets runs =
      elim runs [
        | inl served ↦
            inr (inr (inl (record { named = named; accepted = accepted; fresh = fresh; setup = setup; set_up = sets; site = moments.1.site; served = served }, refl)))
        | inr unready ↦ inr (inl unready)
      ]
  came_of_run named setup (Err Usage) moments accepted fresh sets runs = absurd runs
  came_of_run named setup (Err ConfigText) moments accepted fresh sets runs = absurd runs
  came_of_run named setup (Err (ConfigKey key)) moments accepted fresh sets runs = absurd runs
  came_of_run named setup (Err (BadLine number)) moments accepted fresh sets runs = absurd runs
  came_of_run named setup (Err InputTooLong) moments accepted fresh sets runs = absurd runs
  came_of_run named setup (Err (Plan number)) moments accepted fresh sets runs = absurd runs
  came_of_run named setup (Err PlanEnd) moments accepted fresh sets runs = absurd runs
  came_of_run named setup (Err (Record name)) moments accepted fresh sets runs = absurd runs
  came_of_run named setup (Err (Resume number)) moments accepted fresh sets runs = absurd runs
  came_of_run named setup (Err (Clip fault)) moments accepted fresh sets runs = absurd runs
  came_of_run named setup (Err (MediaTwice name)) moments accepted fresh sets runs = absurd runs
  came_of_run named setup (Err (MediaTotal total)) moments accepted fresh sets runs = absurd runs

  came_of_setup : (named : ServerWords) (setup : Result ServerSetup RunFault) (result : Result (Unit {0}) RunFault) (moments : AtSite C D O × AtSite C D O) → Accepts line named
      → option_map string_bytes named.resume ≡ None
      → SetsUp (string_bytes named.config) setup moments.0.folder moments.1.folder
      → RunsSetUp device tells (asked_in setup (option_map string_bytes named.journal)) result (moments.0.site, moments.1.site) → Came result moments
  came_of_setup named (Ok setup) result moments accepted fresh sets runs = came_of_run named setup result moments accepted fresh sets runs
  came_of_setup named (Err fault) result moments accepted fresh sets runs =
      subst (λ (r : Result (Unit {0}) RunFault). Came r moments) (sym runs.2)
      (elim runs.1 [
        | inl same ↦ subst (λ (f : RunFault). Came (Err f) moments) (sym same) (came_of_fault named fault moments accepted sets runs.3)
        | inr late ↦ subst (λ (f : RunFault). Came (Err f) moments) (sym late.1) (inl runs.3)
      ])

  -- what came of a run that goes on from a history
  module _ (named : ServerWords) (from : List ℕ) (setup : ServerSetup) (moments : AtSite C D O × AtSite C D O) (accepted : Accepts line named)
      (resumes : option_map string_bytes named.resume ≡ Some from) (sets : SetsUp (string_bytes named.config) (Ok setup) moments.0.folder moments.1.folder) where
    abbrev Reads : Result ReadHistory ReadHistoryFault → SiteState C D O → Type 0
    Reads result opened = ReadsAt (record { setup = setup; from = from; path = option_map string_bytes named.journal }) result moments.0.site opened

    abbrev asks : AsksAfter line from
    asks = record { named = named; accepted = accepted; resumes = resumes }

    is_set_up : IsSetUp moments
    is_set_up = record { named = named; accepted = accepted; setup = setup; set_up = sets }

    unread : (fault : ReadHistoryFault) (opened : SiteState C D O) → Reads (Err fault) opened → IsUnread line fault moments
    unread fault opened reads = record { from = from; asks = asks; setup = setup; set_up = sets; opened = opened; reads = reads }

    abbrev gone_on : (history : ReadHistory) (opened : SiteState C D O) (end : ServeEnd) → Reads (Ok history) opened
        → ServesOn device tells (asked_after history (option_map string_bytes named.journal)) end (opened, moments.1.site) → HasGoneOn device tells line end moments
    gone_on history opened end reads served = record {
      from = from;
      asks = asks;
      setup = setup;
      set_up = sets;
      history = history;
      opened = opened;
      site = moments.1.site;
      reads = reads;
      served = served;
    }

    -- the opening of a history is no fault
    same_faults : (result : Result ReadHistory ReadHistoryFault) (opened : SiteState C D O) → Reads result opened → opened.faults ≡ moments.0.site.faults
    same_faults result opened reads = ap (λ (s : SiteState C D O). s.faults) reads.opens.told

    rose_since : (result : Result ReadHistory ReadHistoryFault) (opened : SiteState C D O) → Reads result opened → Rose opened.faults moments.1.site.faults
        → Rose moments.0.site.faults moments.1.site.faults
    rose_since result opened reads = subst (λ (n : ℕ). Rose n moments.1.site.faults) (same_faults result opened reads)

    came_of_going : (history : ReadHistory) (opened : SiteState C D O) (result : Result (Unit {0}) RunFault) → Reads (Ok history) opened
        → RunsOn device tells (asked_after history (option_map string_bytes named.journal)) result (opened, moments.1.site) → Came result moments
    came_of_going history opened (Ok done) reads runs = inr (gone_on history opened serve.Ended reads runs.0, runs.1, refl)
    came_of_going history opened (Err Device) reads runs =
        elim runs [
          | inl served ↦ (unrefused named accepted, inr (is_set_up, inr (inr (inl (gone_on history opened serve.DeviceFault reads served)))))
          | inr other ↦ elim other [
            | inl served ↦ (
              unrefused named accepted,
              inr (
                is_set_up,
                inl (rose_since (Ok history) opened reads
                    (unnamed (asked_after history (option_map string_bytes named.journal)) serve.Ended (opened, moments.1.site) served.0 served.1)),
              ),
            )
            | inr unready ↦ (
              unrefused named accepted,
              inr (
                is_set_up,
                inl (rose_since (Ok history) opened reads
                    (rises opened.faults moments.1.site.faults (ap (λ (s : SiteState C D O). s.faults) unready))),
              ),
            )
          ]
        ]
    came_of_going history opened (Err OutOfMemory) reads runs =
        elim runs [
          | inl served ↦ inr (inr (inr (inr (inr (gone_on history opened serve.OutOfMemory reads served, refl)))))
          | inr unready ↦ inr (inr (inr (inr (inl (from, asks, unready ∙ ap after_call_without_memory reads.opens.told)))))
        ]
    came_of_going history opened (Err Usage) reads runs = absurd runs
    came_of_going history opened (Err ConfigText) reads runs = absurd runs
    came_of_going history opened (Err (ConfigKey key)) reads runs = absurd runs
    came_of_going history opened (Err (BadLine number)) reads runs = absurd runs
    came_of_going history opened (Err InputTooLong) reads runs = absurd runs
    came_of_going history opened (Err (Plan number)) reads runs = absurd runs
    came_of_going history opened (Err PlanEnd) reads runs = absurd runs
    came_of_going history opened (Err (Record name)) reads runs = absurd runs
    came_of_going history opened (Err (Resume number)) reads runs = absurd runs
    came_of_going history opened (Err (Clip fault)) reads runs = absurd runs
    came_of_going history opened (Err (MediaTwice name)) reads runs = absurd runs
    came_of_going history opened (Err (MediaTotal total)) reads runs = absurd runs

    -- the site is as the opening of the history left it
    left_out : (read_ : Result ReadHistory ReadHistoryFault) (opened : SiteState C D O) → Reads read_ opened → moments.1.site ≡ opened → Came (Err OutOfMemory) moments
    left_out read_ opened reads same = inr (inr (inr (inl (from, asks, same ∙ reads.opens.told))))

    came_of_history_fault : (fault : ReadHistoryFault) (opened : SiteState C D O) → Reads (Err fault) opened → moments.1.site ≡ opened
        → Came (Err (fault_of_history fault)) moments
    came_of_history_fault (read.Line number) opened reads same = unread (read.Line number) opened reads
    came_of_history_fault read.TooLong opened reads same = unread read.TooLong opened reads
    came_of_history_fault read.Device opened reads same = (unrefused named accepted, inr (is_set_up, inr (inr (inr (unread read.Device opened reads)))))
    came_of_history_fault read.OutOfMemory opened reads same = left_out (Err read.OutOfMemory) opened reads same

    came_of_read : (read_ : Result ReadHistory ReadHistoryFault) (opened : SiteState C D O) (result : Result (Unit {0}) RunFault) → Reads read_ opened
        → RunsRead device tells (asked_read read_ (option_map string_bytes named.journal)) result (opened, moments.1.site) → Came result moments
    came_of_read (Ok history) opened result reads runs =
        elim runs [
          | inl memory ↦ subst (λ (r : Result (Unit {0}) RunFault). Came r moments) (sym memory.0) (left_out (Ok history) opened reads memory.1)
          | inr run ↦ came_of_going history opened result reads run
        ]
    came_of_read (Err fault) opened result reads runs =
        subst (λ (r : Result (Unit {0}) RunFault). Came r moments) (sym runs.2)
        (elim runs.1 [
          | inl same ↦ subst (λ (f : RunFault). Came (Err f) moments) (sym same) (came_of_history_fault fault opened reads runs.3)
          | inr late ↦ subst (λ (f : RunFault). Came (Err f) moments) (sym late.1) (left_out (Err fault) opened reads runs.3)
        ])

    came_of_file : (fault : FileFault) → IsNotOpened fault moments.0.site moments.1.site → Came (Err (fault_of_file fault)) moments
    came_of_file file.Failed unopened =
        (unrefused named accepted, inr (is_set_up, inl (rises moments.0.site.faults moments.1.site.faults (ap (λ (s : SiteState C D O). s.faults) unopened))))
    came_of_file file.OutOfMemory unopened = inl unopened

    came_of_opening : (result : Result (Unit {0}) RunFault)
        → ResumesSetUp device tells (Ok (record { setup = setup; from = from; path = option_map string_bytes named.journal })) result (moments.0.site, moments.1.site) → Came result moments
    came_of_opening result runs =
        elim runs [
          | inl opened ↦ came_of_read opened.read opened.opened result opened.reads opened.runs
          | inr nothing ↦ subst (λ (r : Result (Unit {0}) RunFault). Came r moments) (sym nothing.met) (came_of_file nothing.fault nothing.unopened)
        ]

  came_of_resuming : (named : ServerWords) (from : List ℕ) (setup : Result ServerSetup RunFault) (result : Result (Unit {0}) RunFault) (moments : AtSite C D O × AtSite C D O)
      → Accepts line named → option_map string_bytes named.resume ≡ Some from → SetsUp (string_bytes named.config) setup moments.0.folder moments.1.folder
      → ResumesSetUp device tells (resumption_in setup from (option_map string_bytes named.journal)) result (moments.0.site, moments.1.site) → Came result moments
  came_of_resuming named from (Ok setup) result moments accepted resumes sets runs = came_of_opening named from setup moments accepted resumes sets result runs
  came_of_resuming named from (Err fault) result moments accepted resumes sets runs =
      subst (λ (r : Result (Unit {0}) RunFault). Came r moments) (sym runs.2)
      (elim runs.1 [
        | inl same ↦ subst (λ (f : RunFault). Came (Err f) moments) (sym same) (came_of_fault named fault moments accepted sets runs.3)
        | inr late ↦ subst (λ (f : RunFault). Came (Err f) moments) (sym late.1) (inl runs.3)
      ])

  -- what came of accepted arguments, by whether they name a history
  came_of_accepted : (named : ServerWords) (resume : Option (List ℕ)) (result : Result (Unit {0}) RunFault) (moments : AtSite C D O × AtSite C D O) → Accepts line named
      → option_map string_bytes named.resume ≡ resume → RunsWords device tells (Ok named) result moments → Came result moments
  came_of_accepted named None result moments accepted is runs = came_of_setup named runs.setup result moments accepted is runs.sets_up (runs.runs is)
  came_of_accepted named (Some from) result moments accepted is runs = came_of_resuming named from runs.setup result moments accepted is runs.sets_up (runs.resumes from is)

  came_of_words : (read : Result ServerWords ServerWordsFault) (result : Result (Unit {0}) RunFault) (moments : AtSite C D O × AtSite C D O) → ReadsWords line read
      → RunsWords device tells read result moments → Came result moments
  came_of_words (Ok named) result moments reads runs = came_of_accepted named (option_map string_bytes named.resume) result moments reads refl runs
  came_of_words (Err words.Usage) result moments reads runs = subst (λ (r : Result (Unit {0}) RunFault). Came r moments) (sym runs.0) reads
  came_of_words (Err words.OutOfMemory) result moments reads runs = subst (λ (r : Result (Unit {0}) RunFault). Came r moments) (sym runs.0) (inl (ap (λ (at : AtSite C D O). at.site) runs.1))

  pub came_of_line : (result : Result (Unit {0}) RunFault) (moments : AtSite C D O × AtSite C D O) → RunsLine device tells line result moments → Came result moments
  came_of_line result moments runs = came_of_words runs.read result moments runs.reads runs.runs
