-- What the exit status of the program means.
use Rattle.std.proofs.Common.{◌≡◌, ◌⊎◌, ℕ, ◌≤◌, true≢false, List, refl, sym, ap, ◌∙◌, subst, arith, inl, inr}
use Rattle.std.specs.Prelude.{true, Option, Some, None, Result, Ok, Err, option_map, string_bytes}
use Rattle.std.proofs.lemmas.Option.{none-some}
use Rattle.play_outside.specs.Faults.{Rose}
use Rattle.play_outside.specs.FolderState.{Files, FolderState}
use Rattle.play_outside.specs.SinkState.{SinkState}
use Rattle.play_outside.specs.declared.sink.WriteStep.{WriteStep}
use Rattle.play_outside.specs.declared.sink.WriteStep.TheVariants as step
use Rattle.server_setup.specs.Fault.{status_of}
use Rattle.server_setup.specs.Setup.{SetsUp, TellsFirst, fault_of_files}
use Rattle.play_types.specs.declared.clip_fault.ClipFault.{ClipFault}
use Rattle.play_types.specs.declared.clip_fault.ClipFault.TheVariants as clip
use Rattle.server_setup.specs.declared.fault.RunFault.{RunFault}
use Rattle.server_setup.specs.declared.fault.RunFault.TheVariants.{Usage, ConfigText, ConfigKey, BadLine, InputTooLong, Plan, PlanEnd, Record, Resume, Clip, MediaTwice, MediaTotal, Device, OutOfMemory}
use Rattle.server_setup.specs.declared.setup.ServerSetup.{ServerSetup}
use Rattle.play_server.specs.Program.{Asked, AtSite, RunsServer, SaysEnd, SaysLine, ServesOn, asked_after, asked_of, program_of, status_in}
use Rattle.play_server.specs.ServerWords.{Accepts, IsRefusedLine}
use Rattle.history_reader.specs.declared.fault.ReadHistoryFault.{ReadHistoryFault}
use Rattle.history_reader.specs.declared.fault.ReadHistoryFault.TheVariants as read
use Rattle.server_run.specs.Beginning.{program_from}
use Rattle.server_run.specs.Devices.{DeviceStates}
use Rattle.play_server.specs.Site.{Finishes, Says, ready_call}
use Rattle.play_server.specs.SiteState.{SiteState, after_call, after_finish}
use Rattle.play_server.specs.Statuses.{EndsOpened, EndsUncalled, EndsWell, GoesOnWell, HasFirstFault, HasGoneOn, HasItsCause, HasServedClients, IsRefused, IsUnread, RefusesClips, RefusesConfig, RefusesHistory, SomethingFails}
use Rattle.server_run.specs.declared.served.ServeEnd.TheVariants as serve
use Rattle.play_server.specs.declared.site.FinishStep.{FinishStep}
use Rattle.play_server.specs.declared.site.FinishStep.TheVariants as finish
use Rattle.play_server.specs.declared.words.ServerWords.{ServerWords}
use Rattle.play_server.proofs.SaysLine.{moved_clips, moved_config, moved_failure, moved_gone, moved_history, moved_run}
use Rattle.play_server.proofs.ADeviceFails.{device_rose, devices_stay, stopped_by}
use Rattle.play_server.proofs.RunsLine.{Came, CameOpened, came_of_line, unrefused}

-- the law on what setting up gives, by the first fault of the files
abbrev pub FirstFaultDecides : Type 0
FirstFaultDecides = (path : List ℕ) (result : Result ServerSetup RunFault) (before after : FolderState) (files : Files) →
    before.files ≡ Some files → SetsUp path result before after → TellsFirst result (fault_of_files path files)

module _ {C D O : Type 0} where
  -- a call of `say` does not lower the count of faults
  said_more : (step : WriteStep) (line : List ℕ) (before after : SiteState C D O) → Says step line before after → before.faults ≤ after.faults
  said_more (step.Took count) line before after says = omega (arith, ap (λ (s : SiteState C D O). s.faults) says.1)
  said_more step.Failed line before after says = omega (arith, ap (λ (s : SiteState C D O). s.faults) says)

  -- what is printed at the end does not lower the count of faults
  end_more : (result : Result (Unit {0}) RunFault) (before after : SiteState C D O) → SaysEnd result before after → before.faults ≤ after.faults
  end_more (Ok done) before after says = omega (arith, ap (λ (s : SiteState C D O). s.faults) says)
  end_more (Err fault) before after says = said_more says.step says.line before after says.said

module _ {C D O L : Type 0} (device : DeviceStates C D O L) (tells : L → SinkState) (line : List (List ℕ)) where
  -- status 1 comes only if the arguments are refused
  only_usage : (result : Result (Unit {0}) RunFault) (moments : AtSite C D O × AtSite C D O) → Came device tells line result moments → status_in result ≡ 1 → IsRefusedLine line
  only_usage (Ok done) moments came is = absurd (omega (arith, is))
  only_usage (Err Usage) moments came is = came
  only_usage (Err ConfigText) moments came is = absurd (omega (arith, is))
  only_usage (Err (ConfigKey key)) moments came is = absurd (omega (arith, is))
  only_usage (Err (BadLine number)) moments came is = absurd came
  only_usage (Err InputTooLong) moments came is = absurd (omega (arith, is))
  only_usage (Err (Plan number)) moments came is = absurd came
  only_usage (Err PlanEnd) moments came is = absurd came
  only_usage (Err (Record name)) moments came is = absurd came
  only_usage (Err (Resume number)) moments came is = absurd (omega (arith, is))
  only_usage (Err (Clip fault)) moments came is = absurd came
  only_usage (Err (MediaTwice name)) moments came is = absurd (omega (arith, is))
  only_usage (Err (MediaTotal total)) moments came is = absurd (omega (arith, is))
  only_usage (Err Device) moments came is = absurd (omega (arith, is))
  only_usage (Err OutOfMemory) moments came is = absurd (omega (arith, is))

  -- arguments that are refused give status 1, or 5
  refused_words : (result : Result (Unit {0}) RunFault) (moments : AtSite C D O × AtSite C D O) → Came device tells line result moments → IsRefusedLine line
      → (status_in result ≡ 1) ⊎ (status_in result ≡ 5)
  refused_words (Ok done) moments came refused =
      elim came [
        | inl run ↦ absurd (unrefused device tells line run.0.named run.0.accepted refused)
        | inr run ↦ absurd (unrefused device tells line run.0.asks.named run.0.asks.accepted refused)
      ]
  refused_words (Err Usage) moments came refused = inl refl
  refused_words (Err ConfigText) moments came refused = absurd (unrefused device tells line came.named came.accepted refused)
  refused_words (Err (ConfigKey key)) moments came refused = absurd (unrefused device tells line came.named came.accepted refused)
  refused_words (Err (BadLine number)) moments came refused = absurd came
  refused_words (Err InputTooLong) moments came refused = absurd (unrefused device tells line came.asks.named came.asks.accepted refused)
  refused_words (Err (Plan number)) moments came refused = absurd came
  refused_words (Err PlanEnd) moments came refused = absurd came
  refused_words (Err (Record name)) moments came refused = absurd came
  refused_words (Err (Resume number)) moments came refused = absurd (unrefused device tells line came.asks.named came.asks.accepted refused)
  refused_words (Err (Clip fault)) moments came refused = absurd came
  refused_words (Err (MediaTwice name)) moments came refused = absurd (unrefused device tells line came.named came.accepted refused)
  refused_words (Err (MediaTotal total)) moments came refused = absurd (unrefused device tells line came.named came.accepted refused)
  refused_words (Err Device) moments came refused = absurd (came.0 refused)
  refused_words (Err OutOfMemory) moments came refused = inr refl

  -- status 2 comes only if the configuration or the history is refused
  only_config : (result : Result (Unit {0}) RunFault) (moments : AtSite C D O × AtSite C D O) → Came device tells line result moments → status_in result ≡ 2
      → RefusesConfig line moments ⊎ RefusesHistory line moments
  only_config (Ok done) moments came is = absurd (omega (arith, is))
  only_config (Err Usage) moments came is = absurd (omega (arith, is))
  only_config (Err ConfigText) moments came is = inl (inl came)
  only_config (Err (ConfigKey key)) moments came is = inl (inr (key, came))
  only_config (Err (BadLine number)) moments came is = absurd came
  only_config (Err InputTooLong) moments came is = inr (inr came)
  only_config (Err (Plan number)) moments came is = absurd came
  only_config (Err PlanEnd) moments came is = absurd came
  only_config (Err (Record name)) moments came is = absurd came
  only_config (Err (Resume number)) moments came is = inr (inl (number, came))
  only_config (Err (Clip fault)) moments came is = absurd came
  only_config (Err (MediaTwice name)) moments came is = absurd (omega (arith, is))
  only_config (Err (MediaTotal total)) moments came is = absurd (omega (arith, is))
  only_config (Err Device) moments came is = absurd (omega (arith, is))
  only_config (Err OutOfMemory) moments came is = absurd (omega (arith, is))

  -- status 3 comes only if the clips are refused
  only_clips : (result : Result (Unit {0}) RunFault) (moments : AtSite C D O × AtSite C D O) → Came device tells line result moments → status_in result ≡ 3 → RefusesClips line moments
  only_clips (Ok done) moments came is = absurd (omega (arith, is))
  only_clips (Err Usage) moments came is = absurd (omega (arith, is))
  only_clips (Err ConfigText) moments came is = absurd (omega (arith, is))
  only_clips (Err (ConfigKey key)) moments came is = absurd (omega (arith, is))
  only_clips (Err (BadLine number)) moments came is = absurd came
  only_clips (Err InputTooLong) moments came is = absurd (omega (arith, is))
  only_clips (Err (Plan number)) moments came is = absurd came
  only_clips (Err PlanEnd) moments came is = absurd came
  only_clips (Err (Record name)) moments came is = absurd came
  only_clips (Err (Resume number)) moments came is = absurd (omega (arith, is))
  only_clips (Err (Clip fault)) moments came is = absurd came
  only_clips (Err (MediaTwice name)) moments came is = inl (name, came)
  only_clips (Err (MediaTotal total)) moments came is = inr (total, came)
  only_clips (Err Device) moments came is = absurd (omega (arith, is))
  only_clips (Err OutOfMemory) moments came is = absurd (omega (arith, is))

  -- something failed if the result is that of a device
  failed : (moments : AtSite C D O × AtSite C D O) → Came device tells line (Err Device) moments → SomethingFails device tells line moments
  failed moments came =
      elim came.1 [
        | inl folder ↦ inl folder
        | inr other ↦ elim other.1 [
          | inl site ↦ inr (inl site)
          | inr device_ ↦ elim device_ [
            | inl run ↦ inr (inr (inl (run, device_rose device tells (program_of run.setup) (run.served.given, run.served.finished) run.served.ready.outs run.served.serves)))
            | inr after ↦ elim after [
              | inl run ↦
                  inr (inr (inr (inl (
                    run,
                    device_rose device tells (program_from run.history.setup.config run.history.setup.media run.history.stage) (run.served.given, run.served.finished)
                        run.served.ready.outs run.served.serves,
                  ))))
              | inr unread ↦ inr (inr (inr (inr unread)))
            ]
          ]
        ]
      ]

  only_device : (result : Result (Unit {0}) RunFault) (moments : AtSite C D O × AtSite C D O) → Came device tells line result moments → status_in result ≡ 4 → SomethingFails device tells line moments
  only_device (Ok done) moments came is = absurd (omega (arith, is))
  only_device (Err Usage) moments came is = absurd (omega (arith, is))
  only_device (Err ConfigText) moments came is = absurd (omega (arith, is))
  only_device (Err (ConfigKey key)) moments came is = absurd (omega (arith, is))
  only_device (Err (BadLine number)) moments came is = absurd came
  only_device (Err InputTooLong) moments came is = absurd (omega (arith, is))
  only_device (Err (Plan number)) moments came is = absurd came
  only_device (Err PlanEnd) moments came is = absurd came
  only_device (Err (Record name)) moments came is = absurd came
  only_device (Err (Resume number)) moments came is = absurd (omega (arith, is))
  only_device (Err (Clip fault)) moments came is = absurd came
  only_device (Err (MediaTwice name)) moments came is = absurd (omega (arith, is))
  only_device (Err (MediaTotal total)) moments came is = absurd (omega (arith, is))
  only_device (Err Device) moments came is = failed moments came
  only_device (Err OutOfMemory) moments came is = absurd (omega (arith, is))

  clip_at_most : (fault : ClipFault) → status_of (Clip fault) ≤ 5
  clip_at_most clip.BadMagic = omega arith
  clip_at_most clip.BadVersion = omega arith
  clip_at_most (clip.BadField at) = omega arith
  clip_at_most (clip.Short needed had) = omega arith
  clip_at_most (clip.Long extra) = omega arith
  clip_at_most clip.OutOfMemory = omega arith

  -- no status is above 5
  at_most : (result : Result (Unit {0}) RunFault) → status_in result ≤ 5
  at_most (Ok done) = omega arith
  at_most (Err Usage) = omega arith
  at_most (Err ConfigText) = omega arith
  at_most (Err (ConfigKey key)) = omega arith
  at_most (Err (BadLine number)) = omega arith
  at_most (Err InputTooLong) = omega arith
  at_most (Err (Plan number)) = omega arith
  at_most (Err PlanEnd) = omega arith
  at_most (Err (Record name)) = omega arith
  at_most (Err (Resume number)) = omega arith
  at_most (Err (Clip fault)) = clip_at_most fault
  at_most (Err (MediaTwice name)) = omega arith
  at_most (Err (MediaTotal total)) = omega arith
  at_most (Err Device) = omega arith
  at_most (Err OutOfMemory) = omega arith

  -- the result of the setup has the first fault
  first_of_setting_up : FirstFaultDecides → (named : ServerWords) (setup : Result ServerSetup RunFault) (first : Option RunFault) (moments : AtSite C D O × AtSite C D O)
      → HasFirstFault line first moments.0.folder → Accepts line named → SetsUp (string_bytes named.config) setup moments.0.folder moments.1.folder → TellsFirst setup first
  first_of_setting_up decides named setup first moments has accepted sets =
      let both : Some (string_bytes named.config) ≡ Some has.path = sym accepted.names.config ∙ has.config in
      let path : string_bytes named.config ≡ has.path = cc in
      subst (TellsFirst setup) has.first_is
      (subst (λ (p : List ℕ). TellsFirst setup (fault_of_files p has.files)) path
      (decides (string_bytes named.config) setup moments.0.folder moments.1.folder has.files has.told sets))

  first_of_refused : FirstFaultDecides → (fault : RunFault) (first : Option RunFault) (moments : AtSite C D O × AtSite C D O) → HasFirstFault line first moments.0.folder
      → IsRefused line fault moments → TellsFirst (Err fault) first
  first_of_refused decides fault first moments has refused = first_of_setting_up decides refused.named (Err fault) first moments has refused.accepted refused.refused

  -- files without a fault give status 0, or 5, or something failed
  completes : FirstFaultDecides → (result : Result (Unit {0}) RunFault) (moments : AtSite C D O × AtSite C D O) → HasFirstFault line None moments.0.folder → Came device tells line result moments
      → (status_in result ≡ 0) ⊎ ((status_in result ≡ 5)
      ⊎ (((status_in result ≡ 4) × SomethingFails device tells line moments) ⊎ ((status_in result ≡ 2) × RefusesHistory line moments)))
  completes decides (Ok done) moments has came = inl refl
  completes decides (Err Usage) moments has came =
      elim came [
        | inl by_clap ↦ absurd (by_clap has.accepted)
        | inr twice ↦ absurd (true≢false (sym twice ∙ has.once))
      ]
  completes decides (Err ConfigText) moments has came = absurd (none-some _ (first_of_refused decides ConfigText None moments has came))
  completes decides (Err (ConfigKey key)) moments has came = absurd (none-some _ (first_of_refused decides (ConfigKey key) None moments has came))
  completes decides (Err (BadLine number)) moments has came = absurd came
  completes decides (Err InputTooLong) moments has came = inr (inr (inr (refl, inr came)))
  completes decides (Err (Plan number)) moments has came = absurd came
  completes decides (Err PlanEnd) moments has came = absurd came
  completes decides (Err (Record name)) moments has came = absurd came
  completes decides (Err (Resume number)) moments has came = inr (inr (inr (refl, inl (number, came))))
  completes decides (Err (Clip fault)) moments has came = absurd came
  completes decides (Err (MediaTwice name)) moments has came = absurd (none-some _ (first_of_refused decides (MediaTwice name) None moments has came))
  completes decides (Err (MediaTotal total)) moments has came = absurd (none-some _ (first_of_refused decides (MediaTotal total) None moments has came))
  completes decides (Err Device) moments has came = inr (inr (inl (refl, failed moments came)))
  completes decides (Err OutOfMemory) moments has came = inr (inl refl)

  -- the status of this fault, or that of memory, or that of the folder
  abbrev Meets : RunFault → ℕ → FolderState → FolderState → Type 0
  Meets fault status before after = (status ≡ status_of fault) ⊎ ((status ≡ 5) ⊎ ((status ≡ 4) × Rose before.faults after.faults))

  -- the reported fault is the first one
  same_fault : (told fault : RunFault) (before after : FolderState) → Some fault ≡ Some told → Meets fault (status_of told) before after
  same_fault told fault before after both =
      let same : told ≡ fault = cc in
      inl (ap status_of same)

  -- files have no fault if a history was read after setting up
  no_first : FirstFaultDecides → (fault : RunFault) (unread : ReadHistoryFault) (moments : AtSite C D O × AtSite C D O) → HasFirstFault line (Some fault) moments.0.folder
      → IsUnread line unread moments → ⊥
  no_first decides fault unread moments has came =
      none-some _ (sym (first_of_setting_up decides came.asks.named (Ok came.setup) (Some fault) moments has came.asks.accepted came.set_up))

  -- the first fault gives its status
  meets : FirstFaultDecides → (fault : RunFault) (result : Result (Unit {0}) RunFault) (moments : AtSite C D O × AtSite C D O)
      → HasFirstFault line (Some fault) moments.0.folder → Came device tells line result moments → Meets fault (status_in result) moments.0.folder moments.1.folder
  meets decides fault (Ok done) moments has came =
      elim came [
        | inl run ↦ absurd (none-some _ (sym (first_of_setting_up decides run.0.named (Ok run.0.setup) (Some fault) moments has run.0.accepted run.0.set_up)))
        | inr run ↦ absurd (none-some _ (sym (first_of_setting_up decides run.0.asks.named (Ok run.0.setup) (Some fault) moments has run.0.asks.accepted run.0.set_up)))
      ]
  meets decides fault (Err Usage) moments has came =
      elim came [
        | inl by_clap ↦ absurd (by_clap has.accepted)
        | inr twice ↦ absurd (true≢false (sym twice ∙ has.once))
      ]
  meets decides fault (Err ConfigText) moments has came = same_fault ConfigText fault moments.0.folder moments.1.folder (first_of_refused decides ConfigText (Some fault) moments has came)
  meets decides fault (Err (ConfigKey key)) moments has came = same_fault (ConfigKey key) fault moments.0.folder moments.1.folder (first_of_refused decides (ConfigKey key) (Some fault) moments has came)
  meets decides fault (Err (BadLine number)) moments has came = absurd came
  meets decides fault (Err InputTooLong) moments has came = absurd (no_first decides fault read.TooLong moments has came)
  meets decides fault (Err (Plan number)) moments has came = absurd came
  meets decides fault (Err PlanEnd) moments has came = absurd came
  meets decides fault (Err (Record name)) moments has came = absurd came
  meets decides fault (Err (Resume number)) moments has came = absurd (no_first decides fault (read.Line number) moments has came)
  meets decides fault (Err (Clip refused)) moments has came = absurd came
  meets decides fault (Err (MediaTwice name)) moments has came = same_fault (MediaTwice name) fault moments.0.folder moments.1.folder (first_of_refused decides (MediaTwice name) (Some fault) moments has came)
  meets decides fault (Err (MediaTotal total)) moments has came = same_fault (MediaTotal total) fault moments.0.folder moments.1.folder (first_of_refused decides (MediaTotal total) (Some fault) moments has came)
  meets decides fault (Err Device) moments has came =
      elim came.1 [
        | inl folder ↦ inr (inr (refl, folder))
        | inr other ↦ absurd (none-some _ (sym (first_of_setting_up decides other.0.named (Ok other.0.setup) (Some fault) moments has other.0.accepted other.0.set_up)))
      ]
  meets decides fault (Err OutOfMemory) moments has came = inr (inl refl)

  -- the site after a run whose history got its name
  named_after : (asked : Asked) (moments : SiteState C D O × SiteState C D O) (served : ServesOn device tells asked serve.Ended moments) → served.step ≡ finish.Done
      → moments.1 ≡ after_finish served.finished (after_call (ready_call asked.program.config asked.path true) moments.0)
  named_after asked moments served done =
      subst (λ (step : FinishStep). Finishes step served.finished (after_call (ready_call asked.program.config asked.path true) moments.0) moments.1) done served.finishes

  -- nothing failed if the result is Ok
  ended_well : (first between last : AtSite C D O) → last.folder ≡ between.folder → last.site ≡ between.site → (run : HasServedClients device tells line serve.Ended (first, between))
      → (run.served.step ≡ finish.Done) × (run.site ≡ between.site) → EndsWell device tells line (first, last)
  ended_well first between last folder silent run came =
      record {
        run = moved_run device tells line first between last folder serve.Ended run;
        stopped = stopped_by device tells (program_of run.setup) (run.served.given, run.served.finished) run.served.serves;
        devices = devices_stay device tells (program_of run.setup) (run.served.given, run.served.finished) run.served.serves;
        named = came.0;
        folder = folder ∙ run.set_up.1.1;
        site = ap (λ (s : SiteState C D O). s.faults) (silent ∙ (sym came.1 ∙ named_after (asked_of run.setup (option_map string_bytes run.named.journal)) (first.site, run.site) run.served came.0));
      }

  -- nothing failed if the result of a run that goes on from a history is Ok
  gone_well : (first between last : AtSite C D O) → last.folder ≡ between.folder → last.site ≡ between.site → (run : HasGoneOn device tells line serve.Ended (first, between))
      → (run.served.step ≡ finish.Done) × (run.site ≡ between.site) → GoesOnWell device tells line (first, last)
  gone_well first between last folder silent run came =
      let program = program_from run.history.setup.config run.history.setup.media run.history.stage in
      let after = named_after (asked_after run.history (option_map string_bytes run.asks.named.journal)) (run.opened, run.site) run.served came.0 in
      record {
        run = moved_gone device tells line first between last folder serve.Ended run;
        stopped = stopped_by device tells program (run.served.given, run.served.finished) run.served.serves;
        devices = devices_stay device tells program (run.served.given, run.served.finished) run.served.serves;
        named = came.0;
        folder = folder ∙ run.set_up.1.1;
        site =
            ap (λ (s : SiteState C D O). s.faults) (silent ∙ (sym came.1 ∙ after))
            ∙ ap (λ (s : SiteState C D O). s.faults) run.reads.opens.told;
      }

  only_success : (result : Result (Unit {0}) RunFault) (first between last : AtSite C D O) → last.folder ≡ between.folder → SaysEnd result between.site last.site
      → Came device tells line result (first, between) → status_in result ≡ 0 → EndsWell device tells line (first, last) ⊎ GoesOnWell device tells line (first, last)
  only_success (Ok done) first between last folder says came is =
      elim came [
        | inl run ↦ inl (ended_well first between last folder says run.0 (run.1, run.2))
        | inr run ↦ inr (gone_well first between last folder says run.0 (run.1, run.2))
      ]
  only_success (Err Usage) first between last folder says came is = absurd (omega (arith, is))
  only_success (Err ConfigText) first between last folder says came is = absurd (omega (arith, is))
  only_success (Err (ConfigKey key)) first between last folder says came is = absurd (omega (arith, is))
  only_success (Err (BadLine number)) first between last folder says came is = absurd came
  only_success (Err InputTooLong) first between last folder says came is = absurd (omega (arith, is))
  only_success (Err (Plan number)) first between last folder says came is = absurd came
  only_success (Err PlanEnd) first between last folder says came is = absurd came
  only_success (Err (Record name)) first between last folder says came is = absurd came
  only_success (Err (Resume number)) first between last folder says came is = absurd (omega (arith, is))
  only_success (Err (Clip fault)) first between last folder says came is = absurd came
  only_success (Err (MediaTwice name)) first between last folder says came is = absurd (omega (arith, is))
  only_success (Err (MediaTotal total)) first between last folder says came is = absurd (omega (arith, is))
  only_success (Err Device) first between last folder says came is = absurd (omega (arith, is))
  only_success (Err OutOfMemory) first between last folder says came is = absurd (omega (arith, is))

  -- no device was called if memory ran out after a history was opened
  unserved : (first between last : AtSite C D O) → last.folder ≡ between.folder → SaysLine OutOfMemory between.site last.site → CameOpened device tells line (first, between)
      → EndsOpened device tells line (first, last)
  unserved first between last folder says came =
      elim came [
        | inl same ↦ inl (same.0, same.1, subst (λ (s : SiteState C D O). SaysLine OutOfMemory s last.site) same.2 says)
        | inr asked ↦ elim asked [
          | inl unready ↦ inr (inl (unready.0, unready.1, subst (λ (s : SiteState C D O). SaysLine OutOfMemory s last.site) unready.2 says))
          | inr run ↦
              inr (inr (
                moved_gone device tells line first between last folder serve.OutOfMemory run.0,
                run.0.served.serves,
                subst (λ (s : SiteState C D O). SaysLine OutOfMemory s last.site) (sym run.1) says,
              ))
        ]
      ]

  -- no device was called if memory ran out
  uncalled : (first between last : AtSite C D O) → last.folder ≡ between.folder → SaysLine OutOfMemory between.site last.site
      → Came device tells line (Err OutOfMemory) (first, between) → EndsUncalled device tells line (first, last) ⊎ EndsOpened device tells line (first, last)
  uncalled first between last folder says came =
      elim came [
        | inl same ↦ inl (inl (subst (λ (s : SiteState C D O). SaysLine OutOfMemory s last.site) same says))
        | inr asked ↦ elim asked [
          | inl unready ↦ inl (inr (inl (subst (λ (s : SiteState C D O). SaysLine OutOfMemory s last.site) unready says)))
          | inr served ↦ elim served [
            | inl run ↦
                inl (inr (inr (
                  moved_run device tells line first between last folder serve.OutOfMemory run.0,
                  run.0.served.serves,
                  subst (λ (s : SiteState C D O). SaysLine OutOfMemory s last.site) (sym run.1) says,
                )))
            | inr opened ↦ inr (unserved first between last folder says opened)
          ]
        ]
      ]

  only_memory : (result : Result (Unit {0}) RunFault) (first between last : AtSite C D O) → last.folder ≡ between.folder → SaysEnd result between.site last.site
      → Came device tells line result (first, between) → status_in result ≡ 5 → EndsUncalled device tells line (first, last) ⊎ EndsOpened device tells line (first, last)
  only_memory (Ok done) first between last folder says came is = absurd (omega (arith, is))
  only_memory (Err Usage) first between last folder says came is = absurd (omega (arith, is))
  only_memory (Err ConfigText) first between last folder says came is = absurd (omega (arith, is))
  only_memory (Err (ConfigKey key)) first between last folder says came is = absurd (omega (arith, is))
  only_memory (Err (BadLine number)) first between last folder says came is = absurd came
  only_memory (Err InputTooLong) first between last folder says came is = absurd (omega (arith, is))
  only_memory (Err (Plan number)) first between last folder says came is = absurd came
  only_memory (Err PlanEnd) first between last folder says came is = absurd came
  only_memory (Err (Record name)) first between last folder says came is = absurd came
  only_memory (Err (Resume number)) first between last folder says came is = absurd (omega (arith, is))
  only_memory (Err (Clip fault)) first between last folder says came is = absurd came
  only_memory (Err (MediaTwice name)) first between last folder says came is = absurd (omega (arith, is))
  only_memory (Err (MediaTotal total)) first between last folder says came is = absurd (omega (arith, is))
  only_memory (Err Device) first between last folder says came is = absurd (omega (arith, is))
  only_memory (Err OutOfMemory) first between last folder says came is = uncalled first between last folder says came

  module _ (status : ℕ) (moments : AtSite C D O × AtSite C D O) (ran : RunsServer device tells line status moments) where
    came_here : Came device tells line ran.result (moments.0, ran.between)
    came_here = came_of_line device tells line ran.result (moments.0, ran.between) ran.runs

    most_status : status ≤ 5
    most_status = rw ran.status_is (at_most ran.result)

    usage_status : status ≡ 1 → IsRefusedLine line
    usage_status is = only_usage ran.result (moments.0, ran.between) came_here (sym ran.status_is ∙ is)

    refused_status : IsRefusedLine line → (status ≡ 1) ⊎ (status ≡ 5)
    refused_status refused = rw ran.status_is (refused_words ran.result (moments.0, ran.between) came_here refused)

    config_status : status ≡ 2 → RefusesConfig line moments ⊎ RefusesHistory line moments
    config_status is =
        elim (only_config ran.result (moments.0, ran.between) came_here (sym ran.status_is ∙ is)) [
          | inl config ↦ inl (moved_config line moments.0 ran.between moments.1 ran.folder config)
          | inr history ↦ inr (moved_history line moments.0 ran.between moments.1 ran.folder history)
        ]

    clips_status : status ≡ 3 → RefusesClips line moments
    clips_status is =
        moved_clips line moments.0 ran.between moments.1 ran.folder (only_clips ran.result (moments.0, ran.between) came_here (sym ran.status_is ∙ is))

    fails_here : SomethingFails device tells line (moments.0, ran.between) → SomethingFails device tells line moments
    fails_here = moved_failure device tells line moments.0 ran.between moments.1 ran.folder (end_more ran.result ran.between.site moments.1.site ran.says)

    device_status : status ≡ 4 → SomethingFails device tells line moments
    device_status is = fails_here (only_device ran.result (moments.0, ran.between) came_here (sym ran.status_is ∙ is))

    success_status : status ≡ 0 → EndsWell device tells line moments ⊎ GoesOnWell device tells line moments
    success_status is = only_success ran.result moments.0 ran.between moments.1 ran.folder ran.says came_here (sym ran.status_is ∙ is)

    memory_status : status ≡ 5 → EndsUncalled device tells line moments ⊎ EndsOpened device tells line moments
    memory_status is = only_memory ran.result moments.0 ran.between moments.1 ran.folder ran.says came_here (sym ran.status_is ∙ is)

    faultless_status : FirstFaultDecides → HasFirstFault line None moments.0.folder
        → (status ≡ 0) ⊎ ((status ≡ 5) ⊎ (((status ≡ 4) × SomethingFails device tells line moments) ⊎ ((status ≡ 2) × RefusesHistory line moments)))
    faultless_status decides has =
        elim (completes decides ran.result (moments.0, ran.between) has came_here) [
          | inl good ↦ inl (ran.status_is ∙ good)
          | inr other ↦ elim other [
            | inl memory ↦ inr (inl (ran.status_is ∙ memory))
            | inr fault ↦ elim fault [
              | inl fails ↦ inr (inr (inl (ran.status_is ∙ fails.0, fails_here fails.1)))
              | inr refused ↦ inr (inr (inr (ran.status_is ∙ refused.0, moved_history line moments.0 ran.between moments.1 ran.folder refused.1)))
            ]
          ]
        ]

    faulty_status : FirstFaultDecides → (fault : RunFault) → HasFirstFault line (Some fault) moments.0.folder
        → (status ≡ status_of fault) ⊎ ((status ≡ 5) ⊎ ((status ≡ 4) × Rose moments.0.folder.faults moments.1.folder.faults))
    faulty_status decides fault has =
        subst (λ (n : ℕ). Meets fault n moments.0.folder moments.1.folder) (sym ran.status_is)
        (subst (λ (f : FolderState). Meets fault (status_in ran.result) moments.0.folder f) (sym ran.folder)
        (meets decides fault ran.result (moments.0, ran.between) has came_here))

  -- the exit status of the whole program has its cause
  pub has_its_cause : (status : ℕ) (moments : AtSite C D O × AtSite C D O) → RunsServer device tells line status moments → FirstFaultDecides → HasItsCause device tells line status moments
  has_its_cause status moments ran decides = record {
    most = most_status status moments ran;
    usage = usage_status status moments ran;
    refused = refused_status status moments ran;
    config = config_status status moments ran;
    clips = clips_status status moments ran;
    device = device_status status moments ran;
    memory = memory_status status moments ran;
    success = success_status status moments ran;
    valid = faultless_status status moments ran decides;
    invalid = faulty_status status moments ran decides;
  }
