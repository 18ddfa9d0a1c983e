-- What a command line does, by what is outside before and after.
use Rattle.std.proofs.Common.{◌≡◌, ◌≢◌, inl, inr, ℕ, ◌≤◌, List, refl, sym, ap, ◌∙◌, subst, arith}
use Rattle.std.specs.Prelude.{Option, Some, None, Result, Ok, Err, IfSome, MatchOption}
use Rattle.std.proofs.lemmas.Option.{none-some}
use Rattle.play_outside.specs.Faults.{Rose}
use Rattle.play_outside.specs.FolderState.{FolderState, Files}
use Rattle.script_player.specs.declared.ending.Ending.{Ending}
use Rattle.script_player.specs.declared.ending.Ending.TheVariants.{Finished, Stopped, BadLine, TooLong, ReadFault, WriteFault}
use Rattle.script_player.specs.declared.ending.Ending.TheVariants as ending
use Rattle.server_setup.specs.declared.setup.ServerSetup.{ServerSetup}
use Rattle.server_setup.specs.declared.fault.RunFault.{RunFault}
use Rattle.server_setup.specs.declared.fault.RunFault.TheVariants.{Usage, ConfigText, ConfigKey, InputTooLong, MediaTwice, MediaTotal, Device, OutOfMemory}
use Rattle.server_setup.specs.declared.fault.RunFault.TheVariants as faults
use Rattle.script_player.specs.Ending.{status_of}
use Rattle.run_script.specs.CommandLine.{CommandLine, Plain, Configured, Generated, Converted, Planned, Recorded, command_line_of}
use Rattle.run_script.specs.Program.{Outside, streams_of, SaysUsage, RunsCommandLine, PlaysToEnd, DeviceFails, MeetsFault, MeetsFirstFault, SucceedsIfValid, PlaysScript}
use Rattle.script_film.specs.Recording.{film_of}
use Rattle.script_player.specs.Playouts.{plain_playout, playout_of}
use Rattle.server_setup.specs.Setup.{SetsUp, TellsFirst, fault_of_files}
use Rattle.server_setup.specs.Fault as setup
use Rattle.script_player.specs.Shown.{Frames}
use Rattle.run_script.proofs.Complete.{completes_run, device_of_run, is_played}
use Rattle.run_script.proofs.Conversions.{clip_known, converted_complete, converted_device, converted_finished, converted_status}
use Rattle.run_script.proofs.Plans.{plan_complete, plan_device, plan_finished, plan_status}
use Rattle.run_script.proofs.Recordings.{record_complete, record_device, record_finished, record_status}
use Rattle.run_script.proofs.Summaries.{summary_complete, summary_device, summary_finished, summary_status}
use Rattle.server_setup.proofs.FirstFault.{told_first}
use Rattle.server_setup.proofs.Setups.{files_kept, kept_but_device}

-- a status of a run of a command line
abbrev pub IsRunStatus : ℕ → Type 0
IsRunStatus status = (status ≤ 5) × (status ≢ 1)

of_ending : (ending : Ending) → IsRunStatus (status_of ending)
of_ending Finished = (omega arith, λ e. omega (arith, e))
of_ending Stopped = (omega arith, λ e. omega (arith, e))
of_ending (BadLine number) = (omega arith, λ e. omega (arith, e))
of_ending TooLong = (omega arith, λ e. omega (arith, e))
of_ending ReadFault = (omega arith, λ e. omega (arith, e))
of_ending WriteFault = (omega arith, λ e. omega (arith, e))
of_ending ending.Memory = (omega arith, λ e. omega (arith, e))

of_fault : (path : List ℕ) (fault : RunFault) (before after : FolderState) → SetsUp path (Err fault) before after → IsRunStatus (setup.status_of fault)
of_fault path Usage before after sets = absurd sets
of_fault path ConfigText before after sets = (omega arith, λ e. omega (arith, e))
of_fault path (ConfigKey name) before after sets = (omega arith, λ e. omega (arith, e))
of_fault path (faults.BadLine number) before after sets = absurd sets
of_fault path (faults.Plan number) before after sets = absurd sets
of_fault path faults.PlanEnd before after sets = absurd sets
of_fault path (faults.Record name) before after sets = absurd sets
of_fault path (faults.Resume number) before after sets = absurd sets
of_fault path InputTooLong before after sets = absurd sets
of_fault path (faults.Clip fault) before after sets = absurd sets
of_fault path (MediaTwice name) before after sets = (omega arith, λ e. omega (arith, e))
of_fault path (MediaTotal total) before after sets = (omega arith, λ e. omega (arith, e))
of_fault path Device before after sets = (omega arith, λ e. omega (arith, e))
of_fault path OutOfMemory before after sets = (omega arith, λ e. omega (arith, e))

-- the status of a run of a script is not that of faulty clips
no_clips : (ending : Ending) → status_of ending ≡ 3 → ⊥
no_clips Finished e = omega (arith, e)
no_clips Stopped e = omega (arith, e)
no_clips (BadLine number) e = omega (arith, e)
no_clips TooLong e = omega (arith, e)
no_clips ReadFault e = omega (arith, e)
no_clips WriteFault e = omega (arith, e)
no_clips ending.Memory e = omega (arith, e)

-- no fault has the status 0
not_well : (fault : RunFault) → setup.status_of fault ≡ 0 → ⊥
not_well ConfigText e = omega (arith, e)
not_well (ConfigKey name) e = omega (arith, e)
not_well (faults.Clip fault) e = elim (clip_known fault) [ inl n ↦ omega (arith, n, e) | inr n ↦ omega (arith, n, e) ]
not_well (MediaTwice name) e = omega (arith, e)
not_well (MediaTotal total) e = omega (arith, e)
not_well Device e = omega (arith, e)
not_well OutOfMemory e = omega (arith, e)
not_well Usage e = omega (arith, e)
not_well (faults.BadLine number) e = omega (arith, e)
not_well (faults.Plan number) e = omega (arith, e)
not_well faults.PlanEnd e = omega (arith, e)
not_well (faults.Record name) e = omega (arith, e)
not_well (faults.Resume number) e = omega (arith, e)
not_well InputTooLong e = omega (arith, e)

-- only the fault of a device has status 4
is_device : (fault : RunFault) → setup.status_of fault ≡ 4 → fault ≡ Device
is_device ConfigText e = absurd (let no : 2 ≡ 4 = e in omega (arith, no))
is_device (ConfigKey name) e = absurd (let no : 2 ≡ 4 = e in omega (arith, no))
is_device (faults.Clip fault) e = absurd (elim (clip_known fault) [ inl n ↦ omega (arith, n, e) | inr n ↦ omega (arith, n, e) ])
is_device (MediaTwice name) e = absurd (let no : 3 ≡ 4 = e in omega (arith, no))
is_device (MediaTotal total) e = absurd (let no : 3 ≡ 4 = e in omega (arith, no))
is_device Device e = refl
is_device OutOfMemory e = absurd (let no : 5 ≡ 4 = e in omega (arith, no))
is_device Usage e = absurd (let no : 1 ≡ 4 = e in omega (arith, no))
is_device (faults.BadLine number) e = absurd (let no : 2 ≡ 4 = e in omega (arith, no))
is_device (faults.Plan number) e = absurd (let no : 2 ≡ 4 = e in omega (arith, no))
is_device faults.PlanEnd e = absurd (let no : 2 ≡ 4 = e in omega (arith, no))
is_device (faults.Record name) e = absurd (let no : 2 ≡ 4 = e in omega (arith, no))
is_device (faults.Resume number) e = absurd (let no : 2 ≡ 4 = e in omega (arith, no))
is_device InputTooLong e = absurd (let no : 2 ≡ 4 = e in omega (arith, no))

module _ (before after : Outside) where
  -- no status of a command line is above 5, and none is 1
  pub run_status : (line : CommandLine) (status : ℕ) → RunsCommandLine line status before after → IsRunStatus status
  run_status (Plain size) status runs = subst IsRunStatus (sym runs.1.outcome) (of_ending runs.1.ending)
  run_status (Configured shown path digests) status runs =
      elim runs [
        | inl refused ↦ subst IsRunStatus (sym refused.outcome) (of_fault path refused.fault before.media after.media refused.refused)
        | inr configured ↦ subst IsRunStatus (sym configured.run.outcome) (of_ending configured.run.ending)
      ]
  run_status (Generated seed steps) status runs =
      let known = summary_status seed steps status before after runs in
      (known.0, known.1)
  run_status Converted status runs =
      let known = converted_status status before after runs in
      (known.0, known.1)
  run_status (Planned path digests) status runs =
      elim runs [
        | inl refused ↦ subst IsRunStatus (sym refused.outcome) (of_fault path refused.fault before.media after.media refused.refused)
        | inr planned ↦ (
            let known = plan_status (playout_of planned.setup digests) status (streams_of before) (streams_of after) planned.run in
            (known.0, known.1)
            )
      ]
  run_status (Recorded path name) status runs =
      elim runs [
        | inl refused ↦ subst IsRunStatus (sym refused.outcome) (of_fault path refused.fault before.media after.media refused.refused)
        | inr recorded ↦ (
            let known = record_status (film_of recorded.setup name) status (streams_of before) (streams_of after) recorded.run in
            (known.0, known.1)
            )
      ]

  pub run_finished : (line : CommandLine) (status : ℕ) → RunsCommandLine line status before after → status ≡ 0 → PlaysToEnd line before after
  run_finished (Plain size) status runs good = (runs.0, is_played Frames (plain_playout size) status (streams_of before) (streams_of after) runs.1 good)
  run_finished (Configured shown path digests) status runs good =
      elim runs [
        | inl refused ↦ absurd (not_well refused.fault (sym refused.outcome ∙ good))
        | inr configured ↦ (
          configured.setup,
          configured.set_up,
          is_played shown (playout_of configured.setup digests) status (streams_of before) (streams_of after) configured.run good,
        )
      ]
  run_finished (Generated seed steps) status runs good = summary_finished seed steps status before after runs good
  run_finished Converted status runs good = converted_finished status before after runs good
  run_finished (Planned path digests) status runs good =
      elim runs [
        | inl refused ↦ absurd (not_well refused.fault (sym refused.outcome ∙ good))
        | inr planned ↦ (
          planned.setup,
          planned.set_up,
          plan_finished (playout_of planned.setup digests) status (streams_of before) (streams_of after) planned.run good,
        )
      ]
  run_finished (Recorded path name) status runs good =
      elim runs [
        | inl refused ↦ absurd (not_well refused.fault (sym refused.outcome ∙ good))
        | inr recorded ↦ (
          recorded.setup,
          recorded.set_up,
          record_finished (film_of recorded.setup name) status (streams_of before) (streams_of after) recorded.run good,
        )
      ]

  -- a refusal for a failed read raises the count of faults of the folder
  refusal_rose : (path : List ℕ) (fault : RunFault) → SetsUp path (Err fault) before.media after.media → fault ≡ Device → Rose before.media.faults after.media.faults
  refusal_rose path fault sets is = (subst (λ (f : RunFault). SetsUp path (Err f) before.media after.media) is sets).1

  pub run_device : (line : CommandLine) (status : ℕ) → RunsCommandLine line status before after → status ≡ 4 → DeviceFails before after
  run_device (Plain size) status runs bad = inr (device_of_run Frames (plain_playout size) status (streams_of before) (streams_of after) runs.1 bad)
  run_device (Configured shown path digests) status runs bad =
      elim runs [
        | inl refused ↦ inl (refusal_rose path refused.fault refused.refused (is_device refused.fault (sym refused.outcome ∙ bad)))
        | inr configured ↦ inr (device_of_run shown (playout_of configured.setup digests) status (streams_of before) (streams_of after) configured.run bad)
      ]
  run_device (Generated seed steps) status runs bad = inr (inr (summary_device seed steps status before after runs bad))
  run_device Converted status runs bad = inr (converted_device status before after runs bad)
  run_device (Planned path digests) status runs bad =
      elim runs [
        | inl refused ↦ inl (refusal_rose path refused.fault refused.refused (is_device refused.fault (sym refused.outcome ∙ bad)))
        | inr planned ↦ inr (plan_device (playout_of planned.setup digests) status (streams_of before) (streams_of after) planned.run bad)
      ]
  run_device (Recorded path name) status runs bad =
      elim runs [
        | inl refused ↦ inl (refusal_rose path refused.fault refused.refused (is_device refused.fault (sym refused.outcome ∙ bad)))
        | inr recorded ↦ inr (record_device (film_of recorded.setup name) status (streams_of before) (streams_of after) recorded.run bad)
      ]

  pub run_files : (line : CommandLine) (status : ℕ) → RunsCommandLine line status before after → after.media.files ≡ before.media.files
  run_files (Plain size) status runs = ap (λ (s : FolderState). s.files) runs.0
  run_files (Configured shown path digests) status runs =
      elim runs [
        | inl refused ↦ files_kept path (Err refused.fault) before.media after.media refused.refused
        | inr configured ↦ files_kept path (Ok configured.setup) before.media after.media configured.set_up
      ]
  run_files (Generated seed steps) status runs = ap (λ (s : FolderState). s.files) runs.media
  run_files Converted status runs = ap (λ (s : FolderState). s.files) runs.media
  run_files (Planned path digests) status runs =
      elim runs [
        | inl refused ↦ files_kept path (Err refused.fault) before.media after.media refused.refused
        | inr planned ↦ files_kept path (Ok planned.setup) before.media after.media planned.set_up
      ]
  run_files (Recorded path name) status runs =
      elim runs [
        | inl refused ↦ files_kept path (Err refused.fault) before.media after.media refused.refused
        | inr recorded ↦ files_kept path (Ok recorded.setup) before.media after.media recorded.set_up
      ]

  abbrev status_in : Result ServerSetup RunFault → ℕ
  status_in (Ok setup) = 0
  status_in (Err fault) = setup.status_of fault

  ok_no_device : {one : ServerSetup} → Ok one ≢ Err Device
  ok_no_device e = let no : 0 ≡ 4 = ap status_in e in omega (arith, no)

  pub run_media : (line : CommandLine) (status : ℕ) → RunsCommandLine line status before after → status ≢ 4 → after.media ≡ before.media
  run_media (Plain size) status runs well = runs.0
  run_media (Configured shown path digests) status runs well =
      elim runs [
        | inl refused ↦ kept_but_device path (Err refused.fault) before.media after.media refused.refused (λ e. well (refused.outcome ∙ ap status_in e))
        | inr configured ↦ kept_but_device path (Ok configured.setup) before.media after.media configured.set_up ok_no_device
      ]
  run_media (Generated seed steps) status runs well = runs.media
  run_media Converted status runs well = runs.media
  run_media (Planned path digests) status runs well =
      elim runs [
        | inl refused ↦ kept_but_device path (Err refused.fault) before.media after.media refused.refused (λ e. well (refused.outcome ∙ ap status_in e))
        | inr planned ↦ kept_but_device path (Ok planned.setup) before.media after.media planned.set_up ok_no_device
      ]
  run_media (Recorded path name) status runs well =
      elim runs [
        | inl refused ↦ kept_but_device path (Err refused.fault) before.media after.media refused.refused (λ e. well (refused.outcome ∙ ap status_in e))
        | inr recorded ↦ kept_but_device path (Ok recorded.setup) before.media after.media recorded.set_up ok_no_device
      ]

  -- files without a fault are refused only out of memory, if no read fails
  not_refused : (path : List ℕ) (first : Option RunFault) → first ≡ None → (fault : RunFault) → SetsUp path (Err fault) before.media after.media
      → TellsFirst (Err fault) first → (Rose before.media.faults after.media.faults → ⊥) → setup.status_of fault ≡ 5
  not_refused path first none ConfigText sets tells well = absurd (none-some _ (sym none ∙ tells))
  not_refused path first none (ConfigKey name) sets tells well = absurd (none-some _ (sym none ∙ tells))
  not_refused path first none (faults.Clip fault) sets tells well = absurd tells
  not_refused path first none (MediaTwice name) sets tells well = absurd (none-some _ (sym none ∙ tells))
  not_refused path first none (MediaTotal total) sets tells well = absurd (none-some _ (sym none ∙ tells))
  not_refused path first none Device sets tells well = absurd (well sets.1)
  not_refused path first none OutOfMemory sets tells well = refl
  not_refused path first none Usage sets tells well = absurd tells
  not_refused path first none (faults.BadLine number) sets tells well = absurd tells
  not_refused path first none (faults.Plan number) sets tells well = absurd tells
  not_refused path first none faults.PlanEnd sets tells well = absurd tells
  not_refused path first none (faults.Record name) sets tells well = absurd tells
  not_refused path first none (faults.Resume number) sets tells well = absurd tells
  not_refused path first none InputTooLong sets tells well = absurd tells

  -- a refusal meets the first fault
  refusal_meets : (path : List ℕ) (first : Option RunFault) (fault : RunFault) (status : ℕ) → status ≡ setup.status_of fault
      → SetsUp path (Err fault) before.media after.media → TellsFirst (Err fault) first → after.input ≡ before.input → MeetsFault first status before after
  refusal_meets path first ConfigText status is sets tells unread = subst (λ (o : Option RunFault). MeetsFault o status before after) (sym tells) (inl is, unread)
  refusal_meets path first (ConfigKey name) status is sets tells unread = subst (λ (o : Option RunFault). MeetsFault o status before after) (sym tells) (inl is, unread)
  refusal_meets path first (faults.Clip fault) status is sets tells unread = absurd tells
  refusal_meets path first (MediaTwice name) status is sets tells unread = subst (λ (o : Option RunFault). MeetsFault o status before after) (sym tells) (inl is, unread)
  refusal_meets path first (MediaTotal total) status is sets tells unread = subst (λ (o : Option RunFault). MeetsFault o status before after) (sym tells) (inl is, unread)
  refusal_meets path None Device status is sets tells unread = λ e. let no : 4 ≡ 3 = sym is ∙ e in omega (arith, no)
  refusal_meets path (Some fault) Device status is sets tells unread = (inr (inr (is, sets.1)), unread)
  refusal_meets path None OutOfMemory status is sets tells unread = λ e. let no : 5 ≡ 3 = sym is ∙ e in omega (arith, no)
  refusal_meets path (Some fault) OutOfMemory status is sets tells unread = (inr (inl is), unread)
  refusal_meets path first Usage status is sets tells unread = absurd tells
  refusal_meets path first (faults.BadLine number) status is sets tells unread = absurd tells
  refusal_meets path first (faults.Plan number) status is sets tells unread = absurd tells
  refusal_meets path first faults.PlanEnd status is sets tells unread = absurd tells
  refusal_meets path first (faults.Record name) status is sets tells unread = absurd tells
  refusal_meets path first (faults.Resume number) status is sets tells unread = absurd tells
  refusal_meets path first InputTooLong status is sets tells unread = absurd tells

  pub run_refused : (line : CommandLine) (status : ℕ) → RunsCommandLine line status before after → MeetsFirstFault line status before after
  run_refused (Plain size) status runs = λ e. no_clips runs.1.ending (sym runs.1.outcome ∙ e)
  run_refused (Configured shown path digests) status runs = by_files before.media.files refl
    where
      by_files : (found : Option Files) → before.media.files ≡ found → IfSome found (λ files. MeetsFault (fault_of_files path files) status before after)
      by_files None is = tt
      by_files (Some files) is =
          elim runs [
            | inl refused ↦ refusal_meets path (fault_of_files path files) refused.fault status refused.outcome refused.refused
                (told_first path (Err refused.fault) before.media after.media files is refused.refused) refused.unread
            | inr configured ↦ subst (λ (o : Option RunFault). MeetsFault o status before after)
                (sym (told_first path (Ok configured.setup) before.media after.media files is configured.set_up))
                (λ e. no_clips configured.run.ending (sym configured.run.outcome ∙ e))
          ]
  run_refused (Generated seed steps) status runs = (summary_status seed steps status before after runs).2
  run_refused Converted status runs = (converted_status status before after runs).2
  run_refused (Planned path digests) status runs = by_files before.media.files refl
    where
      by_files : (found : Option Files) → before.media.files ≡ found → IfSome found (λ files. MeetsFault (fault_of_files path files) status before after)
      by_files None is = tt
      by_files (Some files) is =
          elim runs [
            | inl refused ↦ refusal_meets path (fault_of_files path files) refused.fault status refused.outcome refused.refused
                (told_first path (Err refused.fault) before.media after.media files is refused.refused) refused.unread
            | inr planned ↦ subst (λ (o : Option RunFault). MeetsFault o status before after)
                (sym (told_first path (Ok planned.setup) before.media after.media files is planned.set_up))
                (plan_status (playout_of planned.setup digests) status (streams_of before) (streams_of after) planned.run).2
          ]
  run_refused (Recorded path name) status runs = by_files before.media.files refl
    where
      by_files : (found : Option Files) → before.media.files ≡ found → IfSome found (λ files. MeetsFault (fault_of_files path files) status before after)
      by_files None is = tt
      by_files (Some files) is =
          elim runs [
            | inl refused ↦ refusal_meets path (fault_of_files path files) refused.fault status refused.outcome refused.refused
                (told_first path (Err refused.fault) before.media after.media files is refused.refused) refused.unread
            | inr recorded ↦ subst (λ (o : Option RunFault). MeetsFault o status before after)
                (sym (told_first path (Ok recorded.setup) before.media after.media files is recorded.set_up))
                (record_status (film_of recorded.setup name) status (streams_of before) (streams_of after) recorded.run).2
          ]

  pub run_complete : (line : CommandLine) (status : ℕ) → RunsCommandLine line status before after → SucceedsIfValid line status before after
  run_complete (Plain size) status runs = λ can valid well.
      completes_run Frames (plain_playout size) status (streams_of before) (streams_of after) runs.1 valid (λ e. well (inl e)) (λ e. well (inr e))
  run_complete (Configured shown path digests) status runs = λ can valid well.
      elim runs [
        | inl refused ↦ inr (refused.outcome ∙ not_refused path (fault_of_files path can.0) can.2 refused.fault refused.refused
            (told_first path (Err refused.fault) before.media after.media can.0 can.1 refused.refused) can.3)
        | inr configured ↦ completes_run shown (playout_of configured.setup digests) status (streams_of before) (streams_of after) configured.run valid (λ e. well (inl e)) (λ e. well (inr e))
      ]
  run_complete (Generated seed steps) status runs = λ can valid well. summary_complete seed steps status before after runs (λ e. well (inr e))
  run_complete Converted status runs = λ can valid well. converted_complete status before after runs valid (λ e. well (inl e)) (λ e. well (inr e))
  run_complete (Planned path digests) status runs = λ can valid well.
      elim runs [
        | inl refused ↦ inr (refused.outcome ∙ not_refused path (fault_of_files path can.0) can.2 refused.fault refused.refused
            (told_first path (Err refused.fault) before.media after.media can.0 can.1 refused.refused) can.3)
        | inr planned ↦ (
            let sheet = valid.3 planned.setup planned.set_up in
            plan_complete (playout_of planned.setup digests) status (streams_of before) (streams_of after) planned.run valid.0 sheet.0 valid.1 valid.2 sheet.1
            (λ e. well (inl e)) (λ e. well (inr e))
            )
      ]
  run_complete (Recorded path name) status runs = λ can valid well.
      elim runs [
        | inl refused ↦ inr (refused.outcome ∙ not_refused path (fault_of_files path can.0) can.2 refused.fault refused.refused
            (told_first path (Err refused.fault) before.media after.media can.0 can.1 refused.refused) can.3)
        | inr recorded ↦ (
            let input = valid.0 in
            record_complete (film_of recorded.setup name) status (streams_of before) (streams_of after) recorded.run input.0 input.1 input.2 input.3
            (valid.1 recorded.setup recorded.set_up) (λ e. well (inl e)) (λ e. well (inr e))
            )
      ]

-- the words are a command line, and it was run
pub line_played : (words : List (List ℕ)) (line : CommandLine) (status : ℕ) (before after : Outside) → command_line_of words ≡ Some line → RunsCommandLine line status before after
    → PlaysScript words status before after
line_played words line status before after is runs =
    let kept = run_status before after line status runs in
    let by_line : (P : CommandLine → Type 0) → P line → IfSome (command_line_of words) P = λ P holds. subst (λ o. IfSome o P) (sym is) holds in
    record {
      usage = (λ e. absurd (kept.1 e), λ e. absurd (none-some line (sym e ∙ is)));
      statuses = kept.0;
      run = subst (λ o. MatchOption o (SaysUsage before after) (λ line. RunsCommandLine line status before after)) (sym is) runs;
      finished = λ good. by_line (λ line. PlaysToEnd line before after) (run_finished before after line status runs good);
      device = λ bad. run_device before after line status runs bad;
      refused = by_line (λ line. MeetsFirstFault line status before after) (run_refused before after line status runs);
      complete = by_line (λ line. SucceedsIfValid line status before after) (run_complete before after line status runs);
      files = run_files before after line status runs;
      media = λ well. run_media before after line status runs well;
    }

-- the words are no command line, and the line of this fault was written
pub usage_said : (words : List (List ℕ)) (before after : Outside) → command_line_of words ≡ None → SaysUsage before after → PlaysScript words 1 before after
usage_said words before after is says =
    let by_line : (P : CommandLine → Type 0) → IfSome (command_line_of words) P = λ P. subst (λ o. IfSome o P) (sym is) tt in
    record {
      usage = (λ e. is, λ e. refl);
      statuses = omega arith;
      run = subst (λ o. MatchOption o (SaysUsage before after) (λ line. RunsCommandLine line 1 before after)) (sym is) says;
      finished = λ good. by_line (λ line. PlaysToEnd line before after);
      device = λ bad. absurd (let no : 1 ≡ 4 = bad in omega (arith, no));
      refused = by_line (λ line. MeetsFirstFault line 1 before after);
      complete = by_line (λ line. SucceedsIfValid line 1 before after);
      files = ap (λ (s : FolderState). s.files) says.0;
      media = λ well. says.0;
    }
