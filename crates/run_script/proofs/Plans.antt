-- What the playing of a cue sheet does, over the streams before and after.
use Rattle.std.proofs.Common.{◌≡◌, inl, inr, ℕ, ◌≤◌, List, [], length, refl, sym, ap, ◌∙◌, subst, arith, length-append}
use Rattle.std.specs.Prelude.{◌⊎◌, Option, Some, None, Ok, Err, IfSome}
use Rattle.play_outside.specs.Faults.{Rose}
use Rattle.play_outside.specs.SinkState.{SinkState}
use Rattle.play_outside.proofs.Counting.{Rose-then}
use Rattle.history_model.specs.scripts.History.{Playout}
use Rattle.play_schedule.specs.declared.limits.TheConstants.{MAX_SHEET_BYTES}
use Rattle.play_schedule.specs.declared.sheet.SheetFault.{SheetFault}
use Rattle.play_schedule.specs.declared.sheet.SheetFault.TheVariants as sheet_fault
use Rattle.play_schedule.specs.SheetView.{SheetView}
use Rattle.play_schedule.specs.Sheet.{sheet_of}
use Rattle.server_setup.specs.declared.fault.RunFault.{RunFault}
use Rattle.server_setup.specs.declared.fault.RunFault.TheVariants.{Usage, ConfigText, ConfigKey, BadLine, InputTooLong, Plan, PlanEnd, Record, Resume, Clip, MediaTwice, MediaTotal, Device, OutOfMemory}
use Rattle.script_player.specs.Ending.{exit_status, last_line}
use Rattle.script_player.specs.Run.{Streams}
use Rattle.cue_player.specs.Planning.{PlanEnds, PlaysSheet}
use Rattle.run_script.specs.Program.{EndsPlan, IsSheetPlayed, PlaysSheetInput, WritesFaultLine}
use Rattle.script_player.proofs.FailedWrites.{fails_rose}
use Rattle.run_script.proofs.Complete.{line_count, nothing_written}
use Rattle.run_script.proofs.Conversions.{IsRead, IsStatus, all_read, read_by}

module _ (playout : Playout) where
  status_by : (fault : Option RunFault) (bytes : List ℕ) (before after : Streams) → PlanEnds playout fault bytes before after → IsStatus (exit_status fault)
  status_by None bytes before after ends = (omega arith, λ e. omega (arith, e), λ e. omega (arith, e))
  status_by (Some InputTooLong) bytes before after ends = (omega arith, λ e. omega (arith, e), λ e. omega (arith, e))
  status_by (Some (Plan number)) bytes before after ends = (omega arith, λ e. omega (arith, e), λ e. omega (arith, e))
  status_by (Some PlanEnd) bytes before after ends = (omega arith, λ e. omega (arith, e), λ e. omega (arith, e))
  status_by (Some (Record name)) bytes before after ends = (omega arith, λ e. omega (arith, e), λ e. omega (arith, e))
  status_by (Some (Resume number)) bytes before after ends = (omega arith, λ e. omega (arith, e), λ e. omega (arith, e))
  status_by (Some Device) bytes before after ends = (omega arith, λ e. omega (arith, e), λ e. omega (arith, e))
  status_by (Some OutOfMemory) bytes before after ends = (omega arith, λ e. omega (arith, e), λ e. omega (arith, e))
  status_by (Some Usage) bytes before after ends = absurd ends
  status_by (Some ConfigText) bytes before after ends = absurd ends
  status_by (Some (ConfigKey key)) bytes before after ends = absurd ends
  status_by (Some (BadLine number)) bytes before after ends = absurd ends
  status_by (Some (Clip fault)) bytes before after ends = absurd ends
  status_by (Some (MediaTwice name)) bytes before after ends = absurd ends
  status_by (Some (MediaTotal sum)) bytes before after ends = absurd ends

  -- with status 0 there is no fault
  well_by : (fault : Option RunFault) (bytes : List ℕ) (before after : Streams) → PlanEnds playout fault bytes before after → exit_status fault ≡ 0
      → (last_line fault ≡ []) × PlanEnds playout None bytes before after
  well_by None bytes before after ends good = (refl, ends)
  well_by (Some InputTooLong) bytes before after ends good = absurd (omega (arith, good))
  well_by (Some (Plan number)) bytes before after ends good = absurd (omega (arith, good))
  well_by (Some PlanEnd) bytes before after ends good = absurd (omega (arith, good))
  well_by (Some (Record name)) bytes before after ends good = absurd (omega (arith, good))
  well_by (Some (Resume number)) bytes before after ends good = absurd (omega (arith, good))
  well_by (Some Device) bytes before after ends good = absurd (omega (arith, good))
  well_by (Some OutOfMemory) bytes before after ends good = absurd (omega (arith, good))
  well_by (Some Usage) bytes before after ends good = absurd ends
  well_by (Some ConfigText) bytes before after ends good = absurd ends
  well_by (Some (ConfigKey key)) bytes before after ends good = absurd ends
  well_by (Some (BadLine number)) bytes before after ends good = absurd ends
  well_by (Some (Clip fault)) bytes before after ends good = absurd ends
  well_by (Some (MediaTwice name)) bytes before after ends good = absurd ends
  well_by (Some (MediaTotal sum)) bytes before after ends good = absurd ends

  -- with status 4 a read or a write failed
  device_by : (fault : Option RunFault) (bytes : List ℕ) (before after : Streams) → PlanEnds playout fault bytes before after → exit_status fault ≡ 4
      → Rose before.input.faults after.input.faults ⊎ Rose before.out.faults after.out.faults
  device_by None bytes before after ends bad = absurd (omega (arith, bad))
  device_by (Some InputTooLong) bytes before after ends bad = absurd (omega (arith, bad))
  device_by (Some (Plan number)) bytes before after ends bad = absurd (omega (arith, bad))
  device_by (Some PlanEnd) bytes before after ends bad = absurd (omega (arith, bad))
  device_by (Some (Record name)) bytes before after ends bad = absurd (omega (arith, bad))
  device_by (Some (Resume number)) bytes before after ends bad = absurd (omega (arith, bad))
  device_by (Some Device) bytes before after ends bad =
      elim ends.1 [
        | inl failed ↦ inl failed.0
        | inr failed ↦ inr (fails_rose _ before.out after.out failed.2.written)
      ]
  device_by (Some OutOfMemory) bytes before after ends bad = absurd (omega (arith, bad))
  device_by (Some Usage) bytes before after ends bad = absurd ends
  device_by (Some ConfigText) bytes before after ends bad = absurd ends
  device_by (Some (ConfigKey key)) bytes before after ends bad = absurd ends
  device_by (Some (BadLine number)) bytes before after ends bad = absurd ends
  device_by (Some (Clip fault)) bytes before after ends bad = absurd ends
  device_by (Some (MediaTwice name)) bytes before after ends bad = absurd ends
  device_by (Some (MediaTotal sum)) bytes before after ends bad = absurd ends

  not_both : (input : List ℕ) (found : SheetView) (fault : SheetFault) → sheet_of playout.config.rate input ≡ Ok found → sheet_of playout.config.rate input ≡ Err fault → ⊥
  not_both input found fault one other = differ (sym one ∙ other)
    where
      differ : Ok found ≡ Err fault → ⊥
      differ e = cc

  -- a valid sheet is not refused
  not_refused : (input bytes : List ℕ) (found : SheetView) (fault : SheetFault) → input ≡ bytes → sheet_of playout.config.rate input ≡ Ok found
      → sheet_of playout.config.rate bytes ≡ Err fault → ⊥
  not_refused input bytes found fault same one other = not_both input found fault one (ap (sheet_of playout.config.rate) same ∙ other)

  complete_by : (fault : Option RunFault) (input bytes : List ℕ) (found : SheetView) (before after : Streams) → IsRead input bytes after.input.left
      → length input ≤ MAX_SHEET_BYTES → sheet_of playout.config.rate input ≡ Ok found → PlanEnds playout fault bytes before after
      → (Rose before.input.faults after.input.faults → ⊥) → (Rose before.out.faults after.out.faults → ⊥) → (exit_status fault ≡ 0) ⊎ (exit_status fault ≡ 5)
  complete_by None input bytes found before after read few is ends read_well wrote_well = inl refl
  complete_by (Some InputTooLong) input bytes found before after read few is ends read_well wrote_well =
      let long = ends.0 in
      absurd (omega (arith, long, few, ap length read.parts, length-append bytes read.rest))
  complete_by (Some (Plan number)) input bytes found before after read few is ends read_well wrote_well =
      absurd (not_refused input bytes found (sheet_fault.Line number) (all_read input bytes after.input read ends.whole.at_end).0 is ends.refuses)
  complete_by (Some PlanEnd) input bytes found before after read few is ends read_well wrote_well =
      absurd (not_refused input bytes found sheet_fault.NoEnd (all_read input bytes after.input read ends.whole.at_end).0 is ends.refuses)
  complete_by (Some (Record name)) input bytes found before after read few is ends read_well wrote_well = absurd ends
  complete_by (Some (Resume number)) input bytes found before after read few is ends read_well wrote_well = absurd ends
  complete_by (Some Device) input bytes found before after read few is ends read_well wrote_well =
      elim ends.1 [
        | inl failed ↦ absurd (read_well failed.0)
        | inr failed ↦ absurd (wrote_well (fails_rose _ before.out after.out failed.2.written))
      ]
  complete_by (Some OutOfMemory) input bytes found before after read few is ends read_well wrote_well = inr refl
  complete_by (Some Usage) input bytes found before after read few is ends read_well wrote_well = absurd ends
  complete_by (Some ConfigText) input bytes found before after read few is ends read_well wrote_well = absurd ends
  complete_by (Some (ConfigKey key)) input bytes found before after read few is ends read_well wrote_well = absurd ends
  complete_by (Some (BadLine number)) input bytes found before after read few is ends read_well wrote_well = absurd ends
  complete_by (Some (Clip fault)) input bytes found before after read few is ends read_well wrote_well = absurd ends
  complete_by (Some (MediaTwice name)) input bytes found before after read few is ends read_well wrote_well = absurd ends
  complete_by (Some (MediaTotal sum)) input bytes found before after read few is ends read_well wrote_well = absurd ends

module _ (playout : Playout) (status : ℕ) (before after : Streams) (ends : EndsPlan playout status before after) where
  abbrev middle : Streams
  middle = record { input = after.input; out = ends.between }

  pub plan_status : IsStatus status
  plan_status = subst IsStatus (sym ends.outcome) (status_by playout ends.fault ends.plan.bytes before middle ends.plan.ends)

  -- the count of faults of the output does not fall with the line of the fault
  wrote : ends.between.faults ≤ after.out.faults
  wrote = line_count ends.between after.out (last_line ends.fault) ends.said

  pub plan_device : status ≡ 4 → Rose before.input.faults after.input.faults ⊎ Rose before.out.faults after.out.faults
  plan_device bad =
      elim (device_by playout ends.fault ends.plan.bytes before middle ends.plan.ends (sym ends.outcome ∙ bad)) [
        | inl read ↦ inl read
        | inr write ↦ inr (Rose-then before.out.faults ends.between.faults after.out.faults write wrote)
      ]

  pub plan_complete : (input : List ℕ) (found : SheetView) → before.input.left ≡ Some input → length input ≤ MAX_SHEET_BYTES
      → sheet_of playout.config.rate input ≡ Ok found → (Rose before.input.faults after.input.faults → ⊥) → (Rose before.out.faults after.out.faults → ⊥)
      → (status ≡ 0) ⊎ (status ≡ 5)
  plan_complete input found known few is read_well wrote_well =
      subst (λ s. (s ≡ 0) ⊎ (s ≡ 5)) (sym ends.outcome)
      (complete_by playout ends.fault input ends.plan.bytes found before middle
      (read_by input ends.plan.bytes before.input.left after.input.left known ends.plan.gives) few is ends.plan.ends read_well
      (λ rose. wrote_well (Rose-then before.out.faults ends.between.faults after.out.faults rose wrote)))

  pub plan_finished : status ≡ 0 → IsSheetPlayed playout before after
  plan_finished good = (by_left before.input.left refl, well.1.1.whole.quiet, ap (λ (s : SinkState). s.faults) (same ∙ well.1.2.written))
    where
      well : (last_line ends.fault ≡ []) × PlanEnds playout None ends.plan.bytes before middle
      well = well_by playout ends.fault ends.plan.bytes before middle ends.plan.ends (sym ends.outcome ∙ good)

      same : after.out ≡ ends.between
      same = nothing_written ends.between after.out (subst (λ l. WritesFaultLine l ends.between after.out) well.0 ends.said)

      by_left : (found : Option (List ℕ)) → before.input.left ≡ found → IfSome found (λ input. PlaysSheetInput playout input before after)
      by_left None is = tt
      by_left (Some input) is =
          let read = read_by input ends.plan.bytes before.input.left after.input.left is ends.plan.gives in
          let all = all_read input ends.plan.bytes after.input read well.1.1.whole.at_end in
          record {
            sheet = well.1.0;
            reads = ap (sheet_of playout.config.rate) all.0 ∙ well.1.1.reads;
            at_end = all.1;
            plays = subst (λ (s : SinkState). PlaysSheet playout well.1.0 before.out s) (sym same) well.1.2;
          }
