-- What a generated script does, by what is outside before and after.
use Rattle.std.proofs.Common.{◌≡◌, ◌≢◌, inl, inr, ℕ, ◌≤◌, [], refl, ◌∙◌, subst, arith}
use Rattle.std.specs.Prelude.{◌⊎◌, Option, Some, None}
use Rattle.play_outside.specs.SinkState.{SinkState, after_taking}
use Rattle.play_outside.specs.Faults.{Rose}
use Rattle.play_outside.proofs.Counting.{Rose-then}
use Rattle.history_model.specs.scripts.Generator.{generator_output}
use Rattle.server_setup.specs.declared.fault.RunFault.{RunFault}
use Rattle.server_setup.specs.declared.fault.RunFault.TheVariants.{Usage, ConfigText, ConfigKey, BadLine, InputTooLong, Plan, PlanEnd, Record, Resume, Clip, MediaTwice, MediaTotal, Device, OutOfMemory}
use Rattle.script_player.specs.Ending.{exit_status, last_line}
use Rattle.made_script.specs.Generating.{Generates}
use Rattle.run_script.specs.Program.{EndsGenerated, Outside, WritesFaultLine, WritesSummary}
use Rattle.script_player.proofs.FailedWrites.{fails_rose}
use Rattle.run_script.proofs.Complete.{line_count, nothing_written}

-- how the generation ends: well, with a failed write, or out of memory
record EndsSo (fault : Option RunFault) (seed steps : ℕ) (before between : SinkState) : Type 0 where
  cases : ((exit_status fault ≡ 0) × (between ≡ after_taking before (generator_output seed steps)) × (last_line fault ≡ []))
      ⊎ (((exit_status fault ≡ 4) × Rose before.faults between.faults) ⊎ (exit_status fault ≡ 5))

ends_so : (fault : Option RunFault) (seed steps : ℕ) (before between : SinkState) → Generates seed steps fault before between
    → EndsSo fault seed steps before between
ends_so None seed steps before between made = record { cases = inl (refl, made, refl) }
ends_so (Some Device) seed steps before between made = record { cases = inr (inl (refl, fails_rose (generator_output seed steps) before between made)) }
ends_so (Some OutOfMemory) seed steps before between made = record { cases = inr (inr refl) }
ends_so (Some Usage) seed steps before between made = absurd made
ends_so (Some ConfigText) seed steps before between made = absurd made
ends_so (Some (ConfigKey key)) seed steps before between made = absurd made
ends_so (Some (BadLine number)) seed steps before between made = absurd made
ends_so (Some (Plan number)) seed steps before between made = absurd made
ends_so (Some PlanEnd) seed steps before between made = absurd made
ends_so (Some (Record name)) seed steps before between made = absurd made
ends_so (Some (Resume number)) seed steps before between made = absurd made
ends_so (Some InputTooLong) seed steps before between made = absurd made
ends_so (Some (Clip fault)) seed steps before between made = absurd made
ends_so (Some (MediaTwice name)) seed steps before between made = absurd made
ends_so (Some (MediaTotal sum)) seed steps before between made = absurd made

module _ (seed steps status : ℕ) (before after : Outside) (ends : EndsGenerated seed steps status before after) where
  so : EndsSo ends.fault seed steps before.out ends.between
  so = ends_so ends.fault seed steps before.out ends.between ends.made

  pub summary_status : (status ≤ 5) × (status ≢ 1) × (status ≢ 3)
  summary_status =
      let is = ends.outcome in
      elim so.cases [
        | inl well ↦ let n = well.0 in (omega (arith, is, n), λ e. omega (arith, is, n, e), λ e. omega (arith, is, n, e))
        | inr other ↦ elim other [
          | inl failed ↦ let n = failed.0 in (omega (arith, is, n), λ e. omega (arith, is, n, e), λ e. omega (arith, is, n, e))
          | inr n ↦ (omega (arith, is, n), λ e. omega (arith, is, n, e), λ e. omega (arith, is, n, e))
        ]
      ]

  pub summary_finished : status ≡ 0 → WritesSummary seed steps before after
  summary_finished good =
      let is = ends.outcome in
      elim so.cases [
        | inl well ↦ record {
          written = nothing_written ends.between after.out (subst (λ l. WritesFaultLine l ends.between after.out) well.2 ends.said) ∙ well.1;
          media = ends.media;
          unread = ends.unread;
        }
        | inr other ↦ elim other [
          | inl failed ↦ let n = failed.0 in absurd (omega (arith, is, n, good))
          | inr n ↦ absurd (omega (arith, is, n, good))
        ]
      ]

  pub summary_device : status ≡ 4 → Rose before.out.faults after.out.faults
  summary_device bad =
      let is = ends.outcome in
      elim so.cases [
        | inl well ↦ let n = well.0 in absurd (omega (arith, is, n, bad))
        | inr other ↦ elim other [
          | inl failed ↦ Rose-then before.out.faults ends.between.faults after.out.faults failed.1 (line_count ends.between after.out (last_line ends.fault) ends.said)
          | inr n ↦ absurd (omega (arith, is, n, bad))
        ]
      ]

  pub summary_complete : (Rose before.out.faults after.out.faults → ⊥) → (status ≡ 0) ⊎ (status ≡ 5)
  summary_complete wrote_well =
      let is = ends.outcome in
      elim so.cases [
        | inl well ↦ inl (is ∙ well.0)
        | inr other ↦ elim other [
          | inl failed ↦ absurd (wrote_well (Rose-then before.out.faults ends.between.faults after.out.faults failed.1
              (line_count ends.between after.out (last_line ends.fault) ends.said)))
          | inr n ↦ inr (is ∙ n)
        ]
      ]
