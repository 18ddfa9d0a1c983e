-- What `gen SEED N` writes.
use Rattle.std.specs.Prelude.{◌≡◌, ℕ, Option, Some, None}
use Rattle.play_outside.specs.SinkState.{SinkState, after_taking}
use Rattle.play_outside.specs.Sink.{Fails}
use Rattle.server_setup.specs.declared.fault.RunFault.{RunFault}
use Rattle.server_setup.specs.declared.fault.RunFault.TheVariants as faults
use Rattle.history_model.specs.scripts.Generator.{generator_output}

-- the script of this seed and number of steps was played to its end, and the four lines of its summary were written, and nothing
-- else; or a write of them failed; or memory ran out before them
abbrev pub Generates : ℕ → ℕ → Option RunFault → SinkState → SinkState → Type 0
Generates seed steps None before after = after ≡ after_taking before (generator_output seed steps)
Generates seed steps (Some faults.Device) before after = Fails (generator_output seed steps) before after
Generates seed steps (Some faults.OutOfMemory) before after = after ≡ before
Generates seed steps (Some faults.Usage) before after = ⊥
Generates seed steps (Some faults.ConfigText) before after = ⊥
Generates seed steps (Some (faults.ConfigKey key)) before after = ⊥
Generates seed steps (Some (faults.BadLine number)) before after = ⊥
Generates seed steps (Some faults.InputTooLong) before after = ⊥
Generates seed steps (Some (faults.Plan number)) before after = ⊥
Generates seed steps (Some faults.PlanEnd) before after = ⊥
Generates seed steps (Some (faults.Record name)) before after = ⊥
Generates seed steps (Some (faults.Resume number)) before after = ⊥
Generates seed steps (Some (faults.Clip fault)) before after = ⊥
Generates seed steps (Some (faults.MediaTwice name)) before after = ⊥
Generates seed steps (Some (faults.MediaTotal sum)) before after = ⊥
