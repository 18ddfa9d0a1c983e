-- The steps of a generated script, as the code has them.
use Rattle.std.specs.Prelude.{ℕ}
use Rattle.history_model.specs.scripts.Generator as script
use Rattle.made_script.specs.declared.generator.DrawnStep.{DrawnStep}

-- a step and the state after it was drawn
abbrev pub step_in : DrawnStep → ℕ → script.Step
step_in step state = record { kind = step.kind; channel = step.channel; layer = step.layer; worker = step.worker; state = state }
