-- A site in memory.
use Rattle.std.specs.Prelude.{◌==◌, ◌&&◌, Bool, true, false, not, Option, Some, None, length, vec_len}
use Rattle.std.specs.List.{list_any}
use Rattle.play_types.specs.Config.{ConfigView}
use Rattle.play_outside.specs.Faults.{one_more}
use Rattle.play_outside.specs.declared.devices.Devices.{Devices}
use Rattle.play_outside.specs.declared.memory.planned_faults.PlannedFaults.{PlannedFaults}
use Rattle.play_server.specs.declared.site.FinishStep.{FinishStep}
use Rattle.play_server.specs.declared.site.FinishStep.TheVariants.{Done, Failed}

-- whether the next call is planned to fail
abbrev pub fails_next : PlannedFaults → Bool
fails_next planned = list_any (λ number. number == one_more planned.calls) planned.at_calls.items

-- whether there are devices, with a door for each connection of the configuration and an output for each channel
abbrev pub has_devices_for : {C D O : Type 0} → ConfigView → Option (Devices C D O) → Bool
has_devices_for config None = false
has_devices_for config (Some devices) = (vec_len devices.doors == config.connections) && (vec_len devices.outs == length config.channels)

-- whether a call of `ready` with this configuration gives devices: it is not planned to fail, and there are devices for it
abbrev pub is_ready : {C D O : Type 0} → ConfigView → Bool → Option (Devices C D O) → Bool
is_ready config fails devices = not fails && has_devices_for config devices

-- the result of a call of `finish`, by whether it is planned to fail
abbrev pub finish_step : Bool → FinishStep
finish_step false = Done
finish_step true = Failed

-- whether a call of `resume` opens the history: it is not planned to fail, and there is a history
abbrev pub can_open : Bool → Bool → Bool
can_open fails is_kept = not fails && is_kept
