-- How long an output waits for its reader.
use Rattle.std.specs.Prelude.{◌≡◌, ℕ, Bool, true, false, ◌+◌, ◌-◌, ◌<◌, ◌≤◌, ◌^◌, ◌⊎◌, ◌↔◌, min, IsTrue}
use Rattle.real_devices.specs.declared.stall.Stall.{Stall}
use Rattle.real_devices.specs.declared.stall.StallStep.{StallStep}
use Rattle.real_devices.specs.declared.stall.StallStep.TheVariants.{Say, GiveUp}

-- the sum of two counts of nanoseconds, at most 2^64 - 1
abbrev pub more_nanos : ℕ → ℕ → ℕ
more_nanos before nanos = min (before + nanos) (2 ^ 64 - 1)

-- a wait of `nanos` nanoseconds during which the reader took nothing
pub record Waits (step : StallStep) (nanos : ℕ) (is_ending : Bool) (before after : Stall) : Type 0 where
  pub idle : after.idle ≡ more_nanos before.idle nanos
  -- waits at the end of the run are summed; the sum is 0 again if the run goes on
  pub ending : is_ending ≡ true → after.at_end ≡ more_nanos before.at_end nanos
  pub going_on : is_ending ≡ false → after.at_end ≡ 0
  -- the output is given up once the end of the run has waited for ten seconds
  pub gives_up : step ≡ GiveUp ↔ 10_000_000_000 ≤ after.at_end
  -- after a second the wait is reported, once
  pub says : step ≡ Say ↔ ((after.at_end < 10_000_000_000) × (before.is_said ≡ false) × (1_000_000_000 ≤ after.idle))
  pub said : IsTrue after.is_said ↔ (IsTrue before.is_said ⊎ step ≡ Say)
