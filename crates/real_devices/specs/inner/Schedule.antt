-- When the pulses of a clock are due.
use Rattle.std.specs.Prelude.{◌≡◌, ℕ, ◌+◌, ◌-◌, ◌*◌, ◌<◌, ◌≤◌, ◌^◌, min, Option, Some, None}
use Rattle.std.specs.Time.{instant_nanos}
use Rattle.std.specs.Duration.{as_nanos}
use Rattle.std.specs.declared.time.Instant.{Instant}
use Rattle.real_devices.specs.declared.schedule.Schedule.{Schedule}
use Rattle.real_devices.specs.declared.schedule.ClockStep.{ClockStep}
use Rattle.real_devices.specs.declared.schedule.ClockStep.TheVariants.{Wait, PassOver}

-- the next pulse is due at `due` nanoseconds of the clock: (given + 1) / rate seconds after the beginning, rounded down to a nanosecond
pub record IsDue (rate : ℕ) (schedule : Schedule) (due : ℕ) : Type 0 where
  pub after : ℕ
  pub since : due ≡ instant_nanos schedule.begun + after
  pub reached : after * rate ≤ (schedule.given + 1) * 1_000_000_000
  pub not_passed : (schedule.given + 1) * 1_000_000_000 < (after + 1) * rate

-- `pulses` is how many whole pulses fit in `nanos` nanoseconds
abbrev pub AreIn : ℕ → ℕ → ℕ → Type 0
AreIn rate nanos pulses = (pulses * 1_000_000_000 ≤ nanos * rate) × (nanos * rate < (pulses + 1) * 1_000_000_000)

-- the next pulse is given, at most a second late
pub record GivesPulse (left rate now : ℕ) (before after : Schedule) : Type 0 where
  pub due : ℕ
  pub is_due : IsDue rate before due
  pub in_time : now ≤ due + 1_000_000_000
  -- how long to wait before it: nothing if it is late
  pub waits : left ≡ due - now
  pub begun : after.begun ≡ before.begun
  pub given : after.given ≡ min (before.given + 1) (2 ^ 64 - 1)

-- the next pulse is more than a second late: a new schedule begins now, and the pulses that were due since are passed over
pub record BeginsAnew (pulses rate : ℕ) (now : Instant) (before after : Schedule) : Type 0 where
  pub due : ℕ
  pub is_due : IsDue rate before due
  pub late : due + 1_000_000_000 < instant_nanos now
  pub passed_over : AreIn rate (instant_nanos now - due) pulses
  pub begun : after.begun ≡ now
  pub given : after.given ≡ 0

-- the next step of a clock: no step and no change if the pulse is due at a time that no clock reads, a pulse after a wait, or a new
-- schedule
abbrev pub Advances : Option ClockStep → ℕ → Instant → Schedule → Schedule → Type 0
Advances None rate now before after = after ≡ before
Advances (Some (Wait time)) rate now before after = GivesPulse (as_nanos time) rate (instant_nanos now) before after
Advances (Some (PassOver pulses)) rate now before after = BeginsAnew pulses rate now before after
