-- Timecodes of moments.
use Rattle.std.specs.Prelude.{◌≡◌, ℕ, ◌+◌, ◌*◌, ◌<◌}
use Rattle.play_schedule.specs.declared.timecode.Timecode.{Timecode}

-- the timecode is that of a moment, with `rate` frames a second
pub record IsTimecodeOf (rate moment : ℕ) (time : Timecode) : Type 0 where
  pub minutes : time.minutes < 60
  pub seconds : time.seconds < 60
  pub frame : time.frame < rate
  pub value : moment ≡ ((time.hours * 60 + time.minutes) * 60 + time.seconds) * rate + time.frame
