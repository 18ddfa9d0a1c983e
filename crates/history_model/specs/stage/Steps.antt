-- A place tick by tick, for the laws on lives.
use Rattle.std.specs.Prelude.{ℕ, zero, suc}
use Rattle.history_model.specs.stage.Life.{Life, ready, run_for}

-- a place after one tick: its background is started if that is due, and its foreground, unless paused, is shown for one tick more
abbrev pub step : Life → Life
step s = run_for 1 (ready s)

-- a place after `n` ticks, one after another
abbrev pub steps : ℕ → Life → Life
steps zero s = s
steps (suc n) s = step (steps n s)
