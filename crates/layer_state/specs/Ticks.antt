-- Ticks of a layer, one after another.
use Rattle.std.specs.Prelude.{ℕ, zero, suc}
use Rattle.history_model.specs.stage.Life.{Life, after}

-- a layer after `ticks` ticks, each of them one tick of the layer
abbrev pub ticked : ℕ → Life → Life
ticked zero layer = layer
ticked (suc ticks) layer = after (ticked ticks layer) 1
