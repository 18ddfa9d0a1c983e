use Rattle.std.proofs.Common.{◌≡◌, ℕ, ◌<◌, ◌≤◌, ◌-◌, length, take, drop, reverse}
use Rattle.history_model.specs.pictures.Raster.{Pictures}
use Rattle.history_model.specs.pictures.Frame.{composed_pixel, layer_pixel, scene_pixel}
use Rattle.row_render.proofs.Covers.{is_keyed}
use Rattle.row_render.proofs.covering.hidden_layers.Given as goal

-- the hidden layers are not seen, and the next layer is keyed if the last one is a keyer
abbrev pub invariant-layers : goal.invariant-layers
invariant-layers l = record {
  value : (pictures : Pictures) (x : ℕ) → x < l.view.size.width
      → composed_pixel (layer_pixel pictures l.view.size x l.view.y) (reverse (drop l.hidden l.layers)) ≡ scene_pixel pictures l.view.size l.layers x l.view.y;
  keyed : l.keyed ≡ is_keyed (reverse (take l.at l.layers));
  range : l.hidden ≤ length l.layers;
}

abbrev pub decreases-layers : goal.decreases-layers
decreases-layers l = length l.layers - l.at
