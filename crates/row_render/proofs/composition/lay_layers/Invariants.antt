use Rattle.std.proofs.Common.{◌≡◌, false, take, reverse}
use Rattle.history_model.specs.pictures.Raster.{Pictures}
use Rattle.history_model.specs.pictures.Frame.{composed_pixel, layer_pixel}
use Rattle.play_scene.specs.Frames.{ArePictures}
use Rattle.lane_blend.specs.Rows.{AreLowered}
use Rattle.row_render.specs.inner.Keying.{IsLaid, Keys}
use Rattle.row_render.proofs.composition.lay_layers.Given as goal

-- the row shows the layers so far, and the row of keys is that of the last one if it is a keyer
abbrev pub invariant-loop-layer : goal.invariant-loop-layer
invariant-loop-layer l = record {
  shown : (pictures : Pictures) → ArePictures pictures l.view.prev.now l.view.media.now
      → IsLaid l.below.blank l.view.size.width (λ x. composed_pixel (layer_pixel pictures l.view.size x l.view.y) (reverse (take l.layer-index l.layers))) l.row;
  lowered : l.below.blank ≡ false → AreLowered l.row;
  keys : (pictures : Pictures) → ArePictures pictures l.view.prev.now l.view.media.now
      → Keys (λ x. layer_pixel pictures l.view.size x l.view.y) l.view.size.width (reverse (take l.layer-index l.layers)) l.below.keyed l.keys;
}
