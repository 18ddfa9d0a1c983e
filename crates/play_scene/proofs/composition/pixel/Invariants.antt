use Rattle.std.proofs.Common.{take, reverse}
use Rattle.history_model.specs.pictures.Raster.{Pictures}
use Rattle.history_model.specs.pictures.Frame.{layer_pixel}
use Rattle.play_scene.specs.Frames.{ArePictures}
use Rattle.play_scene.specs.inner.Keying.{IsComposed}
use Rattle.play_scene.proofs.composition.pixel.Given as goal

-- the layers so far
abbrev pub invariant-loop-layer : goal.invariant-loop-layer
invariant-loop-layer l =
    (pictures : Pictures) → ArePictures pictures l.prev l.media
    → IsComposed (layer_pixel pictures l.view.size l.x l.y) (reverse (take l.layer-index l.layer-items)) l.pixel l.keyer
