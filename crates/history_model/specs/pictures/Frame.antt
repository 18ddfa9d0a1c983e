-- The frame of a channel.
use Rattle.std.specs.Prelude.{ℕ, List, [], ◌∷◌, reverse, if◌then◌else◌}
use Rattle.play_types.specs.declared.geometry.Geometry.{Geometry}
use Rattle.play_types.specs.declared.event.Event.{Event}
use Rattle.play_types.specs.declared.event.Event.TheVariants.{Do, Batch, Tick, Stop}
use Rattle.pixel_math.specs.Pixel.{PixelView, transparent}
use Rattle.pixel_math.specs.Arithmetic.{over, key}
use Rattle.play_types.specs.declared.drawn.Drawn.{Drawn}
use Rattle.history_model.specs.pictures.Media.{Setup, size}
use Rattle.history_model.specs.pictures.Raster.{Pictures, raster_pixel}
use Rattle.history_model.specs.pictures.Placing.{Placement, placed_pixel}
use Rattle.history_model.specs.pictures.Scene.{scene_back}

-- the pixel keyed by the nearest layer below, if that is a keyer
abbrev pub keyed_pixel : (Drawn → PixelView) → List Drawn → PixelView → PixelView
keyed_pixel placed [] s = s
keyed_pixel placed (next ∷ below) s = if next.keyer then key s (placed next).r else s

-- the pixel of layers over one another, the uppermost first, given each layer's placed pixel: a keyer itself is not shown
abbrev pub composed_pixel : (Drawn → PixelView) → List Drawn → PixelView
composed_pixel placed [] = transparent
composed_pixel placed (layer ∷ below) =
    let under = composed_pixel placed below in
    if layer.keyer then under else over (keyed_pixel placed below (placed layer)) under

-- how a layer's raster is laid into the frame
abbrev pub placement_of : Drawn → Placement
placement_of layer = record { fill = layer.fill; clip = layer.clip; opacity = layer.opacity }

-- pixel (x, y) of a layer, laid into a frame of this size
abbrev pub layer_pixel : Pictures → Geometry → ℕ → ℕ → Drawn → PixelView
layer_pixel pictures frame x y layer =
    placed_pixel frame (placement_of layer) (raster_pixel pictures frame layer) x y

-- pixel (x, y) of a frame of this size that shows these layers, the lowest first
abbrev pub scene_pixel : Pictures → Geometry → List Drawn → ℕ → ℕ → PixelView
scene_pixel pictures frame layers x y = composed_pixel (layer_pixel pictures frame x y) (reverse layers)

-- pixel (x, y) of each channel at the last tick of a history read backward, transparent if it has no tick
abbrev pub frames_back : Setup → List Event → ℕ → ℕ → ℕ → PixelView
frames_back setup [] = λ channel x y. transparent
frames_back setup (Do tag cmd ∷ before) = frames_back setup before
frames_back setup (Batch tag cmds ∷ before) = frames_back setup before
frames_back setup (Stop tag ∷ before) = frames_back setup before
frames_back setup (Tick ∷ before) =
    let pictures : Pictures = record { setup = setup; frames = frames_back setup before } in
    λ channel x y. scene_pixel pictures (size setup channel) (scene_back before channel) x y

-- pixel (x, y) of a channel at the tick after a history
unfoldable pub frame_pixel : Setup → List Event → ℕ → ℕ → ℕ → PixelView
frame_pixel setup history channel x y = frames_back setup (Tick ∷ reverse history) channel x y

-- pixel (x, y) of a channel at the last tick of a history, transparent if it has no tick
unfoldable pub last_pixel : Setup → List Event → ℕ → ℕ → ℕ → PixelView
last_pixel setup history channel x y = frames_back setup (reverse history) channel x y

-- the pictures that a still can show at the tick after a history
abbrev pub pictures_after : Setup → List Event → Pictures
pictures_after setup history = record { setup = setup; frames = last_pixel setup history }
