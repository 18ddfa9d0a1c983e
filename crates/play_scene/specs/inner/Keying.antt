-- What the keyer right below a layer does to it.
use Rattle.std.specs.Prelude.{◌≡◌, ℕ, List, [], ◌∷◌, Option, Some, None, if◌then◌else◌}
use Rattle.play_types.specs.declared.drawn.Drawn.{Drawn}
use Rattle.pixel_math.specs.Pixel.{PixelView}
use Rattle.pixel_math.specs.Arithmetic.{key}
use Rattle.history_model.specs.pictures.Frame.{composed_pixel}

-- the pixel keyed by a keyer with this red, and as it is without one
abbrev pub keyed_by : PixelView → Option ℕ → PixelView
keyed_by pixel None = pixel
keyed_by pixel (Some red) = key pixel red

-- the red of the placed pixel of the uppermost of these layers, if that is a keyer
abbrev pub keyer_above : (Drawn → PixelView) → List Drawn → Option ℕ
keyer_above placed [] = None
keyer_above placed (next ∷ below) = if next.keyer then Some (placed next).r else None

-- `shown` is the pixel of these layers, the uppermost first, and `above` is the red that keys a layer above them, if any does
pub record IsComposed (placed : Drawn → PixelView) (layers : List Drawn) (shown : PixelView) (above : Option ℕ) : Type 0 where
  pub pixel : shown ≡ composed_pixel placed layers
  pub keyer : above ≡ keyer_above placed layers
