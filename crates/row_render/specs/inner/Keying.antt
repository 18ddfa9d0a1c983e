-- The row that keys the next layer.
use Rattle.std.specs.Prelude.{◌≡◌, ℕ, Bool, true, false, List, [], ◌∷◌, if◌then◌else◌}
use Rattle.play_types.specs.declared.drawn.Drawn.{Drawn}
use Rattle.pixel_math.specs.Pixel.{PixelView, transparent}
use Rattle.pixel_math.specs.Arithmetic.{key}
use Rattle.lane_blend.specs.Rows.{IsRow}

-- a pixel, keyed by the red of another if it is keyed
abbrev pub keyed_pixel_by : Bool → PixelView → PixelView → PixelView
keyed_pixel_by keyed pixel by = if keyed then key pixel by.r else pixel

-- without layers the next layer is not keyed; otherwise it is keyed exactly if the uppermost of these layers, the first in the list,
-- is a keyer, and then `keys` is the row of that keyer
abbrev pub Keys : (ℕ → Drawn → PixelView) → ℕ → List Drawn → Bool → List ℕ → Type 0
Keys placed width [] keyed keys = keyed ≡ false
Keys placed width (next ∷ below) keyed keys = (keyed ≡ next.keyer) × (next.keyer ≡ true → IsRow width (λ x. placed x next) keys)

-- a row shows these pixels, or all of them are transparent and it is not written yet
pub record IsLaid (blank : Bool) (width : ℕ) (pixel : ℕ → PixelView) (row : List ℕ) : Type 0 where
  pub nothing : blank ≡ true → (x : ℕ) → pixel x ≡ transparent
  pub shown : blank ≡ false → IsRow width pixel row
