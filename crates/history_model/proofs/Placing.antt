-- Placing by the default values: every column and row shows that of its number, and a pixel is the raster's.
use Rattle.std.proofs.Common.{◌≡◌, ℕ, ◌+◌, ◌*◌, ◌/◌, ◌<◌, ◌≤◌, Bool, true, ◌&&◌, pos, ◌-ℤ◌, ◌*ℤ◌, ap, ap₂, ◌∙◌, arith, add-zero, mul-zero, lt-ltb, le-leb, if◌then◌else◌}
use Rattle.std.specs.Prelude.{Some, None, int_le, int_lt}
use Rattle.play_types.specs.declared.geometry.Geometry.{Geometry}
use Rattle.play_types.specs.declared.setting.TheConstants.{MICROS_PER_UNIT}
use Rattle.play_types.specs.declared.setting.Prop.TheVariants.{Fill, Clip}
use Rattle.pixel_math.specs.Pixel.{PixelView}
use Rattle.pixel_math.proofs.Pixels.{fade_whole}
use Rattle.history_model.specs.stage.Value.{default_of}
use Rattle.history_model.specs.pictures.Placing.{floor_div, column_in, twice_middle, twice_part, filled_column, is_kept, visible_column, faded_at, placed_pixel}

-- the middle of a column lies in that column
middle_column : (x : ℕ) → (2 * x + 1) * 1000000 / 2000000 ≡ x
middle_column x = omega arith

-- no part of a width is 0
no_part : (width : ℕ) → twice_part width (pos 0) ≡ pos 0
no_part width = ap pos (mul-zero (2 * width))

-- every column shows the column of its number
pub filled_column-default : (width x : ℕ) → x < width → filled_column width (pos 0) (pos 1000000) x ≡ Some x
filled_column-default width x h =
    ap (λ z. column_in width (floor_div (twice_middle x -ℤ z) (pos 2 *ℤ pos 1000000))) (no_part width)
    ∙ ap (λ n. column_in width (pos (n / 2000000))) (add-zero ((2 * x + 1) * 1000000))
    ∙ ap (λ n. column_in width (pos n)) (middle_column x)
    ∙ ap (λ (t : Bool). if t then Some x else None) (lt-ltb x width h)

-- every column is kept
pub is_kept-default : (width x : ℕ) → x < width → is_kept width (pos 0) (pos 1000000) x ≡ true
is_kept-default width x h =
    ap (λ z. int_le z (twice_middle x) && int_lt (twice_middle x) (twice_part width (pos 1000000))) (no_part width)
    ∙ ap (λ t. int_le (pos 0) (twice_middle x) && t)
    (let below : (2 * x + 1) * 1000000 < 2 * width * 1000000 = omega arith in
    lt-ltb ((2 * x + 1) * 1000000) (2 * width * 1000000) below)
    ∙ ap (λ t. t && true) (let above : 0 ≤ (2 * x + 1) * 1000000 = omega arith in le-leb 0 ((2 * x + 1) * 1000000) above)

-- every column and row shows that of its number by the default fill and clip
pub visible_column-default_columns : (width x : ℕ) → x < width → visible_column width (default_of Fill) (default_of Clip) 0 x ≡ Some x
visible_column-default_columns width x h =
    ap (λ (t : Bool). if t then filled_column width (pos 0) (pos 1000000) x else None) (is_kept-default width x h)
    ∙ filled_column-default width x h

pub visible_column-default_rows : (height y : ℕ) → y < height → visible_column height (default_of Fill) (default_of Clip) 1 y ≡ Some y
visible_column-default_rows height y h =
    ap (λ (t : Bool). if t then filled_column height (pos 0) (pos 1000000) y else None) (is_kept-default height y h)
    ∙ filled_column-default height y h

-- by the default fill and clip a placed pixel is the raster's pixel there at the opacity, and at full opacity it is that pixel
pub placed_pixel-default : (frame : Geometry) (raster : ℕ → ℕ → PixelView) (x y : ℕ) → x < frame.width → y < frame.height →
    placed_pixel frame (record { fill = default_of Fill; clip = default_of Clip; opacity = MICROS_PER_UNIT }) raster x y ≡ raster x y
placed_pixel-default frame raster x y h k =
    ap₂ (λ column row. faded_at column row raster 1000000)
    (visible_column-default_columns frame.width x h) (visible_column-default_rows frame.height y k)
    ∙ fade_whole (raster x y)
