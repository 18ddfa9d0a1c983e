-- Where a layer's picture lies in the frame.
use Rattle.std.specs.Prelude.{ℕ, zero, suc, ◌+◌, ◌*◌, Bool, ◌&&◌, Option, Some, None, List, ℤ, pos, negsuc, ◌+ℤ◌, ◌-ℤ◌, ◌*ℤ◌, neg_ℤ, nat_abs, int_lt, int_le, nat_lt, if◌then◌else◌}
use Rattle.std.specs.Int.{int_div_euclid}
use Rattle.play_types.specs.Setting.{number_at}
use Rattle.play_types.specs.declared.setting.TheConstants.{MICROS_PER_UNIT}
use Rattle.play_types.specs.declared.geometry.Geometry.{Geometry}
use Rattle.pixel_math.specs.Pixel.{PixelView, transparent}
use Rattle.pixel_math.specs.Arithmetic.{fade}

-- the quotient rounded down, for a divisor that may be negative
abbrev pub floor_div : ℤ → ℤ → ℤ
floor_div number (pos divisor) = int_div_euclid number (pos divisor)
floor_div number (negsuc divisor) = int_div_euclid (neg_ℤ number) (pos (suc divisor))

-- a column of `width` columns, none if the number lies outside
abbrev pub column_in : ℕ → ℤ → Option ℕ
column_in width (pos column) = if nat_lt column width then Some column else None
column_in width (negsuc column) = None

-- twice the middle of column x, in millionths of a column
abbrev pub twice_middle : ℕ → ℤ
twice_middle x = pos (2 * x + 1) *ℤ MICROS_PER_UNIT

-- twice `millionths` millionths of `width` columns, in millionths of a column
abbrev pub twice_part : ℕ → ℤ → ℤ
twice_part width millionths = pos (2 * width) *ℤ millionths

-- the raster column that frame column x shows by the left edge and width of a fill, in millionths; rows alike
abbrev pub filled_column : ℕ → ℤ → ℤ → ℕ → Option ℕ
filled_column width edge (pos zero) x = None
filled_column width edge scale x = column_in width (floor_div (twice_middle x -ℤ twice_part width edge) (pos 2 *ℤ scale))

-- whether frame column x is kept by the left edge and width of a clip, in millionths; rows alike
abbrev pub is_kept : ℕ → ℤ → ℤ → ℕ → Bool
is_kept width edge extent x =
    int_le (twice_part width edge) (twice_middle x) && int_lt (twice_middle x) (twice_part width (edge +ℤ extent))

-- the raster column that frame column x shows, none if it shows none: `at` is 0 for columns and 1 for rows
abbrev pub visible_column : ℕ → List ℤ → List ℤ → ℕ → ℕ → Option ℕ
visible_column width fill clip at x =
    if is_kept width (number_at clip at) (number_at clip (at + 2)) x
    then filled_column width (number_at fill at) (number_at fill (at + 2)) x else None

-- the raster's pixel at a column and a row, at an opacity in millionths: transparent if either is not shown
abbrev pub faded_at : Option ℕ → Option ℕ → (ℕ → ℕ → PixelView) → ℕ → PixelView
faded_at None row raster opacity = transparent
faded_at (Some column) None raster opacity = transparent
faded_at (Some column) (Some row) raster opacity = fade (raster column row) opacity

-- how a raster is laid into the frame: its fill, its clip and its opacity, in millionths
pub record Placement : Type 0 where
  pub fill : List ℤ
  pub clip : List ℤ
  pub opacity : ℤ

-- pixel (x, y) of the frame that shows the raster by its placement
abbrev pub placed_pixel : Geometry → Placement → (ℕ → ℕ → PixelView) → ℕ → ℕ → PixelView
placed_pixel frame placement raster x y =
    faded_at
    (visible_column frame.width placement.fill placement.clip 0 x)
    (visible_column frame.height placement.fill placement.clip 1 y)
    raster (nat_abs placement.opacity)
