-- Rows of pictures.
use Rattle.std.specs.Prelude.{◌≡◌, ℕ, ◌%◌, ◌<◌, ◌≤◌, ◌^◌, List, length}
use Rattle.play_types.specs.declared.drawn.Still.{Still}
use Rattle.play_types.specs.declared.drawn.Still.TheVariants.{Nothing, Colour, Frame, Channel}
use Rattle.pixel_math.specs.Pixel.{PixelView, colour_pixel, transparent}
use Rattle.history_model.specs.pictures.Raster.{scaled_to}
use Rattle.lane_blend.specs.Rows.{AreLowered, pixel_at, width_of}

-- at least one pixel and less than a gigabyte of whole pixels, none with a colour byte above its alpha
pub record IsPicture (row : List ℕ) : Type 0 where
  pub whole : length row % 4 ≡ 0
  pub some : 4 ≤ length row
  pub few : length row < 2 ^ 30
  pub lowered : AreLowered row

-- the pixel at column x of a raster of `width` columns that shows the row of a picture
abbrev pub scaled_pixel : List ℕ → ℕ → ℕ → PixelView
scaled_pixel row width x = pixel_at row (scaled_to (width_of row) width x)

-- the one pixel of a still that is no picture, and of a picture that is not there
abbrev pub plain_pixel : Still → PixelView
plain_pixel Nothing = transparent
plain_pixel (Colour value) = colour_pixel value
plain_pixel (Frame id frame) = transparent
plain_pixel (Channel channel) = transparent
