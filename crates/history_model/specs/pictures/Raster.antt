-- Pictures brought to the raster of a channel, and the transition between them.
use Rattle.std.specs.Prelude.{ℕ, ◌+◌, ◌*◌, ◌/◌, true, false, Option, Some, None, nat_lt}
use Rattle.play_types.specs.Columns.{Column, Old, New, Both, pick}
use Rattle.play_types.specs.ClipFile.{ClipView}
use Rattle.play_types.specs.declared.geometry.Geometry.{Geometry}
use Rattle.pixel_math.specs.Pixel.{PixelView, transparent, colour_pixel}
use Rattle.pixel_math.specs.Arithmetic.{mix}
use Rattle.play_types.specs.declared.drawn.Still.{Still}
use Rattle.play_types.specs.declared.drawn.Still.TheVariants.{Nothing, Colour, Frame, Channel}
use Rattle.play_types.specs.declared.drawn.Drawn.{Drawn}
use Rattle.history_model.specs.pictures.Media.{Setup, size, clip_at, clip_pixel}

-- the column of a picture of pw columns that column x of a raster of `width` columns shows; rows alike
abbrev pub scaled_to : ℕ → ℕ → ℕ → ℕ
scaled_to pw width x = (2 * x + 1) * pw / (2 * width)

-- pixel (x, y) of a raster that shows a clip at a frame
abbrev pub scaled_clip : Option ClipView → ℕ → Geometry → ℕ → ℕ → PixelView
scaled_clip None frame raster x y = transparent
scaled_clip (Some clip) frame raster x y =
    clip_pixel clip frame (scaled_to clip.geometry.width raster.width x) (scaled_to clip.geometry.height raster.height y)

-- the pictures that a still can show at a tick: the clips, and pixel (x, y) of each channel's frame of the tick before
pub record Pictures : Type 0 where
  pub setup : Setup
  pub frames : ℕ → ℕ → ℕ → PixelView

-- pixel (x, y) of a raster that shows a still
abbrev pub still_pixel : Pictures → Geometry → Still → ℕ → ℕ → PixelView
still_pixel pictures raster Nothing x y = transparent
still_pixel pictures raster (Colour value) x y = colour_pixel value
still_pixel pictures raster (Frame id frame) x y = scaled_clip (clip_at pictures.setup id) frame raster x y
still_pixel pictures raster (Channel channel) x y =
    let picture = size pictures.setup channel in
    pictures.frames channel (scaled_to picture.width raster.width x) (scaled_to picture.height raster.height y)

-- the pixel of a column of a transition, by the columns of the old and the new picture, at step j of d
abbrev pub column_pixel : Column → (ℕ → PixelView) → (ℕ → PixelView) → ℕ → ℕ → PixelView
column_pixel (Old x) old new j d = old x
column_pixel (New x) old new j d = new x
column_pixel (Both x) old new j d = mix (old x) (new x) j d

-- pixel (x, y) of the raster of a drawn layer: the transition runs while its step is below its duration
abbrev pub raster_pixel : Pictures → Geometry → Drawn → ℕ → ℕ → PixelView
raster_pixel pictures raster layer x y =
    let new = λ (column : ℕ). still_pixel pictures raster layer.still column y in
    let old = λ (column : ℕ). still_pixel pictures raster layer.old column y in
    elim (nat_lt layer.step layer.trans.duration) [
      | true ↦
          column_pixel
          (pick layer.trans.kind layer.trans.leftward layer.step layer.trans.duration raster.width x)
          old new layer.step layer.trans.duration
      | false ↦ new x
    ]
