-- Rows of pictures, and the bands that have them.
use Rattle.std.specs.Prelude.{ℕ, ◌+◌, ◌*◌, List, [], ◌∷◌, ◌++◌, flat_map, map, All}
use Rattle.std.specs.List.{range_with_len}
use Rattle.play_types.specs.Config.{ChannelView}
use Rattle.play_types.specs.Scene.{IsConfigured, scene_at}
use Rattle.play_types.specs.declared.drawn.Drawn.{Drawn}
use Rattle.play_types.specs.declared.geometry.Geometry.{Geometry}
use Rattle.pixel_math.specs.Pixel.{pixel_bytes}
use Rattle.history_model.specs.pictures.Frame.{scene_pixel}
use Rattle.history_model.specs.pictures.Raster.{Pictures}
use Rattle.band_render.specs.declared.band.Band.{Band}

-- a row of the picture of a channel
pub record Row : Type 0 where
  pub channel : ℕ
  pub size : Geometry
  pub y : ℕ

-- `count` rows of a channel from the one at `first` on
abbrev pub rows_from : ℕ → Geometry → ℕ → ℕ → List Row
rows_from channel size first count = map (λ y. record { channel = channel; size = size; y = y }) (range_with_len first count)

-- the rows of a band, and of bands, in order
abbrev pub rows_of : Band → List Row
rows_of band = rows_from band.channel band.size band.first band.rows

abbrev pub rows_of_bands : List Band → List Row
rows_of_bands bands = flat_map rows_of bands

-- all rows of frames of these sizes, of the channels from this one on
abbrev pub rows_of_frames : ℕ → List Geometry → List Row
rows_of_frames channel [] = []
rows_of_frames channel (size ∷ sizes) = rows_from channel size 0 size.height ++ rows_of_frames (channel + 1) sizes

-- the number of bytes of rows: four a pixel
abbrev pub byte_count : List Row → ℕ
byte_count [] = 0
byte_count (row ∷ rows) = 4 * row.size.width + byte_count rows

-- the bytes that a row has in the picture of its channel's scene
abbrev pub row_bytes : Pictures → List (List Drawn) → Row → List ℕ
row_bytes pictures scenes row =
    flat_map (λ x. pixel_bytes (scene_pixel pictures row.size (scene_at row.channel scenes) x row.y)) (range_with_len 0 row.size.width)

-- the bands are of the first `channels` channels
abbrev pub AreOfChannels : ℕ → List Band → Type 0
AreOfChannels channels bands = All (λ band. IsConfigured channels band.channel) bands

-- the size of the frame of a channel
abbrev pub size_of : ChannelView → Geometry
size_of channel = record { width = channel.width; height = channel.height; pairs = channel.pairs }
