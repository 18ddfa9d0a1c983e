-- The frames of all channels, and the pictures that the frames of one tick give to the next.
use Rattle.std.specs.Prelude.{◌≡◌, ℕ, ◌+◌, ◌-◌, ◌*◌, ◌%◌, ◌<◌, List, [], ◌∷◌, ◌++◌, length, flat_map, map, take, drop, replicate, slice_index_or, slice_set}
use Rattle.play_types.specs.Geometry.{IsSize}
use Rattle.play_types.specs.Config.{ChannelView}
use Rattle.play_types.specs.Scene.{IsConfigured}
use Rattle.play_types.specs.declared.geometry.Geometry.{Geometry}
use Rattle.pixel_math.specs.Pixel.{PixelView}
use Rattle.clip_format.specs.Preparing.{IsLoweredAt}
use Rattle.clip_format.specs.Table.{Entry}
use Rattle.history_model.specs.pictures.Media.{no_size, pixel_of_bytes}
use Rattle.history_model.specs.pictures.Raster.{Pictures}
use Rattle.history_model.specs.text.Frames.{frame_bytes}
use Rattle.play_scene.specs.Picture.{clips_of}

-- the frame of a channel: its size, the bytes of its pixels in rows from the top, and those of its sound
pub record FrameView : Type 0 where
  pub size : Geometry
  pub bytes : List ℕ
  pub sound : List ℕ

-- no pixel of these bytes has a colour byte above its alpha
abbrev pub AreLowered : List ℕ → Type 0
AreLowered bytes = (pixel : ℕ) → IsLoweredAt bytes (4 * pixel)

-- whole pixels, none with a colour byte above its alpha
pub record ArePixels (bytes : List ℕ) : Type 0 where
  pub whole : length bytes % 4 ≡ 0
  pub lowered : AreLowered bytes

-- the size is in range, and there are four bytes a pixel and four a stereo pair
pub record IsFrame (frame : FrameView) : Type 0 where
  pub size : IsSize frame.size.width frame.size.height frame.size.pairs
  pub bytes : length frame.bytes ≡ 4 * frame.size.width * frame.size.height
  pub sound : length frame.sound ≡ 4 * frame.size.pairs
  pub lowered : AreLowered frame.bytes

-- a frame without pixels and sound
abbrev pub no_frame : FrameView
no_frame = record { size = no_size; bytes = []; sound = [] }

-- the frame of a channel, by its number from 1 on
abbrev pub frame_at : ℕ → List FrameView → FrameView
frame_at channel frames = slice_index_or frames (channel - 1) no_frame

-- the transparent and silent frame of a channel of a configuration
abbrev pub zero_frame : ChannelView → FrameView
zero_frame channel = record {
  size = record { width = channel.width; height = channel.height; pairs = channel.pairs };
  bytes = replicate (4 * channel.width * channel.height) 0;
  sound = replicate (4 * channel.pairs) 0;
}

-- bytes of which those from `at` on are replaced by a piece
abbrev pub with_piece : ℕ → List ℕ → List ℕ → List ℕ
with_piece at piece bytes = take at bytes ++ (piece ++ drop (at + length piece) bytes)

-- the frames, with these bytes for one channel
abbrev pub with_bytes : ℕ → List ℕ → List FrameView → List FrameView
with_bytes channel bytes frames = slice_set frames (channel - 1) (record (frame_at channel frames) { bytes = bytes })

-- the frames, with this sound for one channel
abbrev pub with_sound : ℕ → List ℕ → List FrameView → List FrameView
with_sound channel sound frames = slice_set frames (channel - 1) (record (frame_at channel frames) { sound = sound })

-- the number of bytes of a picture of this size, and of the pictures of all frames
abbrev pub picture_length : Geometry → ℕ
picture_length size = 4 * size.width * size.height

abbrev pub pictures_length : List FrameView → ℕ
pictures_length [] = 0
pictures_length (frame ∷ frames) = picture_length frame.size + pictures_length frames

-- the bytes of the pixels of all frames, one frame after another
abbrev pub pixels_of : List FrameView → List ℕ
pixels_of frames = flat_map (λ frame. frame.bytes) frames

-- the frames with these bytes as their pixels, one frame after another
abbrev pub with_pixels : List ℕ → List FrameView → List FrameView
with_pixels pixels [] = []
with_pixels pixels (frame ∷ frames) =
    record frame { bytes = take (picture_length frame.size) pixels } ∷ with_pixels (drop (picture_length frame.size) pixels) frames

-- the pixel at a column and a row of a frame
abbrev pub pixel_in : FrameView → ℕ → ℕ → PixelView
pixel_in frame x y = pixel_of_bytes frame.bytes (4 * (y * frame.size.width + x))

-- a frame whose bytes are those of a picture with this pixel at each column and row
pub record Shows (frame : FrameView) (pixel : ℕ → ℕ → PixelView) : Type 0 where
  pub whole : IsFrame frame
  pub bytes : frame.bytes ≡ frame_bytes frame.size.width frame.size.height pixel

-- the pictures have the clips of a media table and, for each channel, the size and the pixels of its frame
pub record ArePictures (pictures : Pictures) (frames : List FrameView) (entries : List Entry) : Type 0 where
  pub clips : pictures.setup.clips ≡ clips_of entries
  pub sizes : pictures.setup.channels ≡ map (λ frame. frame.size) frames
  pub pixels : (channel x y : ℕ) → IsConfigured (length frames) channel
      → x < (frame_at channel frames).size.width → y < (frame_at channel frames).size.height
      → pictures.frames channel x y ≡ pixel_in (frame_at channel frames) x y

-- the pictures that these frames and a media table give to the next tick
abbrev pub pictures_of : List FrameView → List Entry → Pictures
pictures_of frames entries = record {
  setup = record { channels = map (λ frame. frame.size) frames; clips = clips_of entries };
  frames = λ channel x y. pixel_in (frame_at channel frames) x y;
}
