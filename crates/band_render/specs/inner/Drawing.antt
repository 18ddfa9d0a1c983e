-- Bytes that show rows of the scenes of a tick.
use Rattle.std.specs.Prelude.{◌≡◌, ◌<◌, ◌^◌, ℕ, List, length, flat_map}
use Rattle.play_types.specs.Scene.{scene_at}
use Rattle.history_model.specs.pictures.Raster.{Pictures}
use Rattle.play_scene.specs.Frames.{ArePictures, ArePixels, FrameView}
use Rattle.play_sound.specs.Sounds.{AreSounds, HasSound, Sounds, mixed_sample}
use Rattle.band_render.specs.declared.band.Band.{Band}
use Rattle.band_render.specs.declared.drawing.Tick.{Tick}
use Rattle.band_render.specs.Rows.{AreOfChannels, Row, byte_count, row_bytes, rows_from, rows_of_bands}
use Rattle.band_render.specs.inner.Rooms.{AreWide}

-- a tick has as many scenes as frames
abbrev pub IsTick : Tick → Type 0
IsTick tick = length tick.prev.now ≡ length tick.scenes.now

-- the bytes are those that the rows have in the pictures of the scenes of a tick
pub record AreDrawn (tick : Tick) (rows : List Row) (bytes : List ℕ) : Type 0 where
  pub picture : (pictures : Pictures) → ArePictures pictures tick.prev.now tick.media.now
      → bytes ≡ flat_map (row_bytes pictures tick.scenes.now) rows
  pub pixels : ArePixels bytes

-- the frame of a channel has the bytes of all rows of the channel
abbrev pub ShowsRows : Tick → ℕ → FrameView → Type 0
ShowsRows tick channel frame = AreDrawn tick (rows_from channel frame.size 0 frame.size.height) frame.bytes

-- the frame of a channel has the sound of the channel's scene
abbrev pub HasSoundOf : Tick → ℕ → FrameView → Type 0
HasSoundOf tick channel frame = (sounds : Sounds) → AreSounds sounds tick.prev.now tick.media.now
    → HasSound frame (mixed_sample sounds (scene_at channel tick.scenes.now))

-- bands of the channels of a tick, as many bytes as their rows have, and at least one room, each for the widest band
pub record CanDraw (tick : Tick) (bands : List Band) (rooms : List ℕ) (bytes : List ℕ) : Type 0 where
  pub same : IsTick tick
  pub channels : AreOfChannels (length tick.scenes.now) bands
  pub counted : length bytes ≡ byte_count (rows_of_bands bands)
  pub small : length bytes < 2 ^ 64
  pub some : 0 < length rooms
  pub wide : AreWide bands rooms

-- the bytes show the rows of the bands, and the rooms stay as they were
pub record HasDrawn (tick : Tick) (bands : List Band) (before after : List ℕ) (bytes : List ℕ) : Type 0 where
  pub drawn : AreDrawn tick (rows_of_bands bands) bytes
  pub rooms : after ≡ before
