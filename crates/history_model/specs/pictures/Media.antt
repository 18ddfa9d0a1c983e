-- The channels and clips that a history plays on, and what the clips show.
use Rattle.std.specs.Prelude.{ℕ, zero, suc, ◌+◌, ◌*◌, ◌==◌, ◌&&◌, List, Option, None, ℤ, pos, slice_get, slice_index, nat_lt, unwrap_or, if◌then◌else◌}
use Rattle.std.specs.Int.{w16, cast_signed}
use Rattle.play_types.specs.Geometry.{frame_bytes}
use Rattle.play_types.specs.ClipFile.{ClipView}
use Rattle.play_types.specs.declared.clip.TheConstants.{STRAIGHT}
use Rattle.play_types.specs.declared.geometry.Geometry.{Geometry}
use Rattle.pixel_math.specs.Pixel.{PixelView, transparent, lowered, multiplied}

-- the sizes of the channels, channel 1 first, and the clips by position, none if a file is unreadable
pub record Setup : Type 0 where
  pub channels : List Geometry
  pub clips : List (Option ClipView)

-- a size without columns, rows and sound
abbrev pub no_size : Geometry
no_size = record { width = 0; height = 0; pairs = 0 }

-- the size of a channel, by its number from 1 on: no channel has number 0
abbrev pub size : Setup → ℕ → Geometry
size setup zero = no_size
size setup (suc before) = unwrap_or (slice_get setup.channels before) no_size

-- the clip at a position
abbrev pub clip_at : Setup → ℕ → Option ClipView
clip_at setup id = unwrap_or (slice_get setup.clips id) None

-- where a frame of a clip begins in its bytes
abbrev pub frame_start : ClipView → ℕ → ℕ
frame_start clip frame = frame * frame_bytes clip.geometry

-- the pixel of the four bytes from `at` on, its colours at or below its alpha
abbrev pub pixel_of_bytes : List ℕ → ℕ → PixelView
pixel_of_bytes bytes at =
    lowered (slice_index bytes at) (slice_index bytes (at + 1)) (slice_index bytes (at + 2)) (slice_index bytes (at + 3))

-- the pixel of the four bytes from `at` on, its colours multiplied by its alpha
abbrev pub pixel_of_straight : List ℕ → ℕ → PixelView
pixel_of_straight bytes at =
    multiplied (slice_index bytes at) (slice_index bytes (at + 1)) (slice_index bytes (at + 2)) (slice_index bytes (at + 3))

-- the pixel of the four bytes of a clip from `at` on, by its version: the colours of version 2 are not yet multiplied
abbrev pub prepared_pixel : ClipView → ℕ → PixelView
prepared_pixel clip at =
    if clip.version == STRAIGHT then pixel_of_straight clip.bytes at else pixel_of_bytes clip.bytes at

-- the pixel of a clip at a frame, column and row: transparent if it has no such frame
abbrev pub clip_pixel : ClipView → ℕ → ℕ → ℕ → PixelView
clip_pixel clip frame column row =
    let at = frame_start clip frame + 4 * (row * clip.geometry.width + column) in
    if nat_lt frame clip.frames then prepared_pixel clip at else transparent

-- the sample of the two bytes from `at` on, the lower one first
abbrev pub sample_of_bytes : List ℕ → ℕ → ℤ
sample_of_bytes bytes at = cast_signed w16 (slice_index bytes at + 256 * slice_index bytes (at + 1))

-- the sample of a clip at a frame and pair, side 0 left and 1 right: silent if it has no such frame or pair
abbrev pub clip_sample : ClipView → ℕ → ℕ → ℕ → ℤ
clip_sample clip frame pair side =
    let at = frame_start clip frame + 4 * clip.geometry.width * clip.geometry.height + 4 * pair + 2 * side in
    if nat_lt frame clip.frames && nat_lt pair clip.geometry.pairs then sample_of_bytes clip.bytes at else pos 0
