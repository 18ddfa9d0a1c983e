-- Clips whose pixels are prepared for showing, and clips with straight alpha.
use Rattle.std.specs.Prelude.{ℕ, ◌+◌, ◌*◌, ◌%◌, ◌<◌, ◌≤◌, ◌==◌, ◌&&◌, min, nat_lt, if◌then◌else◌, List, length, map, slice_index}
use Rattle.std.specs.List.{range_with_len}
use Rattle.pixel_math.specs.Pixel.{scaled, straight}
use Rattle.play_types.specs.declared.clip.TheConstants.{MULTIPLIED, STRAIGHT}
use Rattle.play_types.specs.declared.geometry.Geometry.{Geometry}
use Rattle.play_types.specs.Geometry.{frame_bytes}
use Rattle.play_types.specs.ClipFile.{ClipView}
use Rattle.clip_format.specs.Recolouring.{made_at}

-- each number of the list is a byte
abbrev pub AreBytes : List ℕ → Type 0
AreBytes bytes = (k : ℕ) → slice_index bytes k < 256

-- the three colour bytes of the pixel at a place are at or below its alpha
pub record IsLoweredAt (bytes : List ℕ) (at : ℕ) : Type 0 where
  pub blue : slice_index bytes at ≤ slice_index bytes (at + 3)
  pub green : slice_index bytes (at + 1) ≤ slice_index bytes (at + 3)
  pub red : slice_index bytes (at + 2) ≤ slice_index bytes (at + 3)

-- no pixel of a frame of the clip has a colour byte above its alpha
abbrev pub IsLowered : ClipView → Type 0
IsLowered clip =
    (frame pixel : ℕ) → frame < clip.frames → pixel < clip.geometry.width * clip.geometry.height
    → IsLoweredAt clip.bytes (frame * frame_bytes clip.geometry + 4 * pixel)

-- byte k of frames of this size after the colour bytes of their pictures were replaced: the alphas and the sound stay
abbrev pub recoloured_byte : (ℕ → ℕ → ℕ) → Geometry → List ℕ → ℕ → ℕ
recoloured_byte made size bytes k =
    if nat_lt (k % frame_bytes size) (4 * size.width * size.height) && nat_lt (k % 4) 3 then made_at made bytes k
    else slice_index bytes k

-- the bytes of a clip, each colour byte replaced by what `made` gives of it and its alpha
abbrev pub recoloured : (ℕ → ℕ → ℕ) → ClipView → List ℕ
recoloured made clip = map (recoloured_byte made clip.geometry clip.bytes) (range_with_len 0 (length clip.bytes))

-- a colour byte that is prepared: multiplied by its alpha in clips of version 2, and else lowered to it
abbrev pub prepared_colour : ℕ → ℕ → ℕ → ℕ
prepared_colour version colour alpha = if version == STRAIGHT then scaled colour alpha else min colour alpha

-- the clip of version 1 with each pixel of this clip prepared
unfoldable pub prepared_clip : ClipView → ClipView
prepared_clip clip = record {
  version = MULTIPLIED;
  geometry = clip.geometry;
  frames = clip.frames;
  bytes = recoloured (prepared_colour clip.version) clip;
}

-- the straight form of a colour byte that is lowered to its alpha
abbrev pub straight_colour : ℕ → ℕ → ℕ
straight_colour colour alpha = straight (min colour alpha) alpha

-- the clip of version 2 that shows what this one shows: a clip of version 2 as it is, and of version 1 with each pixel
-- lowered and made straight
unfoldable pub straight_clip : ClipView → ClipView
straight_clip clip =
    if clip.version == STRAIGHT then clip
    else record {
      version = STRAIGHT;
      geometry = clip.geometry;
      frames = clip.frames;
      bytes = recoloured straight_colour clip;
    }
