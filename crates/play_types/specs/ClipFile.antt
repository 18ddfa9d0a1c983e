-- Clips, and the raw clip file.
use Rattle.std.specs.Prelude.{◌≡◌, ℕ, ◌*◌, ◌≤◌, List, ◌++◌, length, codes}
use Rattle.std.specs.Int.{w16, w32, to_be_bytes}
use Rattle.play_types.specs.declared.clip.TheConstants.{MAX_FRAMES, MULTIPLIED, STRAIGHT}
use Rattle.play_types.specs.declared.geometry.Geometry.{Geometry}
use Rattle.play_types.specs.Geometry.{IsSize, frame_bytes}

-- a clip: its version, its size, its number of frames, and the bytes of its frames one after another
pub record ClipView : Type 0 where
  pub version : ℕ
  pub geometry : Geometry
  pub frames : ℕ
  pub bytes : List ℕ

-- the version is 1 or 2, the size is in range, there are 1 to 1,000,000 frames, and the bytes are as many as these frames have
pub record IsClip (clip : ClipView) : Type 0 where
  pub some_version : MULTIPLIED ≤ clip.version
  pub version : clip.version ≤ STRAIGHT
  pub size : IsSize clip.geometry.width clip.geometry.height clip.geometry.pairs
  pub some_frames : 1 ≤ clip.frames
  pub frames : clip.frames ≤ MAX_FRAMES
  pub whole : length clip.bytes ≡ clip.frames * frame_bytes clip.geometry

-- the 20 bytes before the frames: RCLP, version, flags 0, width, height, frames, pairs, zero
abbrev pub header_bytes : ℕ → Geometry → ℕ → List ℕ
header_bytes version size frames =
    codes "RCLP" ++ to_be_bytes w16 version ++ to_be_bytes w16 0 ++ to_be_bytes w16 size.width ++ to_be_bytes w16 size.height
    ++ to_be_bytes w32 frames ++ to_be_bytes w16 size.pairs ++ to_be_bytes w16 0

-- the file of a clip
abbrev pub clip_bytes : ClipView → List ℕ
clip_bytes clip = header_bytes clip.version clip.geometry clip.frames ++ clip.bytes

-- the bytes are a clip file, and this is its clip
pub record IsClipFile (bytes : List ℕ) (clip : ClipView) : Type 0 where
  pub ranges : IsClip clip
  pub spelled : bytes ≡ clip_bytes clip
