-- The sounds that the frames of one tick give to the next, and the bytes of a sound.
use Rattle.std.specs.Prelude.{◌≡◌, ℕ, ◌+◌, ◌*◌, ◌<◌, ℤ, List, [], ◌∷◌, length, map, flat_map}
use Rattle.play_types.specs.Scene.{IsConfigured}
use Rattle.play_types.specs.declared.drawn.Drawn.{Drawn}
use Rattle.play_types.specs.declared.event.Event.{Event}
use Rattle.clip_format.specs.Table.{Entry}
use Rattle.history_model.specs.pictures.Media.{Setup, sample_of_bytes}
use Rattle.history_model.specs.pictures.Sound.{last_sample, scene_sample}
use Rattle.history_model.specs.scripts.Output.{sample_bytes}
use Rattle.history_model.specs.stage.Answer.{numbers_below}
use Rattle.play_scene.specs.Frames.{FrameView, IsFrame, frame_at}
use Rattle.play_scene.specs.Picture.{clips_of}

-- the sounds that a still can give at a tick: the clips, and the sample of each channel's sound of the tick before at a pair,
-- side 0 left and 1 right
pub record Sounds : Type 0 where
  pub setup : Setup
  pub samples : ℕ → ℕ → ℕ → ℤ

-- the sample of a frame at a pair, side 0 left and 1 right
abbrev pub sample_in : FrameView → ℕ → ℕ → ℤ
sample_in frame pair side = sample_of_bytes frame.sound (4 * pair + 2 * side)

-- the sounds have the clips of a media table and, for each channel, the size and the samples of its frame
pub record AreSounds (sounds : Sounds) (frames : List FrameView) (entries : List Entry) : Type 0 where
  pub clips : sounds.setup.clips ≡ clips_of entries
  pub sizes : sounds.setup.channels ≡ map (λ frame. frame.size) frames
  pub samples : (channel pair side : ℕ) → IsConfigured (length frames) channel
      → pair < (frame_at channel frames).size.pairs → side < 2
      → sounds.samples channel pair side ≡ sample_in (frame_at channel frames) pair side

-- the sounds that these frames and a media table give to the next tick
abbrev pub sounds_of : List FrameView → List Entry → Sounds
sounds_of frames entries = record {
  setup = record { channels = map (λ frame. frame.size) frames; clips = clips_of entries };
  samples = λ channel pair side. sample_in (frame_at channel frames) pair side;
}

-- the sample of a sound that these layers make, at a pair and a side
abbrev pub mixed_sample : Sounds → List Drawn → ℕ → ℕ → ℤ
mixed_sample sounds layers pair side = scene_sample sounds.setup sounds.samples layers pair side

-- the bytes of the samples of a pair, left then right
abbrev pub pair_bytes : (ℕ → ℕ → ℤ) → ℕ → List ℕ
pair_bytes sample pair = flat_map sample_bytes (sample pair 0 ∷ sample pair 1 ∷ [])

-- the bytes of a sound of `pairs` pairs, by its sample at each pair and side
abbrev pub bytes_of_samples : ℕ → (ℕ → ℕ → ℤ) → List ℕ
bytes_of_samples pairs sample = flat_map (pair_bytes sample) (numbers_below pairs)

-- the sounds that a still can give at the tick after a history
abbrev pub sounds_after : Setup → List Event → Sounds
sounds_after setup history = record { setup = setup; samples = last_sample setup history }

-- a frame whose sound has these samples
pub record HasSound (frame : FrameView) (sample : ℕ → ℕ → ℤ) : Type 0 where
  pub whole : IsFrame frame
  pub sound : frame.sound ≡ bytes_of_samples frame.size.pairs sample
