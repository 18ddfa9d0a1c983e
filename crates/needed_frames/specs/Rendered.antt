-- What the frames of a renderer represent of a history, if they are made from a tick on.
use Rattle.std.specs.Prelude.{ℕ, List}
use Rattle.play_types.specs.declared.event.Event.{Event}
use Rattle.clip_format.specs.Table.{Entry}
use Rattle.history_model.specs.pictures.Media.{Setup}
use Rattle.history_model.specs.pictures.Raster.{Pictures}
use Rattle.play_scene.specs.Frames.{ArePictures, FrameView}
use Rattle.play_sound.specs.Sounds.{AreSounds, Sounds}
use Rattle.needed_frames.specs.Made.{last_pixel_from, last_sample_from}

-- the pictures and the sounds that a still can show and give at the tick after a history, if frames are made from a tick on
abbrev pub pictures_from : Setup → ℕ → List Event → Pictures
pictures_from setup from history = record { setup = setup; frames = last_pixel_from setup from history }

abbrev pub sounds_made_from : Setup → ℕ → List Event → Sounds
sounds_made_from setup from history = record { setup = setup; samples = last_sample_from setup from history }

-- the frames have the pixels and the samples that each channel has at the last tick of a history, if frames are made only after the first
-- `from` ticks, and the setup has their sizes and the clips of the media table
pub record RepresentsFrom (setup : Setup) (from : ℕ) (history : List Event) (entries : List Entry) (frames : List FrameView) : Type 0 where
  pub pictures : ArePictures (pictures_from setup from history) frames entries
  pub sounds : AreSounds (sounds_made_from setup from history) frames entries
