-- How the frames of a renderer represent a history.
use Rattle.std.specs.Prelude.{◌≡◌, ℕ, List, map}
use Rattle.std.specs.List.{range_with_len}
use Rattle.play_types.specs.declared.drawn.Drawn.{Drawn}
use Rattle.play_types.specs.declared.event.Event.{Event}
use Rattle.clip_format.specs.Table.{Entry}
use Rattle.history_model.specs.pictures.Frame.{pictures_after}
use Rattle.history_model.specs.pictures.Media.{Setup, size}
use Rattle.history_model.specs.pictures.Scene.{scene}
use Rattle.history_model.specs.scripts.Output.{picture_bytes, sound_bytes}
use Rattle.play_scene.specs.Frames.{ArePictures, FrameView}
use Rattle.play_sound.specs.Sounds.{AreSounds, sounds_after}

-- the scenes of the first `channels` channels at the tick after a history
abbrev pub scenes_after : List Event → ℕ → List (List Drawn)
scenes_after history channels = map (scene history) (range_with_len 1 channels)

-- the frames have the pixels and the samples of each channel at the last tick of a history, transparent and silent if it has no
-- tick, and the setup has their sizes and the clips of the media table
pub record Represents (setup : Setup) (history : List Event) (entries : List Entry) (frames : List FrameView) : Type 0 where
  pub pictures : ArePictures (pictures_after setup history) frames entries
  pub sounds : AreSounds (sounds_after setup history) frames entries

-- a frame is that of a channel at the tick after a history
pub record HasFrame (setup : Setup) (history : List Event) (channel : ℕ) (frame : FrameView) : Type 0 where
  pub size : frame.size ≡ size setup channel
  pub picture : frame.bytes ≡ picture_bytes setup history channel
  pub sound : frame.sound ≡ sound_bytes setup history channel
