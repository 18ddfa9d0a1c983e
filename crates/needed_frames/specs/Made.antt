-- Frames that are made from a tick on, with blank ones before it.
use Rattle.std.specs.Prelude.{ℕ, nat_lt, if◌then◌else◌, ℤ, pos, List, [], ◌∷◌, reverse}
use Rattle.play_types.specs.History.{ticks}
use Rattle.play_types.specs.declared.event.Event.{Event}
use Rattle.play_types.specs.declared.event.Event.TheVariants.{Do, Batch, Tick, Stop}
use Rattle.pixel_math.specs.Pixel.{PixelView, transparent}
use Rattle.history_model.specs.pictures.Frame.{scene_pixel}
use Rattle.history_model.specs.pictures.Media.{Setup, size}
use Rattle.history_model.specs.pictures.Raster.{Pictures}
use Rattle.history_model.specs.pictures.Scene.{scene_back}
use Rattle.history_model.specs.pictures.Sound.{scene_sample}

-- pixel (x, y) of each channel at the last tick of a history read backward, if frames are made only after the first `from` ticks: the
-- frames of those are transparent
abbrev pub frames_from : Setup → ℕ → List Event → ℕ → ℕ → ℕ → PixelView
frames_from setup from [] = λ channel x y. transparent
frames_from setup from (Do tag cmd ∷ before) = frames_from setup from before
frames_from setup from (Batch tag cmds ∷ before) = frames_from setup from before
frames_from setup from (Stop tag ∷ before) = frames_from setup from before
frames_from setup from (Tick ∷ before) =
    let pictures : Pictures = record { setup = setup; frames = frames_from setup from before } in
    λ channel x y.
    if nat_lt (ticks before) from then transparent
    else scene_pixel pictures (size setup channel) (scene_back before channel) x y

-- the samples of each channel at the last tick of a history read backward, if sounds are made only after the first `from` ticks: the
-- sounds of those are silent
abbrev pub sounds_from : Setup → ℕ → List Event → ℕ → ℕ → ℕ → ℤ
sounds_from setup from [] = λ channel pair side. pos 0
sounds_from setup from (Do tag cmd ∷ before) = sounds_from setup from before
sounds_from setup from (Batch tag cmds ∷ before) = sounds_from setup from before
sounds_from setup from (Stop tag ∷ before) = sounds_from setup from before
sounds_from setup from (Tick ∷ before) =
    λ channel pair side.
    if nat_lt (ticks before) from then pos 0
    else scene_sample setup (sounds_from setup from before) (scene_back before channel) pair side

-- pixel (x, y) of a channel at the last tick of a history, if frames are made from a tick on
unfoldable pub last_pixel_from : Setup → ℕ → List Event → ℕ → ℕ → ℕ → PixelView
last_pixel_from setup from history channel x y = frames_from setup from (reverse history) channel x y

-- pixel (x, y) of a channel at the tick after a history, if frames are made from a tick on
unfoldable pub pixel_from : Setup → ℕ → List Event → ℕ → ℕ → ℕ → PixelView
pixel_from setup from history channel x y = frames_from setup from (Tick ∷ reverse history) channel x y

-- the sample of a channel at the last tick of a history, at a pair, side 0 left and 1 right, if sounds are made from a tick on
unfoldable pub last_sample_from : Setup → ℕ → List Event → ℕ → ℕ → ℕ → ℤ
last_sample_from setup from history channel pair side = sounds_from setup from (reverse history) channel pair side

-- the sample of a channel at the tick after a history, if sounds are made from a tick on
unfoldable pub sample_from : Setup → ℕ → List Event → ℕ → ℕ → ℕ → ℤ
sample_from setup from history channel pair side = sounds_from setup from (Tick ∷ reverse history) channel pair side
