-- What a timeline shows, sounds and reports, defined by the scenes, pixels and samples that a history has.
use Rattle.std.specs.Prelude.{◌≡◌, ℕ, ℤ, pos, List, [], ◌∷◌, map, Option, Some, None}
use Rattle.play_types.specs.Place.{PlaceView}
use Rattle.play_types.specs.History.{ticks}
use Rattle.play_types.specs.declared.answer.Status.{Status}
use Rattle.play_types.specs.declared.event.Event.{Event}
use Rattle.play_types.specs.declared.setting.Prop.{Prop}
use Rattle.play_types.specs.declared.drawn.Drawn.{Drawn}
use Rattle.pixel_math.specs.Pixel.{PixelView, transparent}
use Rattle.history_model.specs.stage.Life.{Foreground}
use Rattle.history_model.specs.stage.Live.{foreground_at}
use Rattle.history_model.specs.stage.Timeline.{Entry, Did, Ticked, timeline_acts, timeline_ticks, timeline_value}
use Rattle.history_model.specs.stage.Answer.{channel_foregrounds, channel_numbers, status_of, statuses}
use Rattle.history_model.specs.stage.Value.{value}
use Rattle.history_model.specs.pictures.Media.{Setup, size}
use Rattle.history_model.specs.pictures.Raster.{Pictures}
use Rattle.history_model.specs.pictures.Scene.{scene_of}
use Rattle.history_model.specs.pictures.Frame.{frame_pixel, scene_pixel}
use Rattle.history_model.specs.pictures.Sound.{frame_sample, scene_sample}

-- the foreground that each place showed at the last tick of a timeline, none if it has no tick
abbrev pub timeline_foregrounds : List Entry → Option (PlaceView → Option Foreground)
timeline_foregrounds [] = None
timeline_foregrounds (Did cmd ∷ before) = timeline_foregrounds before
timeline_foregrounds (Ticked ∷ before) = Some (foreground_at (timeline_acts before) (timeline_ticks before))

-- the drawn layers of a channel at the tick after a timeline, in rising number
abbrev pub timeline_scene : List Entry → ℕ → List Drawn
timeline_scene entries channel =
    scene_of (timeline_acts entries) (timeline_ticks entries) (timeline_foregrounds entries) channel

-- pixel (x, y) of each channel at the last tick of a timeline, transparent if it has no tick
abbrev pub timeline_frames : Setup → List Entry → ℕ → ℕ → ℕ → PixelView
timeline_frames setup [] = λ channel x y. transparent
timeline_frames setup (Did cmd ∷ before) = timeline_frames setup before
timeline_frames setup (Ticked ∷ before) =
    let pictures : Pictures = record { setup = setup; frames = timeline_frames setup before } in
    λ channel x y. scene_pixel pictures (size setup channel) (timeline_scene before channel) x y

-- pixel (x, y) of a channel at the tick after a timeline
unfoldable pub timeline_pixel : Setup → List Entry → ℕ → ℕ → ℕ → PixelView
timeline_pixel setup entries channel x y = timeline_frames setup (Ticked ∷ entries) channel x y

-- the samples of each channel at the last tick of a timeline, silent if it has no tick
abbrev pub timeline_sounds : Setup → List Entry → ℕ → ℕ → ℕ → ℤ
timeline_sounds setup [] = λ channel pair side. pos 0
timeline_sounds setup (Did cmd ∷ before) = timeline_sounds setup before
timeline_sounds setup (Ticked ∷ before) =
    λ channel pair side. scene_sample setup (timeline_sounds setup before) (timeline_scene before channel) pair side

-- the sample of a channel at the tick after a timeline, at a pair, side 0 left and 1 right
unfoldable pub timeline_sample : Setup → List Entry → ℕ → ℕ → ℕ → ℤ
timeline_sample setup entries channel pair side = timeline_sounds setup (Ticked ∷ entries) channel pair side

-- the status of each channel after a timeline
abbrev pub timeline_statuses : Setup → List Entry → List Status
timeline_statuses setup entries =
    map
    (λ channel. status_of (channel_foregrounds (timeline_acts entries) (timeline_ticks entries) channel))
    (channel_numbers setup)

-- a history and a timeline have equal ticks, pixels, samples, values and statuses
pub record IsLikeTimeline (setup : Setup) (history : List Event) (entries : List Entry) : Type 0 where
  pub time : ticks history ≡ timeline_ticks entries
  pub pixels : (channel x y : ℕ) → frame_pixel setup history channel x y ≡ timeline_pixel setup entries channel x y
  pub samples : (channel pair side : ℕ) → frame_sample setup history channel pair side ≡ timeline_sample setup entries channel pair side
  pub values : (place : PlaceView) (prop : Prop) (now : ℕ) → value history place prop now ≡ timeline_value entries place prop now
  pub reported : statuses setup history ≡ timeline_statuses setup entries
