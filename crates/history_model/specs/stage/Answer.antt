-- What the server answers to an event.
use Rattle.std.specs.Prelude.{ℕ, Bool, true, false, not, List, [], ◌∷◌, length, map, ℤ, Option, filter_map, flat_map, if◌then◌else◌}
use Rattle.std.specs.List.{list_any, range_with_len}
use Rattle.play_types.specs.Answer.{micros_of, status_list_of}
use Rattle.play_types.specs.History.{ticks}
use Rattle.play_types.specs.declared.setting.Prop.{Prop}
use Rattle.play_types.specs.declared.setting.Prop.TheVariants.{Opacity, Fill, Clip, Volume, Keyer}
use Rattle.play_types.specs.Shape.{shape_of}
use Rattle.play_types.specs.declared.command.Cmd.{Cmd}
use Rattle.play_types.specs.declared.shape.CommandShape.TheVariants as shape
use Rattle.play_types.specs.declared.shape.Query.TheVariants as query
use Rattle.play_types.specs.declared.event.Event.{Event}
use Rattle.play_types.specs.declared.event.Event.TheVariants.{Do, Batch, Tick, Stop}
use Rattle.play_types.specs.declared.answer.Status.{Status}
use Rattle.play_types.specs.declared.answer.Status.TheVariants.{Empty, Paused, Playing}
use Rattle.play_types.specs.declared.answer.Answer.{Answer}
use Rattle.play_types.specs.declared.answer.Answer.TheVariants.{Done, Value, Info, Refused}
use Rattle.pixel_math.specs.Pixel.{PixelView}
use Rattle.history_model.specs.stage.Act.{Act}
use Rattle.history_model.specs.stage.Life.{Foreground}
use Rattle.history_model.specs.stage.Live.{state, layers}
use Rattle.history_model.specs.stage.Acts.{acts, is_refused}
use Rattle.history_model.specs.stage.Value.{value}
use Rattle.history_model.specs.pictures.Media.{Setup, size}
use Rattle.history_model.specs.pictures.Frame.{frame_pixel}
use Rattle.history_model.specs.pictures.Sound.{frame_sample}

-- a channel at a tick: its pixels row by row from the top left, and its samples pair by pair, left then right
pub record ChannelFrame : Type 0 where
  pub pixels : List PixelView
  pub samples : List ℤ

-- the answer to an event: to a tick every channel's frame, channel 1 first, to a command or a batch the stage's answer, to a
-- stop its position
pub data StageAnswer : Type 0 where
  Frames : List ChannelFrame → StageAnswer
  Answered : Answer → StageAnswer
  Stopped : ℕ → StageAnswer

-- the numbers below n, rising
abbrev pub numbers_below : ℕ → List ℕ
numbers_below n = range_with_len 0 n

-- the pixels of a row of a channel at the tick after a history, from the left
abbrev pub row_pixels : Setup → List Event → ℕ → ℕ → List PixelView
row_pixels setup history channel y =
    map (λ x. frame_pixel setup history channel x y) (numbers_below (size setup channel).width)

-- the two samples of a pair
abbrev pub pair_samples : Setup → List Event → ℕ → ℕ → List ℤ
pair_samples setup history channel pair =
    frame_sample setup history channel pair 0 ∷ frame_sample setup history channel pair 1 ∷ []

-- what a channel shows at the tick after a history
abbrev pub channel_frame : Setup → List Event → ℕ → ChannelFrame
channel_frame setup history channel = record {
  pixels = flat_map (row_pixels setup history channel) (numbers_below (size setup channel).height);
  samples = flat_map (pair_samples setup history channel) (numbers_below (size setup channel).pairs);
}

-- the numbers of the configured channels
abbrev pub channel_numbers : Setup → List ℕ
channel_numbers setup = range_with_len 1 (length setup.channels)

-- how many numbers the value of a property has
abbrev pub number_count : Prop → ℕ
number_count Opacity = 1
number_count Fill = 4
number_count Clip = 4
number_count Volume = 1
number_count Keyer = 1

-- the foreground of a layer of a channel after the acts and `ticks` ticks
abbrev pub standing_foreground : List Act → ℕ → ℕ → ℕ → Option Foreground
standing_foreground acts ticks channel layer = (state acts ticks (record { channel = channel; layer = layer })).foreground

-- the foregrounds of a channel after the acts and `ticks` ticks, in rising layer
abbrev pub channel_foregrounds : List Act → ℕ → ℕ → List Foreground
channel_foregrounds acts ticks channel = filter_map (standing_foreground acts ticks channel) (layers acts)

-- the status of a channel by its foregrounds: playing if one is not paused, else paused if there is one, else empty
abbrev pub status_of : List Foreground → Status
status_of [] = Empty
status_of (foreground ∷ more) =
    if list_any (λ (one : Foreground). not one.paused) (foreground ∷ more) then Playing else Paused

-- the status of each channel after a history
abbrev pub statuses : Setup → List Event → List Status
statuses setup history =
    map (λ channel. status_of (channel_foregrounds (acts history) (ticks history) channel)) (channel_numbers setup)

-- the answer to a command or a batch, by whether it is refused
abbrev pub outcome_of : Bool → Answer
outcome_of true = Refused
outcome_of false = Done

-- the answer to a command after a history, by whether it is refused
abbrev pub command_answer : Setup → List Event → Bool → Cmd → Answer
command_answer setup history refused cmd = elim (shape_of cmd) [
  | shape.Take at take ↦ outcome_of refused
  | shape.Change at ↦ outcome_of refused
  | shape.ClearChannel channel ↦ outcome_of refused
  | shape.SwapLayers a b transforms ↦ outcome_of refused
  | shape.SwapChannels a b transforms ↦ outcome_of refused
  | shape.Set setting ↦ outcome_of refused
  | shape.CommitMixer channel ↦ outcome_of refused
  | shape.Reset target ↦ outcome_of refused
  | shape.Record mark ↦ outcome_of refused
  | shape.Ask (query.Value place prop) ↦ Value (micros_of (value history place prop (ticks history)) (number_count prop))
  | shape.Ask query.Status ↦ Info (status_list_of (statuses setup history) (length setup.channels))
]

-- the answer to an event after a history
unfoldable pub answer : Setup → List Event → Event → StageAnswer
answer setup history (Do tag cmd) = Answered (command_answer setup history (is_refused history (Do tag cmd)) cmd)
answer setup history (Batch tag cmds) = Answered (outcome_of (is_refused history (Batch tag cmds)))
answer setup history Tick = Frames (map (channel_frame setup history) (channel_numbers setup))
answer setup history (Stop tag) = Stopped (length history)
