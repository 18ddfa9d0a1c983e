-- Which past a mixer represents: the acts of a history, the last one first, and the ticks since it began.
use Rattle.std.specs.Prelude.{◌≡◌, ℕ, ◌≤◌, Bool, true, false, not, List, ◌∷◌}
use Rattle.play_types.specs.Place.{PlaceView}
use Rattle.play_types.specs.Scene.{IsConfigured}
use Rattle.play_types.specs.declared.setting.Prop.{Prop}
use Rattle.play_types.specs.declared.command.Cmd.{Cmd}
use Rattle.play_types.specs.declared.command.Cmd.TheVariants.{Load, LoadBg, Play, PlayTake, Pause, Resume, StopLayer, ClearLayer, ClearChannel, SwapLayers, SwapChannels, Set, CommitMixer, ResetLayer, ResetChannel, AddFile, RemoveFile, Value, Info}
use Rattle.history_model.specs.stage.Act.{Act, act_after}
use Rattle.history_model.specs.stage.Resolved.{waiting_settings}
use Rattle.history_model.specs.stage.Value.{value_at}
use Rattle.mixer_state.specs.Mixer.{MixerView, values_of, waiting_on}

-- a mixer represents these acts after `ticks` ticks: no set or commit is later, each value, now and at any later time, is the one
-- that the acts give, and the settings that wait are theirs
pub record Represents (mixer : MixerView) (acts : List Act) (ticks : ℕ) : Type 0 where
  pub latest : mixer.latest ≤ ticks
  pub values : (place : PlaceView) (prop : Prop) (t : ℕ) → IsConfigured mixer.channels place.channel → ticks ≤ t →
      values_of mixer place prop t ≡ value_at acts place prop t
  pub waiting : (channel : ℕ) → IsConfigured mixer.channels channel → waiting_on mixer channel ≡ waiting_settings acts channel

-- a mixer that represented acts when `ticks` ticks had passed represents them afterwards with this command at their end
abbrev pub TakesCommand : Cmd → ℕ → MixerView → MixerView → Type 0
TakesCommand cmd ticks before after =
    (acts : List Act) → Represents before acts ticks → Represents after (act_after ticks cmd ∷ acts) ticks

-- whether a command changes no mixer value and no waiting setting: swaps do if they move the mixer values
abbrev pub leaves_mixer : Cmd → Bool
leaves_mixer (Load place take) = true
leaves_mixer (LoadBg place take) = true
leaves_mixer (Play place) = true
leaves_mixer (PlayTake place take) = true
leaves_mixer (Pause place) = true
leaves_mixer (Resume place) = true
leaves_mixer (StopLayer place) = true
leaves_mixer (ClearLayer place) = true
leaves_mixer (ClearChannel channel) = true
leaves_mixer (SwapLayers a b transforms) = not transforms
leaves_mixer (SwapChannels a b transforms) = not transforms
leaves_mixer (Set setting) = false
leaves_mixer (CommitMixer channel) = false
leaves_mixer (ResetLayer place) = false
leaves_mixer (ResetChannel channel) = false
leaves_mixer (AddFile marked name) = true
leaves_mixer (RemoveFile marked) = true
leaves_mixer (Value place prop) = true
leaves_mixer Info = true
