-- The memory that a mixer needs for commands.
use Rattle.std.specs.Prelude.{◌≡◌, ℕ, ◌+◌, false, List, [], ◌∷◌, length, if◌then◌else◌}
use Rattle.play_types.specs.Shape.{shape_of}
use Rattle.play_types.specs.declared.command.Cmd.{Cmd}
use Rattle.play_types.specs.declared.shape.CommandShape.TheVariants as shape
use Rattle.history_model.specs.stage.Act.{Act}
use Rattle.history_model.specs.stage.StageState.{some_is_refused, stage_state, waiting_count_after}
use Rattle.mixer_state.specs.Mixer.{MixerView, waiting_on}
use Rattle.mixer_state.specs.Past.{Represents}
use Rattle.stage_core.specs.LiveState.{count_of}

-- how many settings wait on each channel, by a list of these numbers
abbrev pub counted : List ℕ → ℕ → ℕ
counted waiting = λ channel. count_of channel waiting

-- how many settings wait on each channel of a mixer
abbrev pub waits_on : MixerView → ℕ → ℕ
waits_on mixer = λ channel. length (waiting_on mixer channel)

-- the number of settings for which a mixer needs memory to execute a command: one for a swap of the mixer values of two layers
-- and for a setting that is not deferred, as many as wait on its channel for a commit, and none for another
abbrev pub settings_of : (ℕ → ℕ) → Cmd → ℕ
settings_of waiting cmd = elim (shape_of cmd) [
  | shape.Take at take ↦ 0
  | shape.Change at ↦ 0
  | shape.ClearChannel channel ↦ 0
  | shape.SwapLayers a b transforms ↦ if transforms then 1 else 0
  | shape.SwapChannels a b transforms ↦ 0
  | shape.Set setting ↦ if setting.deferred then 0 else 1
  | shape.CommitMixer channel ↦ waiting channel
  | shape.Reset target ↦ 0
  | shape.Record mark ↦ 0
  | shape.Ask query ↦ 0
]

-- how many settings wait on each channel after a command
abbrev pub waiting_with : Cmd → (ℕ → ℕ) → ℕ → ℕ
waiting_with cmd waiting = λ channel. waiting_count_after cmd channel (waiting channel)

-- the number of settings for which a mixer needs memory to execute commands in order
abbrev pub settings_of_all : (ℕ → ℕ) → List Cmd → ℕ
settings_of_all waiting [] = 0
settings_of_all waiting (cmd ∷ cmds) = settings_of waiting cmd + settings_of_all (waiting_with cmd waiting) cmds

-- a mixer represents acts after which none of these commands, executed in order, is refused
pub record CanTake (cmds : List Cmd) (ticks : ℕ) (mixer : MixerView) : Type 0 where
  pub acts : List Act
  pub past : Represents mixer acts ticks
  pub taken : some_is_refused cmds (stage_state acts ticks) ≡ false
