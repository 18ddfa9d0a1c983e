-- Acts: what the accepted commands of a history do. Lists of acts have the last act first.
use Rattle.std.specs.Prelude.{ℕ, List, [], ◌∷◌}
use Rattle.play_types.specs.Take.{played}
use Rattle.play_types.specs.declared.command.Cmd.{Cmd}
use Rattle.play_types.specs.declared.command.Cmd.TheVariants.{Load, LoadBg, Play, PlayTake, Pause, Resume, StopLayer, ClearLayer, ClearChannel, SwapLayers, SwapChannels, Set, CommitMixer, ResetLayer, ResetChannel, AddFile, RemoveFile, Value, Info}

-- a command, and the number of ticks before it
pub record Act : Type 0 where
  pub cmd : Cmd
  pub ticks : ℕ

-- a command after `ticks` ticks
abbrev pub act_after : ℕ → Cmd → Act
act_after ticks cmd = record { cmd = cmd; ticks = ticks }

-- the acts of a command after `ticks` ticks: a play of a take gives a background and a play, and queries and marks of recordings give none
abbrev pub acts_of : ℕ → Cmd → List Act
acts_of ticks (Load place take) = act_after ticks (Load place take) ∷ []
acts_of ticks (LoadBg place take) = act_after ticks (LoadBg place take) ∷ []
acts_of ticks (Play place) = act_after ticks (Play place) ∷ []
acts_of ticks (PlayTake place take) = act_after ticks (Play place) ∷ act_after ticks (LoadBg place (played take)) ∷ []
acts_of ticks (Pause place) = act_after ticks (Pause place) ∷ []
acts_of ticks (Resume place) = act_after ticks (Resume place) ∷ []
acts_of ticks (StopLayer place) = act_after ticks (StopLayer place) ∷ []
acts_of ticks (ClearLayer place) = act_after ticks (ClearLayer place) ∷ []
acts_of ticks (ClearChannel channel) = act_after ticks (ClearChannel channel) ∷ []
acts_of ticks (SwapLayers a b transforms) = act_after ticks (SwapLayers a b transforms) ∷ []
acts_of ticks (SwapChannels a b transforms) = act_after ticks (SwapChannels a b transforms) ∷ []
acts_of ticks (Set setting) = act_after ticks (Set setting) ∷ []
acts_of ticks (CommitMixer channel) = act_after ticks (CommitMixer channel) ∷ []
acts_of ticks (ResetLayer place) = act_after ticks (ResetLayer place) ∷ []
acts_of ticks (ResetChannel channel) = act_after ticks (ResetChannel channel) ∷ []
acts_of ticks (AddFile channel name) = []
acts_of ticks (RemoveFile channel) = []
acts_of ticks (Value place prop) = []
acts_of ticks Info = []
