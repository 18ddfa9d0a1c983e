-- What commands act on, in a few cases. A new command gets its equation here; definitions that treat many commands alike
-- match on these cases.
use Rattle.std.specs.Prelude.{ℕ}
use Rattle.play_types.specs.declared.command.Cmd.{Cmd}
use Rattle.play_types.specs.declared.command.Cmd.TheVariants as cmd
use Rattle.play_types.specs.declared.shape.CommandShape.{CommandShape}
use Rattle.play_types.specs.declared.shape.CommandShape.TheVariants.{Take, Change, ClearChannel, SwapLayers, SwapChannels, Set, CommitMixer, Reset, Record, Ask}
use Rattle.play_types.specs.declared.shape.Target.{Target}
use Rattle.play_types.specs.declared.shape.Target.TheVariants as target
use Rattle.play_types.specs.declared.shape.Recording.{Recording}
use Rattle.play_types.specs.declared.shape.Recording.TheVariants as recording
use Rattle.play_types.specs.declared.shape.Query.TheVariants as query

-- what a command does, and on what
abbrev pub shape_of : Cmd → CommandShape
shape_of (cmd.Load place take) = Take place take
shape_of (cmd.LoadBg place take) = Take place take
shape_of (cmd.Play place) = Change place
shape_of (cmd.PlayTake place take) = Take place take
shape_of (cmd.Pause place) = Change place
shape_of (cmd.Resume place) = Change place
shape_of (cmd.StopLayer place) = Change place
shape_of (cmd.ClearLayer place) = Change place
shape_of (cmd.ClearChannel channel) = ClearChannel channel
shape_of (cmd.SwapLayers one other transforms) = SwapLayers one other transforms
shape_of (cmd.SwapChannels one other transforms) = SwapChannels one other transforms
shape_of (cmd.Set setting) = Set setting
shape_of (cmd.CommitMixer channel) = CommitMixer channel
shape_of (cmd.ResetLayer place) = Reset (target.Layer place)
shape_of (cmd.ResetChannel channel) = Reset (target.Channel channel)
shape_of (cmd.AddFile channel name) = Record (recording.Begin channel name)
shape_of (cmd.RemoveFile channel) = Record (recording.End channel)
shape_of (cmd.Value place prop) = Ask (query.Value place prop)
shape_of cmd.Info = Ask query.Status

-- the channel of a place, or the channel itself
abbrev pub target_channel : Target → ℕ
target_channel (target.Layer place) = place.channel
target_channel (target.Channel channel) = channel

-- the channel of a mark
abbrev pub recording_channel : Recording → ℕ
recording_channel (recording.Begin channel name) = channel
recording_channel (recording.End channel) = channel
