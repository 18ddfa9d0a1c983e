-- The name of a command, whether it only asks, its recording mark, and the reply for the stage's answer to it.
use Rattle.std.specs.Prelude.{Bool, true, false, Option, Some, None}
use Rattle.play_types.specs.declared.answer.Answer.{Answer}
use Rattle.play_types.specs.declared.answer.Answer.TheVariants as answer
use Rattle.play_types.specs.declared.command.Cmd.{Cmd}
use Rattle.play_types.specs.declared.command.Cmd.TheVariants as cmd
use Rattle.play_types.specs.declared.shape.CommandShape.TheVariants as shape
use Rattle.play_types.specs.declared.shape.Recording.{Recording}
use Rattle.play_types.specs.Shape.{shape_of}
use Rattle.play_types.specs.declared.reply.Name.{Name}
use Rattle.play_types.specs.declared.reply.Name.TheVariants as name
use Rattle.play_types.specs.declared.reply.Reply.{Reply}
use Rattle.play_types.specs.declared.reply.Reply.TheVariants as reply

-- the name that a command begins with
abbrev pub command_name : Cmd → Name
command_name (cmd.Load place take) = name.Load
command_name (cmd.LoadBg place take) = name.LoadBg
command_name (cmd.Play place) = name.Play
command_name (cmd.PlayTake place take) = name.Play
command_name (cmd.Pause place) = name.Pause
command_name (cmd.Resume place) = name.Resume
command_name (cmd.StopLayer place) = name.Stop
command_name (cmd.ClearLayer place) = name.Clear
command_name (cmd.ClearChannel channel) = name.Clear
command_name (cmd.SwapLayers one other transforms) = name.Swap
command_name (cmd.SwapChannels one other transforms) = name.Swap
command_name (cmd.Set setting) = name.Mixer
command_name (cmd.CommitMixer channel) = name.Mixer
command_name (cmd.ResetLayer place) = name.Mixer
command_name (cmd.ResetChannel channel) = name.Mixer
command_name (cmd.AddFile channel recorded) = name.Add
command_name (cmd.RemoveFile channel) = name.Remove
command_name (cmd.Value place prop) = name.Mixer
command_name cmd.Info = name.Info

-- whether a command only asks
abbrev pub is_query : Cmd → Bool
is_query cmd = elim (shape_of cmd) [
  | shape.Take place take ↦ false
  | shape.Change place ↦ false
  | shape.ClearChannel channel ↦ false
  | shape.SwapLayers one other transforms ↦ false
  | shape.SwapChannels one other transforms ↦ false
  | shape.Set setting ↦ false
  | shape.CommitMixer channel ↦ false
  | shape.Reset target ↦ false
  | shape.Record mark ↦ false
  | shape.Ask query ↦ true
]

-- the recording mark, if a command is ADD or REMOVE
abbrev pub mark_of : Cmd → Option Recording
mark_of cmd = elim (shape_of cmd) [
  | shape.Take at take ↦ None
  | shape.Change at ↦ None
  | shape.ClearChannel channel ↦ None
  | shape.SwapLayers a b transforms ↦ None
  | shape.SwapChannels a b transforms ↦ None
  | shape.Set setting ↦ None
  | shape.CommitMixer channel ↦ None
  | shape.Reset target ↦ None
  | shape.Record mark ↦ Some mark
  | shape.Ask query ↦ None
]

-- the reply for the stage's answer to a command of this name
abbrev pub answer_reply : Name → Answer → Reply
answer_reply command answer.Done = reply.Done command
answer_reply command (answer.Value micros) = reply.Value micros
answer_reply command (answer.Info statuses) = reply.Info statuses
answer_reply command answer.Refused = reply.Refused 403 command
