-- The command of a shape that one command alone has.
use Rattle.std.proofs.Common.{◌≡◌, refl, subst}
use Rattle.play_types.specs.Shape.{shape_of}
use Rattle.play_types.specs.declared.command.Cmd.{Cmd}
use Rattle.play_types.specs.declared.command.Cmd.TheVariants.{Load, LoadBg, Play, PlayTake, Pause, Resume, StopLayer, ClearLayer, ClearChannel, SwapLayers, SwapChannels, Set, CommitMixer, ResetLayer, ResetChannel, AddFile, RemoveFile, Value, Info}
use Rattle.play_types.specs.declared.shape.CommandShape.{CommandShape}
use Rattle.play_types.specs.declared.shape.CommandShape.TheVariants as shape
use Rattle.play_types.specs.declared.shape.Target.TheVariants as target
use Rattle.play_types.specs.declared.shape.Recording.TheVariants as recording
use Rattle.play_types.specs.declared.shape.Query.TheVariants as query

-- the command is the one of this shape, if there is one alone
abbrev pub IsOfShape : CommandShape → Cmd → Type 0
IsOfShape (shape.Take at take) cmd = Unit {0}
IsOfShape (shape.Change at) cmd = Unit {0}
IsOfShape (shape.ClearChannel channel) cmd = cmd ≡ ClearChannel channel
IsOfShape (shape.SwapLayers a b transforms) cmd = cmd ≡ SwapLayers a b transforms
IsOfShape (shape.SwapChannels a b transforms) cmd = cmd ≡ SwapChannels a b transforms
IsOfShape (shape.Set setting) cmd = cmd ≡ Set setting
IsOfShape (shape.CommitMixer channel) cmd = cmd ≡ CommitMixer channel
IsOfShape (shape.Reset (target.Layer at)) cmd = cmd ≡ ResetLayer at
IsOfShape (shape.Reset (target.Channel channel)) cmd = cmd ≡ ResetChannel channel
IsOfShape (shape.Record (recording.Begin channel name)) cmd = cmd ≡ AddFile channel name
IsOfShape (shape.Record (recording.End channel)) cmd = cmd ≡ RemoveFile channel
IsOfShape (shape.Ask (query.Value at prop)) cmd = cmd ≡ Value at prop
IsOfShape (shape.Ask query.Status) cmd = cmd ≡ Info

own_shape : (cmd : Cmd) → IsOfShape (shape_of cmd) cmd
own_shape (Load at take) = tt
own_shape (LoadBg at take) = tt
own_shape (Play at) = tt
own_shape (PlayTake at take) = tt
own_shape (Pause at) = tt
own_shape (Resume at) = tt
own_shape (StopLayer at) = tt
own_shape (ClearLayer at) = tt
own_shape (ClearChannel channel) = refl
own_shape (SwapLayers a b transforms) = refl
own_shape (SwapChannels a b transforms) = refl
own_shape (Set setting) = refl
own_shape (CommitMixer channel) = refl
own_shape (ResetLayer at) = refl
own_shape (ResetChannel channel) = refl
own_shape (AddFile marked name) = refl
own_shape (RemoveFile marked) = refl
own_shape (Value at prop) = refl
own_shape Info = refl

pub of_shape : (cmd : Cmd) (s : CommandShape) → shape_of cmd ≡ s → IsOfShape s cmd
of_shape cmd s e = subst (λ (found : CommandShape). IsOfShape found cmd) e (own_shape cmd)
