-- The channels that a command names.
use Rattle.std.specs.Prelude.{ℕ, List, length, All}
use Rattle.play_types.specs.Config.{ConfigView}
use Rattle.play_types.specs.Scene.{IsConfigured}
use Rattle.play_types.specs.declared.take.Spec.{Spec}
use Rattle.play_types.specs.declared.take.Spec.TheVariants.{Clip, Colour, RouteChannel, RouteLayer}
use Rattle.play_types.specs.Shape.{recording_channel, shape_of, target_channel}
use Rattle.play_types.specs.declared.command.Cmd.{Cmd}
use Rattle.play_types.specs.declared.shape.CommandShape.TheVariants as shape
use Rattle.play_types.specs.declared.shape.Query.TheVariants as query

-- if the producer is a route, its channel is one of the first `channels` channels
abbrev pub IsRouted : ℕ → Spec → Type 0
IsRouted channels (Clip id) = Unit {0}
IsRouted channels (Colour value) = Unit {0}
IsRouted channels (RouteChannel channel) = IsConfigured channels channel
IsRouted channels (RouteLayer place) = IsConfigured channels place.channel

-- every channel that a command names, by itself, in a place or in a route, is one of the first `channels` channels
abbrev pub IsServed : ℕ → Cmd → Type 0
IsServed channels cmd = elim (shape_of cmd) [
  | shape.Take at take ↦ IsConfigured channels at.channel × IsRouted channels take.spec
  | shape.Change at ↦ IsConfigured channels at.channel
  | shape.ClearChannel channel ↦ IsConfigured channels channel
  | shape.SwapLayers a b transforms ↦ IsConfigured channels a.channel × IsConfigured channels b.channel
  | shape.SwapChannels a b transforms ↦ IsConfigured channels a × IsConfigured channels b
  | shape.Set setting ↦ IsConfigured channels setting.place.channel
  | shape.CommitMixer channel ↦ IsConfigured channels channel
  | shape.Reset target ↦ IsConfigured channels (target_channel target)
  | shape.Record mark ↦ IsConfigured channels (recording_channel mark)
  | shape.Ask (query.Value place prop) ↦ IsConfigured channels place.channel
  | shape.Ask query.Status ↦ Unit {0}
]

-- every channel that a command names is a configured one
abbrev pub IsAimed : ConfigView → Cmd → Type 0
IsAimed config cmd = IsServed (length config.channels) cmd

-- every channel that one of these commands names is a configured one
abbrev pub AreAimed : ConfigView → List Cmd → Type 0
AreAimed config commands = All (IsAimed config) commands
