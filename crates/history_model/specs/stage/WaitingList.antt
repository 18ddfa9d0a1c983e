-- Deferred settings by a list of those that wait: a deferred setting is added to the list of its channel, and a commit empties
-- it. Laws prove that this agrees with the definitions of `specs/stage/Resolved`. Lists of acts have the last act first.
use Rattle.std.specs.Prelude.{ℕ, ◌==◌, ◌&&◌, List, [], ◌∷◌, ◌++◌, ℤ, map, if◌then◌else◌}
use Rattle.play_types.specs.Place.{PlaceView}
use Rattle.play_types.specs.Setting.{SettingView}
use Rattle.play_types.specs.Shape.{shape_of}
use Rattle.play_types.specs.declared.setting.Prop.{Prop}
use Rattle.play_types.specs.declared.command.Cmd.{Cmd}
use Rattle.play_types.specs.declared.shape.CommandShape.TheVariants as shape
use Rattle.history_model.specs.stage.Act.{Act, act_after}
use Rattle.history_model.specs.stage.Resolved.{settled_act}
use Rattle.history_model.specs.stage.Trail.{tuning}
use Rattle.history_model.specs.stage.Value.{tuned_value}

-- the settings of a channel that wait after a command, by those that waited before it
abbrev pub waiting_after : Cmd → ℕ → List SettingView → List SettingView
waiting_after cmd channel earlier = elim (shape_of cmd) [
  | shape.Take place take ↦ earlier
  | shape.Change place ↦ earlier
  | shape.ClearChannel cleared ↦ earlier
  | shape.SwapLayers a b transforms ↦ earlier
  | shape.SwapChannels a b transforms ↦ earlier
  | shape.Set setting ↦ if setting.deferred && (setting.place.channel == channel) then setting ∷ earlier else earlier
  | shape.CommitMixer committed ↦ if committed == channel then [] else earlier
  | shape.Reset target ↦ earlier
  | shape.Record mark ↦ earlier
  | shape.Ask query ↦ earlier
]

-- the waiting settings of a channel after the acts, the last one first
abbrev pub waiting_list : List Act → ℕ → List SettingView
waiting_list [] channel = []
waiting_list (act ∷ before) channel = waiting_after act.cmd channel (waiting_list before channel)

-- the acts that replace a command after `ticks` ticks: none for a deferred setting, for a commit the settings that waited for
-- it, and for another command itself
abbrev pub resolved_act : Cmd → ℕ → List Act → List Act
resolved_act cmd ticks before = elim (shape_of cmd) [
  | shape.Take place take ↦ act_after ticks cmd ∷ []
  | shape.Change place ↦ act_after ticks cmd ∷ []
  | shape.ClearChannel channel ↦ act_after ticks cmd ∷ []
  | shape.SwapLayers a b transforms ↦ act_after ticks cmd ∷ []
  | shape.SwapChannels a b transforms ↦ act_after ticks cmd ∷ []
  | shape.Set setting ↦ if setting.deferred then [] else settled_act ticks setting ∷ []
  | shape.CommitMixer channel ↦ map (settled_act ticks) (waiting_list before channel)
  | shape.Reset target ↦ act_after ticks cmd ∷ []
  | shape.Record mark ↦ act_after ticks cmd ∷ []
  | shape.Ask query ↦ act_after ticks cmd ∷ []
]

-- the acts with each commit replaced by the settings that waited for it, and without the deferred settings
abbrev pub listed_acts : List Act → List Act
listed_acts [] = []
listed_acts (act ∷ before) = resolved_act act.cmd act.ticks before ++ listed_acts before

-- the value of a property of a place after the acts and `ticks` ticks, in millionths
abbrev pub listed_value_at : List Act → PlaceView → Prop → ℕ → List ℤ
listed_value_at acts place prop ticks = tuned_value (tuning (listed_acts acts) place) prop ticks
