-- Timelines without waiting settings, and timelines in which the waiting settings of a channel take effect together.
use Rattle.std.specs.Prelude.{ℕ, ◌==◌, Bool, false, not, ◌&&◌, List, [], ◌∷◌, ◌++◌, map, if◌then◌else◌}
use Rattle.play_types.specs.Setting.{SettingView}
use Rattle.play_types.specs.Shape.{shape_of}
use Rattle.play_types.specs.declared.command.Cmd.{Cmd}
use Rattle.play_types.specs.declared.command.Cmd.TheVariants.{Set}
use Rattle.play_types.specs.declared.shape.CommandShape.TheVariants as shape
use Rattle.history_model.specs.stage.Resolved.{waiting_settings}
use Rattle.history_model.specs.stage.Timeline.{Entry, Did, Ticked, timeline_acts}

-- whether a command is a deferred setting of a channel that passes the test
abbrev pub is_deferred_of : (ℕ → Bool) → Cmd → Bool
is_deferred_of which cmd = elim (shape_of cmd) [
  | shape.Take at take ↦ false
  | shape.Change at ↦ false
  | shape.ClearChannel channel ↦ false
  | shape.SwapLayers a b transforms ↦ false
  | shape.SwapChannels a b transforms ↦ false
  | shape.Set setting ↦ setting.deferred && which setting.place.channel
  | shape.CommitMixer channel ↦ false
  | shape.Reset target ↦ false
  | shape.Record mark ↦ false
  | shape.Ask query ↦ false
]

-- the test that a channel passes if it passes the given one and the command does not commit it
abbrev pub and_not_committed : (ℕ → Bool) → Cmd → ℕ → Bool
and_not_committed which cmd = elim (shape_of cmd) [
  | shape.Take at take ↦ which
  | shape.Change at ↦ which
  | shape.ClearChannel channel ↦ which
  | shape.SwapLayers a b transforms ↦ which
  | shape.SwapChannels a b transforms ↦ which
  | shape.Set setting ↦ which
  | shape.CommitMixer committed ↦ λ channel. which channel && not (committed == channel)
  | shape.Reset target ↦ which
  | shape.Record mark ↦ which
  | shape.Ask query ↦ which
]

-- a timeline without the waiting settings of the channels that pass the test: the deferred ones that no commit of their
-- channel follows
abbrev pub without_waiting : (ℕ → Bool) → List Entry → List Entry
without_waiting which [] = []
without_waiting which (Did cmd ∷ before) =
    let earlier = without_waiting (and_not_committed which cmd) before in
    if is_deferred_of which cmd then earlier else Did cmd ∷ earlier
without_waiting which (Ticked ∷ before) = Ticked ∷ without_waiting which before

-- the entry of a setting that takes effect at once, whether it was deferred or not
abbrev pub at_once : SettingView → Entry
at_once setting = Did (Set (record setting { deferred = false }))

-- a timeline with the waiting settings of a channel moved to its end, in their order and not deferred
abbrev pub with_group : ℕ → List Entry → List Entry
with_group channel before =
    map at_once (waiting_settings (timeline_acts before) channel) ++ without_waiting (λ other. channel == other) before
