-- Deferred settings: which of them wait, and when the others take effect. Both depend on the acts that follow a setting.
use Rattle.std.specs.Prelude.{ℕ, ◌==◌, Bool, true, false, not, List, [], ◌∷◌, reverse, filter, filter_map, Option, Some, None, if◌then◌else◌}
use Rattle.play_types.specs.Setting.{SettingView}
use Rattle.play_types.specs.Shape.{shape_of}
use Rattle.play_types.specs.declared.command.Cmd.{Cmd}
use Rattle.play_types.specs.declared.command.Cmd.TheVariants.{Set}
use Rattle.play_types.specs.declared.shape.CommandShape.TheVariants as shape
use Rattle.history_model.specs.stage.Act.{Act, act_after}

-- what a command is to deferred settings: one of them, a commit of a channel, or neither
pub data Deferral : Type 0 where
  Defers : SettingView → Deferral
  Commits : ℕ → Deferral
  Neither : Deferral

-- what this command is to deferred settings
abbrev pub deferral : Cmd → Deferral
deferral cmd = elim (shape_of cmd) [
  | shape.Take place take ↦ Neither
  | shape.Change place ↦ Neither
  | shape.ClearChannel channel ↦ Neither
  | shape.SwapLayers a b transforms ↦ Neither
  | shape.SwapChannels a b transforms ↦ Neither
  | shape.Set setting ↦ if setting.deferred then Defers setting else Neither
  | shape.CommitMixer channel ↦ Commits channel
  | shape.Reset target ↦ Neither
  | shape.Record mark ↦ Neither
  | shape.Ask query ↦ Neither
]

-- whether this is a commit, and whether it is one of a channel
abbrev pub is_commit : Deferral → Bool
is_commit (Defers setting) = false
is_commit (Commits channel) = true
is_commit Neither = false

abbrev pub is_commit_of : ℕ → Deferral → Bool
is_commit_of channel (Defers setting) = false
is_commit_of channel (Commits committed) = committed == channel
is_commit_of channel Neither = false

-- the setting, if this is a deferred one of the channel
abbrev pub deferred_on : ℕ → Deferral → Option SettingView
deferred_on channel (Defers setting) = if setting.place.channel == channel then Some setting else None
deferred_on channel (Commits committed) = None
deferred_on channel Neither = None

-- the acts that no commit of the channel follows. Both lists have the last act first
abbrev pub uncommitted : ℕ → List Act → List Act
uncommitted channel [] = []
uncommitted channel (act ∷ before) =
    let others = uncommitted channel before in if is_commit_of channel (deferral act.cmd) then [] else act ∷ others

-- the settings of a channel that wait after the acts: the deferred ones that no commit of the channel follows. Both lists have
-- the last one first
abbrev pub waiting_settings : List Act → ℕ → List SettingView
waiting_settings acts channel =
    filter_map (λ (act : Act). deferred_on channel (deferral act.cmd)) (uncommitted channel acts)

-- the act of a setting that takes effect after `ticks` ticks
abbrev pub settled_act : ℕ → SettingView → Act
settled_act ticks setting = act_after ticks (Set (record setting { deferred = false }))

-- the acts that follow a deferred setting, in their order, with the setting put behind the first commit of its channel, at the
-- ticks of that commit: it is left out if there is no such commit
abbrev pub with_settled : SettingView → List Act → List Act
with_settled setting [] = []
with_settled setting (act ∷ later) =
    let others = with_settled setting later in
    if is_commit_of setting.place.channel (deferral act.cmd) then act ∷ settled_act act.ticks setting ∷ later else act ∷ others

-- an act and those that follow it, with a deferred setting moved among the latter
abbrev pub resolved_with : Deferral → Act → List Act → List Act
resolved_with (Defers setting) act later = with_settled setting later
resolved_with (Commits channel) act later = act ∷ later
resolved_with Neither act later = act ∷ later

-- acts in their order, with each deferred setting moved behind the first commit of its channel that follows it. Of two behind
-- one commit the earlier comes first, since it is put there after the other
abbrev pub resolved_in_order : List Act → List Act
resolved_in_order [] = []
resolved_in_order (act ∷ later) = resolved_with (deferral act.cmd) act (resolved_in_order later)

-- whether an act is no commit
abbrev pub is_no_commit : Act → Bool
is_no_commit act = not (is_commit (deferral act.cmd))

-- the acts with each deferred setting in the place of the first commit of its channel that follows it, and without those that
-- wait. Both lists have the last act first
abbrev pub resolved_acts : List Act → List Act
resolved_acts acts = filter is_no_commit (reverse (resolved_in_order (reverse acts)))
