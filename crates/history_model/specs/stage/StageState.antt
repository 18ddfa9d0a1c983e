-- For proofs: the state of the stage step by step, that is the live places of each channel and how many settings wait on it, what
-- commands and ticks make of it, and which commands are refused by it. Laws prove that it agrees with the acts of a history.
use Rattle.std.specs.Prelude.{ℕ, ◌+◌, ◌≤◌, ◌==◌, Bool, false, ◌&&◌, ◌||◌, List, [], ◌∷◌, ◌++◌, map, nat_le, length, if◌then◌else◌}
use Rattle.play_types.specs.Place.{PlaceView}
use Rattle.play_types.specs.declared.place.TheConstants.{MAX_LIVE_LAYERS}
use Rattle.play_types.specs.declared.setting.TheConstants.{MAX_WAITING_SETTINGS}
use Rattle.play_types.specs.Shape.{shape_of}
use Rattle.play_types.specs.declared.command.Cmd.{Cmd}
use Rattle.play_types.specs.declared.shape.CommandShape.TheVariants as shape
use Rattle.history_model.specs.stage.Act.{Act, acts_of}
use Rattle.history_model.specs.stage.Life.{Life}
use Rattle.history_model.specs.stage.Places.{Places, changed_at, is_over_limit, live_places, one_tick_later, standing, with_place}
use Rattle.history_model.specs.stage.Resolved.{waiting_settings}

-- the live places of each channel, and the number of settings that wait on it
pub record StageState : Type 0 where
  pub places : ℕ → Places
  pub waiting : ℕ → ℕ

-- a stage without live places and without waiting settings
abbrev pub empty_stage : StageState
empty_stage = record { places = λ channel. []; waiting = λ channel. 0 }

-- the stage after the acts, when `ticks` ticks have passed since the history began
abbrev pub stage_state : List Act → ℕ → StageState
stage_state acts ticks = record {
  places = live_places acts ticks;
  waiting = λ channel. length (waiting_settings acts channel);
}

-- what a place holds, by the live places of each channel
abbrev pub standing_at : (ℕ → Places) → PlaceView → Life
standing_at places place = standing (places place.channel) place.layer

-- the places of a channel with this life at a place, and unchanged at the others
abbrev pub placed_at : PlaceView → Life → ℕ → Places → Places
placed_at at life channel before = if at.channel == channel then with_place before at.layer life else before

-- the places of a channel after the places a and b are exchanged
abbrev pub exchanged : PlaceView → PlaceView → (ℕ → Places) → ℕ → Places
exchanged a b before channel =
    placed_at b (standing_at before a) channel (placed_at a (standing_at before b) channel (before channel))

-- the channel that a channel is exchanged with if the channels a and b are: another channel stays
abbrev pub exchanged_channel : ℕ → ℕ → ℕ → ℕ
exchanged_channel a b channel = if channel == a then b else (if channel == b then a else channel)

-- the live places of a channel after a command, by those of each channel before it
abbrev pub live_after : Cmd → (ℕ → Places) → ℕ → Places
live_after cmd before channel = elim (shape_of cmd) [
  | shape.Take at take ↦ changed_at at cmd channel (before channel)
  | shape.Change at ↦ changed_at at cmd channel (before channel)
  | shape.ClearChannel cleared ↦ if cleared == channel then [] else before channel
  | shape.SwapLayers a b transforms ↦ exchanged a b before channel
  | shape.SwapChannels a b transforms ↦ before (exchanged_channel a b channel)
  | shape.Set setting ↦ before channel
  | shape.CommitMixer committed ↦ before channel
  | shape.Reset target ↦ before channel
  | shape.Record mark ↦ before channel
  | shape.Ask query ↦ before channel
]

-- how many settings wait on a channel after a command, by how many waited before it
abbrev pub waiting_count_after : Cmd → ℕ → ℕ → ℕ
waiting_count_after cmd channel before = elim (shape_of cmd) [
  | shape.Take at take ↦ before
  | shape.Change at ↦ before
  | shape.ClearChannel cleared ↦ before
  | shape.SwapLayers a b transforms ↦ before
  | shape.SwapChannels a b transforms ↦ before
  | shape.Set setting ↦ if setting.deferred && (setting.place.channel == channel) then 1 + before else before
  | shape.CommitMixer committed ↦ if committed == channel then 0 else before
  | shape.Reset target ↦ before
  | shape.Record mark ↦ before
  | shape.Ask query ↦ before
]

-- the stage after a command
abbrev pub state_after : Cmd → StageState → StageState
state_after cmd state = record {
  places = live_after cmd state.places;
  waiting = λ channel. waiting_count_after cmd channel (state.waiting channel);
}

-- whether a channel would have more live places after a command than it may have
abbrev pub is_over_after : Cmd → StageState → ℕ → Bool
is_over_after cmd state channel = is_over_limit (live_after cmd state.places channel)

-- whether a command is refused: a channel that it names would have too many live places, or has as many waiting settings
-- as it may have
abbrev pub is_refused_by : Cmd → StageState → Bool
is_refused_by cmd state = elim (shape_of cmd) [
  | shape.Take at take ↦ is_over_after cmd state at.channel
  | shape.Change at ↦ false
  | shape.ClearChannel channel ↦ false
  | shape.SwapLayers a b transforms ↦ is_over_after cmd state a.channel || is_over_after cmd state b.channel
  | shape.SwapChannels a b transforms ↦ false
  | shape.Set setting ↦ setting.deferred && nat_le MAX_WAITING_SETTINGS (state.waiting setting.place.channel)
  | shape.CommitMixer channel ↦ false
  | shape.Reset target ↦ false
  | shape.Record mark ↦ false
  | shape.Ask query ↦ false
]

-- the stage after all commands
abbrev pub state_after_all : List Cmd → StageState → StageState
state_after_all [] state = state
state_after_all (cmd ∷ cmds) state = state_after_all cmds (state_after cmd state)

-- whether one of the commands is refused after the ones before it
abbrev pub some_is_refused : List Cmd → StageState → Bool
some_is_refused [] state = false
some_is_refused (cmd ∷ cmds) state = is_refused_by cmd state || some_is_refused cmds (state_after cmd state)

-- the acts with those of all commands, after `ticks` ticks
abbrev pub acts_after_all : ℕ → List Cmd → List Act → List Act
acts_after_all ticks [] acts = acts
acts_after_all ticks (cmd ∷ cmds) acts = acts_after_all ticks cmds (acts_of ticks cmd ++ acts)

-- the stage one tick later
abbrev pub state_one_tick_later : StageState → StageState
state_one_tick_later state = record state { places = λ channel. map one_tick_later (state.places channel) }

-- each channel has no more live places and no more waiting settings than it may have
pub record IsWithinLimits (state : StageState) : Type 0 where
  pub places : (channel : ℕ) → length (state.places channel) ≤ MAX_LIVE_LAYERS
  pub waiting : (channel : ℕ) → state.waiting channel ≤ MAX_WAITING_SETTINGS

-- whether a command acts on the contents or on the waiting settings of a channel
abbrev pub names_channel : Cmd → ℕ → Bool
names_channel cmd channel = elim (shape_of cmd) [
  | shape.Take at take ↦ at.channel == channel
  | shape.Change at ↦ at.channel == channel
  | shape.ClearChannel cleared ↦ cleared == channel
  | shape.SwapLayers a b transforms ↦ a.channel == channel || b.channel == channel
  | shape.SwapChannels a b transforms ↦ a == channel || b == channel
  | shape.Set setting ↦ setting.place.channel == channel
  | shape.CommitMixer committed ↦ committed == channel
  | shape.Reset target ↦ false
  | shape.Record mark ↦ false
  | shape.Ask query ↦ false
]
