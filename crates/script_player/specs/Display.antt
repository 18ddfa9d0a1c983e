-- What a display shows of ticks.
use Rattle.std.specs.Prelude.{◌≡◌, ℕ, ◌+◌, List, [], ◌∷◌, ◌++◌, length, map}
use Rattle.std.specs.List.{range_with_len}
use Rattle.play_types.specs.History.{ticks}
use Rattle.play_types.specs.declared.event.Event.{Event}
use Rattle.play_types.specs.declared.event.Event.TheVariants as event
use Rattle.history_model.specs.pictures.Scene.{scene}
use Rattle.history_model.specs.scripts.History.{Playout}
use Rattle.server_setup.specs.declared.setup.ServerSetup.{ServerSetup}
use Rattle.script_player.specs.Playouts.{playout_of}
use Rattle.script_player.specs.Player.{channels_in, events_in}
use Rattle.script_player.specs.declared.display.MadeTick.{MadeTick}
use Rattle.script_player.specs.declared.player.Player.{Player}

-- the playout on which a tick was made
abbrev pub playout_of_tick : MadeTick → Playout
playout_of_tick tick = playout_of tick.setup.now tick.digests

-- the tick was made after these events: the stage has it after them, the scenes are those of all channels at it, and this is its number
pub record IsMadeAfter (events : List Event) (tick : MadeTick) : Type 0 where
  pub history : tick.stage.now.journal.events ≡ events ++ event.Tick ∷ []
  pub scenes : tick.scenes.now ≡ map (scene events) (range_with_len 1 (length tick.setup.now.config.channels))
  pub number : tick.number ≡ ticks events + 1

-- the display shows the last tick of some events, after which this tick was made
pub record IsNext (shows : ServerSetup → List Event → Type 0) (tick : MadeTick) : Type 0 where
  pub events : List Event
  pub made : IsMadeAfter events tick
  pub last : shows tick.setup.now events

-- the display shows the last tick of some events
pub record IsShowing (shows : ServerSetup → List Event → Type 0) : Type 0 where
  pub setup : ServerSetup
  pub events : List Event
  pub last : shows setup events

-- the display shows the last tick of a player, and no text waits to be written
pub record IsShownBy (shows : ServerSetup → List Event → Type 0) (waiting : List ℕ) (player : Player) : Type 0 where
  pub last : shows player.setup (events_in player)
  pub none_waits : waiting ≡ []

-- the stage of the player has the configured channels, and the display shows its last tick, also after a stop
pub record IsStillShownBy (shows : ServerSetup → List Event → Type 0) (waiting : List ℕ) (player : Player) : Type 0 where
  pub channels : player.stage.channels ≡ channels_in player
  pub shown : IsShownBy shows waiting player
