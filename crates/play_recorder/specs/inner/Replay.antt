-- What a replay keeps, and which events it can play.
use Rattle.std.specs.Prelude.{◌≡◌, ◌≤◌, List, [], length}
use Rattle.play_types.specs.Config.{ConfigView}
use Rattle.play_types.specs.History.{IsHistory, held, ticks}
use Rattle.play_types.specs.declared.event.Event.{Event}
use Rattle.play_types.specs.declared.event.TheConstants.{MAX_TICKS}
use Rattle.stage_core.specs.Stage.{StageView}
use Rattle.play_recorder.specs.Recording.{AreServedEvents}
use Rattle.play_recorder.specs.declared.replay.Replay.{Replay}

-- the events so far
abbrev pub events_in : Replay → List Event
events_in replay = replay.stage.journal.events

-- there is a scene for each channel of the stage
abbrev pub HasScenes : Replay → Type 0
HasScenes replay = length replay.scenes ≡ replay.stage.channels

-- the stage of a configuration before the first event
abbrev pub new_stage : ConfigView → StageView
new_stage config = record { journal = record { limit = config.journal_limit; events = [] }; channels = length config.channels }

-- and after these events
abbrev pub stage_with : ConfigView → List Event → StageView
stage_with config events = record { journal = record { limit = config.journal_limit; events = events }; channels = length config.channels }

-- these events are a history that such a stage can play: its commands are for the channels of the stage, and no more than the limit
-- of its journal
pub record CanPlay (stage : StageView) (events : List Event) : Type 0 where
  pub history : IsHistory events
  pub served : AreServedEvents stage.channels events
  pub room : held events ≤ stage.journal.limit
  pub time : ticks events ≤ MAX_TICKS
