-- What a stage keeps.
use Rattle.std.specs.Prelude.{◌≡◌, ℕ, ◌≤◌, List, [], ◌∷◌, length}
use Rattle.play_types.specs.History.{ticks}
use Rattle.play_types.specs.declared.place.TheConstants.{MAX_CHANNELS}
use Rattle.play_types.specs.declared.event.Event.{Event}
use Rattle.history_model.specs.stage.Act.{Act}
use Rattle.history_model.specs.stage.Acts.{acts}
use Rattle.history_model.specs.stage.StageHistory.{stage_after}
use Rattle.history_model.specs.pictures.StageScene.{last_shown}
use Rattle.mixer_state.specs.Mixer.{MixerView}
use Rattle.mixer_state.specs.Past.{Represents}
use Rattle.route_graph.specs.Past.{KeepsForegrounds}
use Rattle.route_graph.specs.Routes.{RoutesView}
use Rattle.history_model.specs.commands.Channels.{IsServed}
use Rattle.stage_core.specs.LiveState.{LiveView, ShowsStage}

-- each act names only channels of the stage
abbrev pub AreServed : ℕ → List Act → Type 0
AreServed channels [] = Unit {0}
AreServed channels (act ∷ before) = IsServed channels act.cmd × AreServed channels before

-- the live state shows the stage after the events, whose commands name only its channels
pub record IsLiveStateOf (events : List Event) (live : LiveView) : Type 0 where
  pub some_channels : 1 ≤ length live.places
  pub channels : length live.places ≤ MAX_CHANNELS
  pub served : AreServed (length live.places) (acts events)
  pub shows : ShowsStage (length live.places) live (stage_after events)

-- the routes keep what the places of the first `channels` channels showed at the last tick of the events
pub record IsShownBefore (channels : ℕ) (events : List Event) (routes : RoutesView) : Type 0 where
  pub count : routes.channels ≡ channels
  pub shown : KeepsForegrounds channels routes.present (last_shown events)

-- the mixer has the values and the waiting settings that the events leave
pub record IsMixed (channels : ℕ) (events : List Event) (mixer : MixerView) : Type 0 where
  pub count : mixer.channels ≡ channels
  pub past : Represents mixer (acts events) (ticks events)

-- the parts of a stage after the events: its live state, a saved one of as many channels, its mixer, and its routes
pub record IsStage (events : List Event) (one other : LiveView) (mixer : MixerView) (routes : RoutesView) : Type 0 where
  pub live : IsLiveStateOf events one
  pub saved : length other.places ≡ length one.places
  pub mixed : IsMixed (length one.places) events mixer
  pub shown : IsShownBefore (length one.places) events routes
