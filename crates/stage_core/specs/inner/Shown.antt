-- Which places a tick can show.
use Rattle.std.specs.Prelude.{ℕ, ◌<◌, ◌≤◌, All, length}
use Rattle.std.specs.Option.{ForSome}
use Rattle.play_types.specs.declared.event.TheConstants.{MAX_TICKS}
use Rattle.play_types.specs.declared.place.TheConstants.{MAX_LIVE_LAYERS}
use Rattle.history_model.specs.stage.Life.{Life}
use Rattle.history_model.specs.stage.Places.{Places}
use Rattle.stage_core.specs.inner.Drawn.{IsShown, next_of}

-- the foreground of a place, if it has one, was shown for fewer ticks than a history may have
abbrev pub HasTicksLeft : ℕ × Life → Type 0
HasTicksLeft place = ForSome place.1.foreground (λ foreground. foreground.shown < MAX_TICKS)

-- each picture that a place shows at the next tick is no route, or one to a channel of the stage, and its transition, if it has
-- a duration, has begun
abbrev pub HasOwnRoutes : ℕ → ℕ × Life → Type 0
HasOwnRoutes channels place = IsShown channels (next_of place)

-- a tick can show these places: each was shown for fewer ticks than a history may have and routes only to channels of the
-- stage, and there are no more than a channel may have
pub record CanShow (channels : ℕ) (places : Places) : Type 0 where
  pub ticks : All HasTicksLeft places
  pub routes : All (HasOwnRoutes channels) places
  pub few : length places ≤ MAX_LIVE_LAYERS
