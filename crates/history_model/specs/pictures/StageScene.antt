-- For proofs: what a channel shows at a tick, by its live places. Laws prove that it agrees with the scene of a history.
use Rattle.std.specs.Prelude.{ℕ, List, Option, option_map, reverse}
use Rattle.play_types.specs.Place.{PlaceView}
use Rattle.play_types.specs.History.{ticks}
use Rattle.play_types.specs.declared.event.Event.{Event}
use Rattle.play_types.specs.declared.drawn.Drawn.{Drawn}
use Rattle.history_model.specs.stage.Act.{Act}
use Rattle.history_model.specs.stage.Acts.{acts}
use Rattle.history_model.specs.stage.Life.{Foreground, Life, ready}
use Rattle.history_model.specs.stage.Places.{Places}
use Rattle.history_model.specs.stage.StageState.{standing_at}
use Rattle.history_model.specs.pictures.Source.{last_foregrounds}
use Rattle.history_model.specs.pictures.Scene.{drawn_place}

-- the foreground that each place showed at the last tick of a history, none if it has no tick
unfoldable pub last_shown : List Event → Option (PlaceView → Option Foreground)
last_shown history = last_foregrounds (reverse history)

-- the foreground that the next tick shows at a place, by the live places of each channel
abbrev pub next_shown : (ℕ → Places) → PlaceView → Option Foreground
next_shown places place = (ready (standing_at places place)).foreground

-- a live place of a channel at the tick after the acts `past` and `t` ticks, none if it is not drawn
abbrev pub drawn_live_place : List Act → ℕ → Option (PlaceView → Option Foreground) → ℕ → ℕ × Life → Option Drawn
drawn_live_place past t foregrounds channel place =
    option_map (drawn_place past t foregrounds (record { channel = channel; layer = place.0 })) (ready place.1).foreground

-- a live place of a channel at the tick after a history, none if it is not drawn
abbrev pub drawn_after : List Event → ℕ → ℕ × Life → Option Drawn
drawn_after history channel place = drawn_live_place (acts history) (ticks history) (last_shown history) channel place
