-- Words for the worked examples.
use Rattle.std.specs.Prelude.{ℕ, List, Option, option_map}
use Rattle.play_types.specs.Place.{PlaceView}
use Rattle.play_types.specs.declared.take.Spec.{Spec}
use Rattle.play_types.specs.declared.drawn.Still.{Still}
use Rattle.route_graph.specs.Shown.{shown_at}
use Rattle.route_graph.specs.Routes.{RoutesView, after_show, next_tick, no_ticks, still_by}

-- a layer of a channel
abbrev pub at : ℕ → ℕ → PlaceView
at channel layer = record { channel = channel; layer = layer }

-- what a route shows by a table
abbrev pub shows : RoutesView → Spec → Still
shows routes route = still_by (option_map shown_at routes.past) route 0

-- a table with one more tick, at which one place shows a producer at a frame
abbrev pub then_shown : PlaceView → Spec → ℕ → RoutesView → RoutesView
then_shown place producer frame routes = after_show place (producer, frame) (next_tick routes)

-- a table of three channels before the first tick
abbrev pub first : RoutesView
first = no_ticks 3
