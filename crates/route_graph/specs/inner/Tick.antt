-- A tick that a route table keeps.
use Rattle.std.specs.Prelude.{ℕ, List, Option, unwrap_or}
use Rattle.route_graph.specs.Shown.{ShownLayers}
use Rattle.route_graph.specs.Routes.{nothing_shown}

-- the number of channels, and what their places show at the tick, channel 1 first: none if it has not begun
pub record TickView : Type 0 where
  pub channels : ℕ
  pub shown : Option (List ShownLayers)

-- what is shown at the tick so far: nothing if it has not begun
abbrev pub shown_so_far : TickView → List ShownLayers
shown_so_far tick = unwrap_or tick.shown (nothing_shown tick.channels)
