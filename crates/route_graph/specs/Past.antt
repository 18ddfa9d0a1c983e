-- Which ticks a route table represents: what each place showed at each of them, the last tick first.
use Rattle.std.specs.Prelude.{◌≡◌, ℕ, ◌==◌, ◌&&◌, List, [], ◌∷◌, Option, Some, None, option_map, if◌then◌else◌}
use Rattle.play_types.specs.Place.{PlaceView}
use Rattle.play_types.specs.Playhead.{head}
use Rattle.play_types.specs.Scene.{IsConfigured}
use Rattle.play_types.specs.declared.take.Spec.{Spec}
use Rattle.play_types.specs.declared.take.Spec.TheVariants.{Clip, Colour, RouteChannel, RouteLayer}
use Rattle.history_model.specs.stage.Life.{Foreground}
use Rattle.route_graph.specs.Shown.{Picture, Pictures, ShownLayers, shown_at}
use Rattle.route_graph.specs.Routes.{RoutesView}

-- a tick at which no place shows anything
abbrev pub no_pictures : Pictures
no_pictures = λ place. None

-- a tick at which a place shows this picture, in place of the one that it showed
abbrev pub showing : PlaceView → Picture → Pictures → Pictures
showing place picture pictures =
    λ other. if (other.channel == place.channel) && (other.layer == place.layer) then Some picture else pictures other

-- the ticks after a place shows a picture at the last one: if there is none, this begins the first
abbrev pub with_show : PlaceView → Picture → List Pictures → List Pictures
with_show place picture [] = showing place picture no_pictures ∷ []
with_show place picture (pictures ∷ before) = showing place picture pictures ∷ before

-- the last tick, none if there is none
abbrev pub last : List Pictures → Option Pictures
last [] = None
last (pictures ∷ before) = Some pictures

-- the tick before the last one, none if there is none
abbrev pub tick_before : List Pictures → Option Pictures
tick_before [] = None
tick_before (pictures ∷ before) = last before

-- what is kept of a tick is what the places of the first `channels` channels showed at it
abbrev pub KeepsTick : ℕ → Option (List ShownLayers) → Option Pictures → Type 0
KeepsTick channels None None = Unit {0}
KeepsTick channels None (Some pictures) = ⊥
KeepsTick channels (Some tick) None = ⊥
KeepsTick channels (Some tick) (Some pictures) =
    (place : PlaceView) → IsConfigured channels place.channel → shown_at tick place ≡ pictures place

-- a route table keeps the two last of these ticks
pub record Represents (routes : RoutesView) (ticks : List Pictures) : Type 0 where
  pub present : KeepsTick routes.channels routes.present (last ticks)
  pub past : KeepsTick routes.channels routes.past (tick_before ticks)

-- the picture of a foreground: its producer, at its playhead
abbrev pub foreground_picture : Foreground → Picture
foreground_picture foreground = (foreground.take.spec, head foreground.take foreground.shown)

-- the pictures of foregrounds
abbrev pub pictures_of : (PlaceView → Option Foreground) → Pictures
pictures_of foregrounds = λ place. option_map foreground_picture (foregrounds place)

-- what is kept of a tick is what these foregrounds showed at it, on the places of the first `channels` channels
abbrev pub KeepsForegrounds : ℕ → Option (List ShownLayers) → Option (PlaceView → Option Foreground) → Type 0
KeepsForegrounds channels tick foregrounds = KeepsTick channels tick (option_map pictures_of foregrounds)

-- the producer is no route to a layer of a channel beyond the first `channels`
abbrev pub LeadsWithin : ℕ → Spec → Type 0
LeadsWithin channels (Clip id) = Unit {0}
LeadsWithin channels (Colour value) = Unit {0}
LeadsWithin channels (RouteChannel channel) = Unit {0}
LeadsWithin channels (RouteLayer place) = IsConfigured channels place.channel
