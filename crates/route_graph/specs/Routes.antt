-- What contracts see of a route table, and what its calls do to it.
use Rattle.std.specs.Prelude.{ℕ, ◌≤◌, [], List, Option, Some, None, length, replicate, unwrap_or}
use Rattle.play_types.specs.Place.{PlaceView}
use Rattle.play_types.specs.declared.place.TheConstants.{MAX_LIVE_LAYERS}
use Rattle.play_types.specs.declared.take.Spec.{Spec}
use Rattle.play_types.specs.declared.take.Spec.TheVariants.{Clip, Colour as OfColour, RouteChannel, RouteLayer}
use Rattle.play_types.specs.declared.drawn.Still.{Still}
use Rattle.play_types.specs.declared.drawn.Still.TheVariants.{Nothing, Colour, Frame, Channel}
use Rattle.history_model.specs.pictures.Source.{own_still}
use Rattle.route_graph.specs.Shown.{Picture, Pictures, ShownLayers, layers_of, with_picture}

-- the number of channels, what their places showed at the tick before the last one, and what they show at the last one,
-- channel 1 first: none if there was no such tick
pub record RoutesView : Type 0 where
  pub channels : ℕ
  pub past : Option (List ShownLayers)
  pub present : Option (List ShownLayers)

-- a route table before the first tick
abbrev pub no_ticks : ℕ → RoutesView
no_ticks channels = record { channels = channels; past = None; present = None }

-- a tick at which no place shows anything yet
abbrev pub nothing_shown : ℕ → List ShownLayers
nothing_shown channels = replicate channels []

-- a route table once the next tick has begun
abbrev pub next_tick : RoutesView → RoutesView
next_tick routes = record { channels = routes.channels; past = routes.present; present = Some (nothing_shown routes.channels) }

-- what is shown at the last tick: nothing if none has begun
abbrev pub last_tick : RoutesView → List ShownLayers
last_tick routes = unwrap_or routes.present (nothing_shown routes.channels)

-- a route table once a place shows a picture at the last tick: if no tick has begun, this begins the first one
abbrev pub after_show : PlaceView → Picture → RoutesView → RoutesView
after_show place picture routes =
    record { channels = routes.channels; past = routes.past; present = Some (with_picture place picture (last_tick routes)) }

-- at most MAX_LIVE_LAYERS places of the channel show something at the last tick
abbrev pub HasFewPlaces : ℕ → RoutesView → Type 0
HasFewPlaces channel routes = length (layers_of channel (last_tick routes)) ≤ MAX_LIVE_LAYERS

-- the clip or colour of a picture, nothing if there is none or if it is a route
abbrev pub picture_still : Option Picture → Still
picture_still None = Nothing
picture_still (Some picture) = own_still picture.0 picture.1

-- the frame that a channel had at the tick before, nothing if there was no such tick
abbrev pub channel_still : Option Pictures → ℕ → Still
channel_still None channel = Nothing
channel_still (Some pictures) channel = Channel channel

-- the clip or colour that a place showed at the tick before, nothing if there was no such tick
abbrev pub place_still : Option Pictures → PlaceView → Still
place_still None place = Nothing
place_still (Some pictures) place = picture_still (pictures place)

-- what a producer shows at a frame, by what each place showed at the tick before
abbrev pub still_by : Option Pictures → Spec → ℕ → Still
still_by pictures (Clip id) frame = Frame id frame
still_by pictures (OfColour value) frame = Colour value
still_by pictures (RouteChannel channel) frame = channel_still pictures channel
still_by pictures (RouteLayer place) frame = place_still pictures place
