-- What a producer shows.
use Rattle.std.specs.Prelude.{ℕ, List, [], ◌∷◌, Option, Some, None}
use Rattle.play_types.specs.Place.{PlaceView}
use Rattle.play_types.specs.History.{ticks}
use Rattle.play_types.specs.Playhead.{head}
use Rattle.play_types.specs.declared.take.Spec.{Spec}
use Rattle.play_types.specs.declared.take.Spec.TheVariants.{Clip, Colour as OfColour, RouteChannel, RouteLayer}
use Rattle.play_types.specs.declared.event.Event.{Event}
use Rattle.play_types.specs.declared.event.Event.TheVariants.{Do, Batch, Tick, Stop}
use Rattle.play_types.specs.declared.drawn.Still.{Still}
use Rattle.play_types.specs.declared.drawn.Still.TheVariants.{Nothing, Colour, Frame, Channel}
use Rattle.history_model.specs.stage.Life.{Foreground}
use Rattle.history_model.specs.stage.Live.{foreground_at}
use Rattle.history_model.specs.stage.Acts.{acts_back}

-- the foreground that each place showed at the last tick of a history read backward, its last event first: none if it has no tick
abbrev pub last_foregrounds : List Event → Option (PlaceView → Option Foreground)
last_foregrounds [] = None
last_foregrounds (Do tag cmd ∷ before) = last_foregrounds before
last_foregrounds (Batch tag cmds ∷ before) = last_foregrounds before
last_foregrounds (Tick ∷ before) = Some (foreground_at (acts_back before) (ticks before))
last_foregrounds (Stop tag ∷ before) = last_foregrounds before

-- what a clip or a colour shows at a frame: nothing for a route
abbrev pub own_still : Spec → ℕ → Still
own_still (Clip id) frame = Frame id frame
own_still (OfColour value) frame = Colour value
own_still (RouteChannel channel) frame = Nothing
own_still (RouteLayer place) frame = Nothing

-- the clip or colour that a foreground shows, at its playhead
abbrev pub foreground_still : Option Foreground → Still
foreground_still None = Nothing
foreground_still (Some foreground) = own_still foreground.take.spec (head foreground.take foreground.shown)

-- what a route to a channel shows: the frame of the tick before, and nothing if there was none
abbrev pub channel_still : Option (PlaceView → Option Foreground) → ℕ → Still
channel_still None channel = Nothing
channel_still (Some foregrounds) channel = Channel channel

-- what a route to a place shows: its clip or colour at the tick before, and nothing if there was none
abbrev pub layer_still : Option (PlaceView → Option Foreground) → PlaceView → Still
layer_still None place = Nothing
layer_still (Some foregrounds) place = foreground_still (foregrounds place)

-- what a producer shows at a frame, by the foregrounds at the tick before
abbrev pub source : Option (PlaceView → Option Foreground) → Spec → ℕ → Still
source foregrounds (Clip id) frame = Frame id frame
source foregrounds (OfColour value) frame = Colour value
source foregrounds (RouteChannel channel) frame = channel_still foregrounds channel
source foregrounds (RouteLayer place) frame = layer_still foregrounds place
