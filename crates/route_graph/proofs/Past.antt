-- The ticks that a route table represents, after each call.
use Rattle.std.proofs.Common.{◌≡◌, ℕ, List, [], ◌∷◌, length, Option, Some, None, option_map, refl, ap, ◌∙◌}
use Rattle.play_types.specs.Place.{PlaceView}
use Rattle.play_types.specs.Scene.{IsConfigured}
use Rattle.play_types.specs.declared.take.Spec.{Spec}
use Rattle.play_types.specs.declared.take.Spec.TheVariants.{Clip, Colour, RouteChannel, RouteLayer}
use Rattle.history_model.specs.stage.Life.{Foreground}
use Rattle.history_model.specs.pictures.Source.{foreground_still, source}
use Rattle.route_graph.specs.Shown.{Picture, Pictures, ShownLayers, shown_at}
use Rattle.route_graph.specs.Routes.{RoutesView, after_show, last_tick, next_tick, nothing_shown, picture_still, still_by}
use Rattle.route_graph.specs.Past.{KeepsForegrounds, KeepsTick, LeadsWithin, Represents, foreground_picture, no_pictures, pictures_of, with_show}
use Rattle.route_graph.proofs.Ticks.{keeps_nothing, keeps_show}

-- the next tick begins
pub represents_next : (routes : RoutesView) (ticks : List Pictures) → Represents routes ticks →
    Represents (next_tick routes) (no_pictures ∷ ticks)
represents_next routes ticks represents = record { present = keeps_nothing routes.channels; past = represents.present }

-- a place shows a picture, by what is kept of the last tick
shows_at : (channels : ℕ) (place : PlaceView) (picture : Picture) (past present : Option (List ShownLayers)) (ticks : List Pictures) →
    IsConfigured channels place.channel →
    length (last_tick (record { channels = channels; past = past; present = present })) ≡ channels →
    Represents (record { channels = channels; past = past; present = present }) ticks →
    Represents (after_show place picture (record { channels = channels; past = past; present = present })) (with_show place picture ticks)
shows_at channels place picture past None [] configured whole represents = record {
  present = keeps_show channels place picture (nothing_shown channels) no_pictures whole configured (keeps_nothing channels);
  past = represents.past;
}
shows_at channels place picture past None (pictures ∷ before) configured whole represents = absurd represents.present
shows_at channels place picture past (Some tick) [] configured whole represents = absurd represents.present
shows_at channels place picture past (Some tick) (pictures ∷ before) configured whole represents = record {
  present = keeps_show channels place picture tick pictures whole configured represents.present;
  past = represents.past;
}

pub represents_show : (routes : RoutesView) (place : PlaceView) (picture : Picture) (ticks : List Pictures) →
    IsConfigured routes.channels place.channel → length (last_tick routes) ≡ routes.channels → Represents routes ticks →
    Represents (after_show place picture routes) (with_show place picture ticks)
represents_show routes place picture ticks configured whole represents =
    shows_at routes.channels place picture routes.past routes.present ticks configured whole represents

-- a producer shows what it shows by the tick that is kept
pub still_of_tick : (channels : ℕ) (tick : Option (List ShownLayers)) (pictures : Option Pictures) (spec : Spec) (frame : ℕ) →
    KeepsTick channels tick pictures → LeadsWithin channels spec → still_by (option_map shown_at tick) spec frame ≡ still_by pictures spec frame
still_of_tick channels None None spec frame keeps within = refl
still_of_tick channels None (Some pictures) spec frame keeps within = absurd keeps
still_of_tick channels (Some tick) None spec frame keeps within = absurd keeps
still_of_tick channels (Some tick) (Some pictures) (Clip id) frame keeps within = refl
still_of_tick channels (Some tick) (Some pictures) (Colour value) frame keeps within = refl
still_of_tick channels (Some tick) (Some pictures) (RouteChannel channel) frame keeps within = refl
still_of_tick channels (Some tick) (Some pictures) (RouteLayer place) frame keeps within = ap picture_still (keeps place within)

-- by the pictures of foregrounds it is the source
picture_of_foreground : (foreground : Option Foreground) → picture_still (option_map foreground_picture foreground) ≡ foreground_still foreground
picture_of_foreground None = refl
picture_of_foreground (Some foreground) = refl

source_of : (foregrounds : Option (PlaceView → Option Foreground)) (spec : Spec) (frame : ℕ) →
    still_by (option_map pictures_of foregrounds) spec frame ≡ source foregrounds spec frame
source_of foregrounds (Clip id) frame = refl
source_of foregrounds (Colour value) frame = refl
source_of None (RouteChannel channel) frame = refl
source_of (Some foregrounds) (RouteChannel channel) frame = refl
source_of None (RouteLayer place) frame = refl
source_of (Some foregrounds) (RouteLayer place) frame = picture_of_foreground (foregrounds place)

pub source_of_tick : (channels : ℕ) (tick : Option (List ShownLayers)) (foregrounds : Option (PlaceView → Option Foreground)) (spec : Spec) (frame : ℕ) →
    KeepsForegrounds channels tick foregrounds → LeadsWithin channels spec →
    still_by (option_map shown_at tick) spec frame ≡ source foregrounds spec frame
source_of_tick channels tick foregrounds spec frame keeps within =
    still_of_tick channels tick (option_map pictures_of foregrounds) spec frame keeps within ∙ source_of foregrounds spec frame
