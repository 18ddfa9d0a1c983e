-- What is drawn of a place, and what routes show of it at the next tick.
use Rattle.std.specs.Prelude.{◌≡◌, ℕ, ◌<◌, ◌⊎◌, List, ℤ, filter_map, length, Option, Some, None, option_map}
use Rattle.play_types.specs.ChannelItems.{with_channel_item}
use Rattle.play_types.specs.Place.{PlaceView}
use Rattle.play_types.specs.Scene.{IsConfigured, with_layer}
use Rattle.play_types.specs.Setting.{number_at}
use Rattle.play_types.specs.declared.place.TheConstants.{MAX_LIVE_LAYERS}
use Rattle.play_types.specs.declared.setting.Prop.{Prop}
use Rattle.play_types.specs.declared.setting.Prop.TheVariants.{Opacity, Fill, Clip, Volume, Keyer}
use Rattle.play_types.specs.declared.drawn.Still.{Still}
use Rattle.play_types.specs.declared.drawn.Still.TheVariants.{Nothing}
use Rattle.play_types.specs.declared.drawn.Drawn.{Drawn}
use Rattle.history_model.specs.stage.Life.{Life, ready}
use Rattle.history_model.specs.pictures.Easing.{eased}
use Rattle.history_model.specs.pictures.Scene.{is_one}
use Rattle.layer_state.specs.declared.shown.Shown.{Shown}
use Rattle.layer_state.specs.Shown.{shown_of}
use Rattle.mixer_state.specs.Mixer.{MixerView, values_of}
use Rattle.route_graph.specs.Routes.{RoutesView, after_show, last_tick, still_by}
use Rattle.route_graph.specs.Shown.{Picture, Pictures, ShownLayers, layers_of, shown_at}
use Rattle.history_model.specs.commands.Channels.{IsRouted}
use Rattle.stage_core.specs.LiveState.{Channels, places_of}

-- what each place showed at the tick before, none if there was none
abbrev pub tick_past : RoutesView → Option Pictures
tick_past routes = option_map shown_at routes.past

-- the still of a picture, by what each place showed at the tick before, nothing if there is no picture
abbrev pub still_of : Option Pictures → Option Picture → Still
still_of past None = Nothing
still_of past (Some picture) = still_by past picture.0 picture.1

-- what is drawn of a place that shows this picture, with these mixer values
abbrev pub drawn_now : (Prop → List ℤ) → Option Pictures → Shown → Picture → Drawn
drawn_now values past shown picture = record {
  still = still_by past picture.0 picture.1;
  old = still_of past shown.old;
  trans = (eased shown.trans shown.step).0;
  step = (eased shown.trans shown.step).1;
  opacity = number_at (values Opacity) 0;
  fill = values Fill;
  clip = values Clip;
  volume = number_at (values Volume) 0;
  keyer = is_one (number_at (values Keyer) 0);
}

-- what is drawn of a place that shows this, none if it shows nothing
abbrev pub drawn_shown : (Prop → List ℤ) → Option Pictures → Shown → Option Drawn
drawn_shown values past shown = option_map (drawn_now values past shown) shown.now

-- what a place shows at the next tick
abbrev pub next_of : ℕ × Life → Shown
next_of place = shown_of (ready place.1).foreground

-- the mixer values of each place after `ticks` ticks
abbrev pub mixed_values : MixerView → ℕ → PlaceView → Prop → List ℤ
mixed_values mixer ticks place prop = values_of mixer place prop ticks

-- what is drawn of a place of a channel at the next tick, with the mixer values of each place, none if it shows nothing
abbrev pub drawn_next : (PlaceView → Prop → List ℤ) → Option Pictures → ℕ → ℕ × Life → Option Drawn
drawn_next values past channel place = drawn_shown (values (record { channel = channel; layer = place.0 })) past (next_of place)

-- what a channel shows at the next tick, with the mixer values of each place
abbrev pub scene_next : (PlaceView → Prop → List ℤ) → Option Pictures → Channels → ℕ → List Drawn
scene_next values past channels channel = filter_map (drawn_next values past channel) (places_of channel channels)

-- a layer with its picture at the next tick, none if it shows nothing
abbrev pub shown_layer : ℕ × Life → Option (ℕ × Picture)
shown_layer place = option_map (λ (picture : Picture). (place.0, picture)) (next_of place).now

-- the scenes with one layer more, if there is one
abbrev pub with_drawn : ℕ → Option Drawn → List (List Drawn) → List (List Drawn)
with_drawn channel None scenes = scenes
with_drawn channel (Some drawn) scenes = with_layer channel drawn scenes

-- the routes once a place shows a picture, if it shows one
abbrev pub with_picture_of : PlaceView → Option Picture → RoutesView → RoutesView
with_picture_of place None routes = routes
with_picture_of place (Some picture) routes = after_show place picture routes

-- the routes with these layers shown on a channel at the last tick
abbrev pub with_shown_layers : ℕ → ShownLayers → RoutesView → RoutesView
with_shown_layers channel layers routes =
    record { channels = routes.channels; past = routes.past; present = Some (with_channel_item channel layers (last_tick routes)) }

-- the routes with these layers shown on each channel at the last tick
abbrev pub with_present : List ShownLayers → RoutesView → RoutesView
with_present tick routes = record { channels = routes.channels; past = routes.past; present = Some tick }

-- a picture is no route, or one to a channel of the stage
abbrev pub IsRoutedPicture : ℕ → Option Picture → Type 0
IsRoutedPicture channels None = Unit {0}
IsRoutedPicture channels (Some picture) = IsRouted channels picture.0

-- each picture of a place is no route, or one to a channel of the stage, and its transition, if it has a duration, has begun
pub record IsShown (channels : ℕ) (shown : Shown) : Type 0 where
  pub now : IsRoutedPicture channels shown.now
  pub old : IsRoutedPicture channels shown.old
  pub step : (0 < shown.step) ⊎ (shown.trans.duration ≡ 0)

-- a place may show one more picture at the last tick of the routes
pub record HasRoomFor (place : PlaceView) (routes : RoutesView) : Type 0 where
  pub channel : IsConfigured (length (last_tick routes)) place.channel
  pub few : length (layers_of place.channel (last_tick routes)) < MAX_LIVE_LAYERS
