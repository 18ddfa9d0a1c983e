-- No channel is deeper than the ticks before it: at the first tick no route shows a channel.
use Rattle.std.proofs.Common.{◌≡◌, ℕ, zero, suc, ◌+◌, ◌-◌, ◌≤◌, Bool, true, false, cond, List, [], ◌∷◌, ◌++◌, filter_map, option_map, refl, sym, ap, ◌∙◌, subst, nat_lt, arith}
use Rattle.std.specs.List.{cons_option}
use Rattle.std.specs.Prelude.{Option, Some, None}
use Rattle.play_types.specs.Playhead.{head}
use Rattle.std.proofs.Math.Nat.{max-le}
use Rattle.play_types.specs.History.{ticks}
use Rattle.play_types.specs.Place.{PlaceView}
use Rattle.play_types.specs.declared.drawn.Drawn.{Drawn}
use Rattle.play_types.specs.declared.event.Event.{Event}
use Rattle.play_types.specs.declared.event.Event.TheVariants.{Do, Batch, Tick, Stop}
use Rattle.play_types.specs.declared.take.Spec.{Spec}
use Rattle.play_types.specs.declared.take.Spec.TheVariants.{Clip, Colour, RouteChannel, RouteLayer}
use Rattle.history_model.specs.pictures.Scene.{drawn_layer, drawn_place, outgoing_shown, outgoing_still, scene_back, scene_of}
use Rattle.history_model.specs.pictures.Source.{last_foregrounds, source}
use Rattle.history_model.specs.stage.Act.{Act}
use Rattle.history_model.specs.stage.Acts.{acts_back}
use Rattle.history_model.specs.stage.Life.{Foreground, Outgoing}
use Rattle.history_model.specs.stage.Live.{foreground_at, layers}
use Rattle.needed_frames.specs.Depth.{channel_of, depth_back, depth_behind, layer_channels, shown_channels}

-- before the first tick no layer has shown anything
none_shown : (back : List Event) → ticks back ≡ 0 → last_foregrounds back ≡ None
none_shown [] none = refl
none_shown (Do tag cmd ∷ before) none = none_shown before none
none_shown (Batch tag cmds ∷ before) none = none_shown before none
none_shown (Tick ∷ before) none = absurd (omega (arith, none))
none_shown (Stop tag ∷ before) none = none_shown before none

-- so no producer shows a channel
no_source : (spec : Spec) (frame : ℕ) → channel_of (source None spec frame) ≡ []
no_source (Clip id) frame = refl
no_source (Colour value) frame = refl
no_source (RouteChannel channel) frame = refl
no_source (RouteLayer place) frame = refl

no_outgoing : (old : Option Outgoing) (shown : ℕ) → channel_of (outgoing_still None old shown) ≡ []
no_outgoing None shown = refl
no_outgoing (Some old) shown = no_source old.take.spec (head old.take (outgoing_shown old shown))

neither : (b : Bool) (old new : List ℕ) → old ≡ [] → new ≡ [] → cond b (old ++ new) new ≡ []
neither true old new none none2 = λ i. none i ++ none2 i
neither false old new none none2 = none2

-- a layer that shows no channel, if there is one
abbrev ShowsNone : Option Drawn → Type 0
ShowsNone None = Unit {0}
ShowsNone (Some drawn) = layer_channels drawn ≡ []

none_of_layers : (layer : ℕ → Option Drawn) → ((number : ℕ) → ShowsNone (layer number)) → (numbers : List ℕ)
    → shown_channels (filter_map layer numbers) ≡ []
none_of_layers layer each [] = refl
none_of_layers layer each (number ∷ numbers) = by_layer (none_of_layers layer each numbers) (layer number) (each number)
  where
    by_layer : shown_channels (filter_map layer numbers) ≡ [] → (one : Option Drawn) → ShowsNone one → shown_channels (cons_option one (filter_map layer numbers)) ≡ []
    by_layer rest None none = rest
    by_layer rest (Some drawn) none = λ i. none i ++ rest i

module _ (acts : List Act) (t : ℕ) where
  no_layer : (place : PlaceView) (foreground : Option Foreground) → ShowsNone (option_map (drawn_place acts t None place) foreground)
  no_layer place None = tt
  no_layer place (Some foreground) =
      let drawn = drawn_place acts t None place foreground in
      neither (nat_lt drawn.step drawn.trans.duration) (channel_of drawn.old) (channel_of drawn.still)
      (no_outgoing foreground.old foreground.shown) (no_source foreground.take.spec (head foreground.take foreground.shown))

  no_channel : (channel : ℕ) → shown_channels (scene_of acts t None channel) ≡ []
  no_channel channel =
      none_of_layers (drawn_layer acts t None channel)
      (λ number. no_layer (record { channel = channel; layer = number }) (foreground_at acts t (record { channel = channel; layer = number })))
      (layers acts)

none_at_first : (back : List Event) (channel : ℕ) → ticks back ≡ 0 → shown_channels (scene_back back channel) ≡ []
none_at_first back channel none =
    ap (λ foregrounds. shown_channels (scene_of (acts_back back) (ticks back) foregrounds channel)) (none_shown back none)
    ∙ no_channel (acts_back back) (ticks back) channel

-- the depth behind channels whose depths are below `most` is at most `most`
behind_within : (deep : ℕ → ℕ) (most : ℕ) → ((channel : ℕ) → deep channel + 1 ≤ most) → (channels : List ℕ) → depth_behind deep channels ≤ most
behind_within deep most each [] = omega arith
behind_within deep most each (channel ∷ channels) = max-le (each channel) (behind_within deep most each channels)

-- the depth at the last tick is less than the number of ticks, and at the tick after a history no more
pub depth_within : (back : List Event) (channel : ℕ) → depth_back back channel ≤ ticks back - 1
depth_within [] channel = omega arith
depth_within (Do tag cmd ∷ before) channel = depth_within before channel
depth_within (Batch tag cmds ∷ before) channel = depth_within before channel
depth_within (Stop tag ∷ before) channel = depth_within before channel
depth_within (Tick ∷ before) channel = by_ticks (depth_within before) (ticks before) refl
  where
    by_ticks : ((one : ℕ) → depth_back before one ≤ ticks before - 1) → (n : ℕ) → ticks before ≡ n → depth_behind (depth_back before) (shown_channels (scene_back before channel)) ≤ 1 + ticks before - 1
    by_ticks each zero none =
        subst (λ channels. depth_behind (depth_back before) channels ≤ 1 + ticks before - 1) (sym (none_at_first before channel none)) (omega arith)
    by_ticks each (suc n) some =
        behind_within (depth_back before) (1 + ticks before - 1)
        (λ one. omega (arith, each one, some)) (shown_channels (scene_back before channel))
