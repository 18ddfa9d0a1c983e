-- What a stage draws and keeps for its routes, by what the definitions say of its events.
use Rattle.std.proofs.Common.{◌≡◌, ℕ, suc, ◌+◌, ◌-◌, ◌<◌, ◌≤◌, ◌⊎◌, inl, inr, min, All, List, [], ◌∷◌, length, map, refl, sym, ap, ap₂, ◌∙◌, arith, filter_map}
use Rattle.std.proofs.lemmas.Bool.{cases_lt}
use Rattle.std.proofs.lemmas.List.{ext_get_or, get_or-map}
use Rattle.std.proofs.lemmas.List.FromFn.{length-map-range_with_len, get_or-map-range_with_len}
use Rattle.std.specs.Prelude.{Option, Some, None, ℤ, option_map}
use Rattle.std.specs.List.{cons_option, range_with_len}
use Rattle.play_types.specs.Place.{PlaceView}
use Rattle.play_types.specs.Playhead.{head}
use Rattle.play_types.specs.Scene.{IsConfigured}
use Rattle.play_types.specs.Setting.{number_at}
use Rattle.play_types.specs.declared.setting.Prop.{Prop}
use Rattle.play_types.specs.declared.setting.Prop.TheVariants.{Opacity, Fill, Clip, Volume, Keyer}
use Rattle.play_types.specs.declared.take.Spec.{Spec}
use Rattle.play_types.specs.declared.take.Spec.TheVariants as spec
use Rattle.play_types.specs.declared.command.Cmd.{Cmd}
use Rattle.play_types.specs.declared.command.Cmd.TheVariants.{Load, LoadBg, Play, PlayTake, Pause, Resume, StopLayer, ClearLayer, ClearChannel, SwapLayers, SwapChannels, Set, CommitMixer, ResetLayer, ResetChannel, AddFile, RemoveFile, Value, Info}
use Rattle.play_types.specs.declared.drawn.Drawn.{Drawn}
use Rattle.history_model.specs.stage.Act.{Act}
use Rattle.history_model.specs.stage.Life.{Foreground, Life, Outgoing, ready}
use Rattle.history_model.specs.stage.Live.{state}
use Rattle.history_model.specs.stage.Places.{ArePlaces, Places}
use Rattle.history_model.specs.stage.Value.{value_at}
use Rattle.history_model.specs.pictures.Easing.{eased}
use Rattle.history_model.specs.pictures.Scene.{drawn_place, is_one, outgoing_shown, outgoing_still, step_of}
use Rattle.history_model.specs.pictures.StageScene.{drawn_live_place, next_shown}
use Rattle.layer_state.specs.Shown.{old_picture_of, shown_of}
use Rattle.route_graph.specs.Past.{KeepsForegrounds, LeadsWithin}
use Rattle.route_graph.specs.Shown.{ShownLayers, shown_at, shown_on}
use Rattle.route_graph.proofs.Past.{source_of_tick}
use Rattle.stage_core.specs.LiveState.{Channels, places_of}
use Rattle.stage_core.specs.Kept.{AreServed}
use Rattle.history_model.specs.commands.Channels.{IsRouted, IsServed}
use Rattle.stage_core.specs.inner.Drawn.{IsRoutedPicture, IsShown, drawn_next, drawn_shown, next_of, shown_layer, still_of}
use Rattle.stage_core.proofs.Routing.{shown_on-places}
use Rattle.stage_core.proofs.Takes.{OfActs, OfCommand, OfForeground, OfOutgoing, OfPlace, OfPlace-ready, OfPlace-state}

-- the producers of such commands lead to channels of the stage
OfCommand-routed : (n : ℕ) (cmd : Cmd) → IsServed n cmd → OfCommand (IsRouted n) cmd
OfCommand-routed n (Load at take) h = h.1
OfCommand-routed n (LoadBg at take) h = h.1
OfCommand-routed n (Play at) h = tt
OfCommand-routed n (PlayTake at take) h = h.1
OfCommand-routed n (Pause at) h = tt
OfCommand-routed n (Resume at) h = tt
OfCommand-routed n (StopLayer at) h = tt
OfCommand-routed n (ClearLayer at) h = tt
OfCommand-routed n (ClearChannel channel) h = tt
OfCommand-routed n (SwapLayers a b transforms) h = tt
OfCommand-routed n (SwapChannels a b transforms) h = tt
OfCommand-routed n (Set setting) h = tt
OfCommand-routed n (CommitMixer channel) h = tt
OfCommand-routed n (ResetLayer at) h = tt
OfCommand-routed n (ResetChannel channel) h = tt
OfCommand-routed n (AddFile marked name) h = tt
OfCommand-routed n (RemoveFile marked) h = tt
OfCommand-routed n (Value at prop) h = tt
OfCommand-routed n Info h = tt

OfActs-routed : (n : ℕ) (acts : List Act) → AreServed n acts → OfActs (IsRouted n) acts
OfActs-routed n [] h = tt
OfActs-routed n (act ∷ before) h = (OfCommand-routed n act.cmd h.0, OfActs-routed n before h.1)

pub OfPlace-routed : (n : ℕ) (acts : List Act) (t : ℕ) (place : PlaceView) → AreServed n acts → OfPlace (IsRouted n) (state acts t place)
OfPlace-routed n acts t place served = OfPlace-state (IsRouted n) acts t place (OfActs-routed n acts served)

-- what such a place shows
begun : (shown duration : ℕ) → (duration < 1) ⊎ (1 ≤ duration) → (0 < min (shown + 1) duration) ⊎ (duration ≡ 0)
begun shown duration (inl none) = inr (omega arith)
begun shown duration (inr some) = inl (omega arith)

old_shown : (n shown : ℕ) (old : Option Outgoing) → OfOutgoing (IsRouted n) old → IsRoutedPicture n (option_map (old_picture_of shown) old)
old_shown n shown None h = tt
old_shown n shown (Some old) h = h

is_shown : (n : ℕ) (foreground : Option Foreground) → OfForeground (IsRouted n) foreground → IsShown n (shown_of foreground)
is_shown n None h = record { now = tt; old = tt; step = inr refl }
is_shown n (Some f) h = record {
  now = h.0;
  old = old_shown n f.shown f.old h.1;
  step = begun f.shown f.take.trans.duration (cases_lt f.take.trans.duration 1);
}

pub IsShown-routed : (n : ℕ) (place : ℕ × Life) → OfPlace (IsRouted n) place.1 → IsShown n (next_of place)
IsShown-routed n place h = is_shown n (ready place.1).foreground (OfPlace-ready (IsRouted n) place.1 h).foreground

-- a producer shows its source, by what is kept of the last tick
leads : (n : ℕ) (producer : Spec) → IsRouted n producer → LeadsWithin n producer
leads n (spec.Clip id) h = tt
leads n (spec.Colour value) h = tt
leads n (spec.RouteChannel channel) h = tt
leads n (spec.RouteLayer place) h = h

module _ (n : ℕ) (tick : Option (List ShownLayers)) (foregrounds : Option (PlaceView → Option Foreground)) (keeps : KeepsForegrounds n tick foregrounds) where
  old_source : (old : Option Outgoing) (shown : ℕ) → OfOutgoing (IsRouted n) old →
      outgoing_still foregrounds old shown ≡ still_of (option_map shown_at tick) (option_map (old_picture_of shown) old)
  old_source None shown h = refl
  old_source (Some old) shown h =
      sym (source_of_tick n tick foregrounds old.take.spec (head old.take (outgoing_shown old shown)) keeps (leads n old.take.spec h))

  -- so a live place is drawn by that, with its own values
  module _ (values : PlaceView → Prop → List ℤ) (acts : List Act) (t : ℕ) where
    drawn_foreground : (place : PlaceView) (foreground : Option Foreground) → ((prop : Prop) → values place prop ≡ value_at acts place prop (t + 1)) →
        OfForeground (IsRouted n) foreground →
        option_map (drawn_place acts t foregrounds place) foreground ≡ drawn_shown (values place) (option_map shown_at tick) (shown_of foreground)
    drawn_foreground place None same h = refl
    drawn_foreground place (Some f) same h =
        λ i. Some (record {
          still = sym (source_of_tick n tick foregrounds f.take.spec (head f.take f.shown) keeps (leads n f.take.spec h.0)) i;
          old = old_source f.old f.shown h.1 i;
          trans = (eased f.take.trans (step_of f)).0;
          step = (eased f.take.trans (step_of f)).1;
          opacity = number_at (sym (same Opacity) i) 0;
          fill = sym (same Fill) i;
          clip = sym (same Clip) i;
          volume = number_at (sym (same Volume) i) 0;
          keyer = is_one (number_at (sym (same Keyer) i) 0);
        })

    pub drawn_places : (channel : ℕ) (ps : Places) →
        ((layer : ℕ) (prop : Prop) → values (record { channel = channel; layer = layer }) prop ≡ value_at acts (record { channel = channel; layer = layer }) prop (t + 1)) →
        All (λ (place : ℕ × Life). OfPlace (IsRouted n) place.1) ps →
        filter_map (drawn_live_place acts t foregrounds channel) ps ≡ filter_map (drawn_next values (option_map shown_at tick) channel) ps
    drawn_places channel [] same routed = refl
    drawn_places channel (x ∷ ps) same routed =
        ap₂ (λ (one : Option Drawn) (more : List Drawn). cons_option one more)
        (drawn_foreground (record { channel = channel; layer = x.0 }) (ready x.1).foreground (same x.0) (OfPlace-ready (IsRouted n) x.1 (routed 0 x (omega arith))).foreground)
        (drawn_places channel ps same (λ i d low. routed (suc i) d (omega arith)))

-- what routes keep of a tick is what the places showed at it
pub keeps_next : (n : ℕ) (channels : Channels) (f : ℕ → Places) → length channels ≡ n → ((k : ℕ) → ArePlaces (f k)) →
    ((k : ℕ) → IsConfigured n k → places_of k channels ≡ f k) →
    KeepsForegrounds n (Some (map (filter_map shown_layer) channels)) (Some (next_shown f))
keeps_next n channels f count rising shows place c =
    ap (λ (layers : ShownLayers). shown_on layers place.layer)
    (get_or-map (filter_map shown_layer) channels (place.channel - 1) [] [] (omega (arith, c.0, c.1, count))
    ∙ ap (filter_map shown_layer) (shows place.channel c))
    ∙ shown_on-places (f place.channel) place.layer (rising place.channel)

-- lists made from the numbers of the channels are the same if they agree on these
pub same_on_range : {X : Type 0} (f g : ℕ → X) (n : ℕ) → ((k : ℕ) → IsConfigured n k → f k ≡ g k) →
    map f (range_with_len 1 n) ≡ map g (range_with_len 1 n)
same_on_range f g n same =
    ext_get_or (f 0) (map f (range_with_len 1 n)) (map g (range_with_len 1 n)) (length-map-range_with_len f 1 n ∙ sym (length-map-range_with_len g 1 n)) (λ i within.
    let count = length-map-range_with_len f 1 n in
    let low : i < n = omega (arith, within, count) in
    get_or-map-range_with_len f 1 n i (i + 1) (f 0) low (omega arith) ∙ same (i + 1) (omega arith, omega (arith, low))
    ∙ sym (get_or-map-range_with_len g 1 n i (i + 1) (f 0) low (omega arith)))
