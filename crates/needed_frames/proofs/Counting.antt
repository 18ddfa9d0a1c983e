-- The depths of all channels, counted tick by tick.
use Rattle.std.proofs.Common.{◌≡◌, ◌≢◌, ℕ, zero, suc, ◌+◌, ◌-◌, ◌++◌, max, Bool, true, false, cond, List, [], ◌∷◌, All, get_or, length, replicate, reverse, refl, sym, ap, ◌∙◌, nat_lt, arith}
use Rattle.std.specs.List.{AllByRecursion}
use Rattle.std.proofs.lemmas.List.{reverse-append}
use Rattle.std.proofs.lemmas.List.Elements.{All-head, All-tail, All-get_or}
use Rattle.std.proofs.lemmas.List.FromFn.{get_or-map-range_with_len}
use Rattle.play_types.specs.History.{ticks}
use Rattle.play_types.specs.Scene.{AreScenes, IsConfigured, NamesConfigured, ShowsConfigured, scene_at}
use Rattle.play_types.specs.declared.drawn.Drawn.{Drawn}
use Rattle.play_types.specs.declared.drawn.Still.{Still}
use Rattle.play_types.specs.declared.drawn.Still.TheVariants.{Nothing, Colour, Frame, Channel}
use Rattle.play_types.specs.declared.event.Event.{Event}
use Rattle.play_types.specs.declared.event.Event.TheVariants.{Do, Batch, Tick, Stop}
use Rattle.play_types.proofs.Histories.{ticks-append}
use Rattle.history_model.specs.pictures.Scene.{scene}
use Rattle.band_render.specs.Histories.{scenes_after}
use Rattle.needed_frames.specs.Counted.{DepthsView, HasDepths, depth_at}
use Rattle.needed_frames.specs.Depth.{channel_of, depth, depth_back, depth_behind, last_depth, layer_channels, shown_channels}
use Rattle.needed_frames.proofs.Same.{all_both}

-- before the first tick all depths are 0
zeros : (n k : ℕ) → ◌≡◌ {A = ℕ} (get_or (replicate n 0) k 0) 0
zeros zero k = refl
zeros (suc n) zero = refl
zeros (suc n) (suc k) = zeros n k

pub none_deep : (channels : ℕ) → HasDepths channels [] (record { ticks = 0; depths = replicate 16 0 })
unfolding last_depth
none_deep channels = record {
  ticks = refl;
  each = λ channel configured. zeros 16 (channel - 1);
}

-- the channels that layers show are among those that they name
still_shows : (n : ℕ) (still : Still) → ShowsConfigured n still → AllByRecursion (IsConfigured n) (channel_of still)
still_shows n Nothing named = tt
still_shows n (Colour value) named = tt
still_shows n (Frame id frame) named = tt
still_shows n (Channel channel) named = (named, tt)

layer_shows : (n : ℕ) (layer : Drawn) → NamesConfigured n layer → AllByRecursion (IsConfigured n) (layer_channels layer)
layer_shows n layer named = by_test (nat_lt layer.step layer.trans.duration)
  where
    by_test : (b : Bool) → AllByRecursion (IsConfigured n) (cond b (channel_of layer.old ++ channel_of layer.still) (channel_of layer.still))
    by_test true =
        all_both (IsConfigured n) (channel_of layer.old) (channel_of layer.still) (still_shows n layer.old named.1) (still_shows n layer.still named.0)
    by_test false = still_shows n layer.still named.0

shows_named : (n : ℕ) (layers : List Drawn) → All (NamesConfigured n) layers → AllByRecursion (IsConfigured n) (shown_channels layers)
shows_named n [] named = tt
shows_named n (layer ∷ layers) named =
    all_both (IsConfigured n) (layer_channels layer) (shown_channels layers)
    (layer_shows n layer (All-head (NamesConfigured n) layer layers named))
    (shows_named n layers (All-tail (NamesConfigured n) layer layers named))

-- the depth behind channels whose depths are equal by both functions is equal by both
same_behind : (P : ℕ → Type 0) (one other : ℕ → ℕ) → ((channel : ℕ) → P channel → one channel ≡ other channel) → (channels : List ℕ)
    → AllByRecursion P channels → depth_behind one channels ≡ depth_behind other channels
same_behind P one other same [] all = refl
same_behind P one other same (channel ∷ channels) all =
    λ i. max (same channel all.0 i + 1) (same_behind P one other same channels all.1 i)

-- the depth of a channel at the tick after a history, by its scene
last_depth-tick : (history : List Event) (channel : ℕ)
    → last_depth (history ++ Tick ∷ []) channel ≡ depth_behind (last_depth history) (shown_channels (scene history channel))
unfolding last_depth scene
last_depth-tick history channel = ap (λ back. depth_back back channel) (reverse-append history (Tick ∷ []))

-- a tick is counted
module _ (old : DepthsView) (scenes : List (List Drawn)) (are : AreScenes scenes) where
  abbrev pub IsCounted : List ℕ → ℕ → Type 0
  IsCounted depths channel =
      get_or depths (channel - 1) 0 ≡ depth_behind (λ one. depth_at one old) (shown_channels (scene_at channel scenes))

  named_there : (channel : ℕ) → IsConfigured (length scenes) channel → All (NamesConfigured (length scenes)) (scene_at channel scenes)
  named_there channel h =
      All-get_or (All (NamesConfigured (length scenes))) scenes (channel - 1) [] (omega (arith, h.0, h.1)) are.names

  pub all_counted : (history : List Event) (t : ℕ) (depths : List ℕ) → t ≡ old.ticks + 1 → HasDepths (length scenes) history old → scenes ≡ scenes_after history (length scenes)
      → ((channel : ℕ) → IsConfigured (length scenes) channel → IsCounted depths channel)
      → HasDepths (length scenes) (history ++ Tick ∷ []) (record { ticks = t; depths = depths })
  all_counted history t depths next has is counted = record {
    ticks = omega (arith, next, has.ticks, ticks-append history (Tick ∷ []));
    each = λ channel h.
        let shown : scene_at channel scenes ≡ scene history channel =
        ap (λ (list : List (List Drawn)). scene_at channel list) is
        ∙ get_or-map-range_with_len (scene history) 1 (length scenes) (channel - 1) channel [] (omega (arith, h.0, h.1)) (omega (arith, h.0)) in
        counted channel h
        ∙ same_behind (IsConfigured (length scenes)) (λ one. depth_at one old) (last_depth history) has.each (shown_channels (scene_at channel scenes))
        (shows_named (length scenes) (scene_at channel scenes) (named_there channel h))
        ∙ ap (λ (layers : List Drawn). depth_behind (last_depth history) (shown_channels layers)) shown
        ∙ sym (last_depth-tick history channel);
  }

-- an event that is no tick does not change the depths
depth-stays : (event : Event) (back : List Event) (channel : ℕ) → event ≢ Tick → depth_back (event ∷ back) channel ≡ depth_back back channel
depth-stays (Do tag cmd) back channel other = refl
depth-stays (Batch tag cmds) back channel other = refl
depth-stays Tick back channel other = absurd (other refl)
depth-stays (Stop tag) back channel other = refl

no_tick : (event : Event) → event ≢ Tick → ticks (event ∷ []) ≡ 0
no_tick (Do tag cmd) other = refl
no_tick (Batch tag cmds) other = refl
no_tick Tick other = absurd (other refl)
no_tick (Stop tag) other = refl

last_depth-other : (history : List Event) (event : Event) (channel : ℕ) → event ≢ Tick → last_depth (history ++ event ∷ []) channel ≡ last_depth history channel
unfolding last_depth
last_depth-other history event channel other =
    ap (λ back. depth_back back channel) (reverse-append history (event ∷ [])) ∙ depth-stays event (reverse history) channel other

pub depths-other : (channels : ℕ) (history : List Event) (event : Event) (depths : DepthsView) → event ≢ Tick
    → HasDepths channels history depths → HasDepths channels (history ++ event ∷ []) depths
depths-other channels history event depths other has = record {
  ticks = omega (arith, has.ticks, ticks-append history (event ∷ []), no_tick event other);
  each = λ channel h. has.each channel h ∙ sym (last_depth-other history event channel other);
}

-- the last depth after a tick is that of the tick
pub depth-last : (history : List Event) (channel : ℕ) → last_depth (history ++ Tick ∷ []) channel ≡ depth history channel
unfolding last_depth depth
depth-last history channel = ap (λ back. depth_back back channel) (reverse-append history (Tick ∷ []))
