-- What a tick adds to the scenes and to the routes, place by place.
use Rattle.std.proofs.Common.{◌≡◌, ℕ, zero, suc, ◌+◌, ◌-◌, ◌<◌, ◌≤◌, eqb, inl, inr, List, [], ◌∷◌, ◌++◌, length, get_or, set, take, filter_map, refl, sym, ap, ◌∙◌, subst, arith, append-nil, eq-eqb, ne_eqb, get_or-set_same, length-set, set-set}
use Rattle.std.proofs.lemmas.Bool.{cases_Bool, cases_eq, cond-true, cond-false}
use Rattle.std.proofs.lemmas.Bool.Decides.{nat_tests}
use Rattle.std.proofs.lemmas.List.{length-take-le, take_more}
use Rattle.std.proofs.lemmas.List.Elements.{filter_map-append}
use Rattle.std.specs.Prelude.{Option, Some, None, option_map}
use Rattle.std.specs.List.{cons_option}
use Rattle.play_types.specs.Place.{PlaceView}
use Rattle.play_types.specs.Scene.{IsConfigured, scene_at}
use Rattle.play_types.specs.declared.place.TheConstants.{MAX_LAYER, MAX_LIVE_LAYERS}
use Rattle.play_types.specs.declared.drawn.Drawn.{Drawn}
use Rattle.history_model.specs.stage.Life.{Foreground, Life, ready}
use Rattle.history_model.specs.stage.Places.{AreAbove, ArePlaces, Places, standing}
use Rattle.history_model.proofs.places.Lists.{standing-below}
use Rattle.layer_state.specs.Shown.{shown_of}
use Rattle.route_graph.specs.Past.{foreground_picture}
use Rattle.route_graph.specs.Routes.{HasFewPlaces, RoutesView, after_show, last_tick}
use Rattle.route_graph.specs.Shown.{Picture, ShownLayers, layers_of, shown_on, with_picture, with_shown}
use Rattle.route_graph.proofs.ShownLayers.{added-new}
use Rattle.stage_core.specs.inner.Drawn.{HasRoomFor, next_of, shown_layer, with_drawn, with_picture_of, with_shown_layers}
use Rattle.stage_core.specs.inner.Found.{AreLayers}
use Rattle.stage_core.specs.inner.Target.{with_layers}
use Rattle.stage_core.proofs.Drawing.{with_layers-more}

-- what is made of one place more
module _ {Y : Type 0} (h : ℕ × Life → Option Y) where
  pub one_more : (xs : Places) (i : ℕ) (x : ℕ × Life) → i < length xs → get_or xs i x ≡ x →
      filter_map h (take (i + 1) xs) ≡ filter_map h (take i xs) ++ cons_option (h x) []
  one_more xs i x within read =
      ap (filter_map h) (take_more xs i x within) ∙ filter_map-append h (take i xs) (get_or xs i x ∷ [])
      ∙ ap (λ (y : ℕ × Life). filter_map h (take i xs) ++ filter_map h (y ∷ [])) read

  one_or_none : (found : Option Y) (rest : List Y) (n : ℕ) → length rest ≤ n → length (cons_option found rest) ≤ suc n
  one_or_none None rest n few = omega (arith, few)
  one_or_none (Some y) rest n few = omega (arith, few)

  no_more : (xs : Places) → length (filter_map h xs) ≤ length xs
  no_more [] = omega arith
  no_more (x ∷ xs) = one_or_none (h x) (filter_map h xs) (length xs) (no_more xs)

  pub few_made : (xs : Places) (n : ℕ) → n ≤ length xs → length (filter_map h (take n xs)) ≤ n
  few_made xs n within =
      let count : length (take n xs) ≡ n = length-take-le n xs within in
      let few = no_more (take n xs) in omega (arith, few, count)

-- one layer more in the scene of a channel, if there is one
pub with_drawn-more : (channel : ℕ) (found : Option Drawn) (layers : List Drawn) (scenes : List (List Drawn)) → channel - 1 < length scenes →
    with_drawn channel found (with_layers channel layers scenes) ≡ with_layers channel (layers ++ cons_option found []) scenes
with_drawn-more channel None layers scenes within = ap (λ (all : List Drawn). with_layers channel all scenes) (sym (append-nil layers))
with_drawn-more channel (Some drawn) layers scenes within = with_layers-more channel layers drawn scenes within

-- one layer more that routes show, if it shows something
pub with_picture-more : (place : PlaceView) (now : Option Picture) (layers : ShownLayers) (routes : RoutesView) →
    place.channel - 1 < length (last_tick routes) → shown_on layers place.layer ≡ None →
    with_picture_of place now (with_shown_layers place.channel layers routes)
    ≡ with_shown_layers place.channel (layers ++ cons_option (option_map (λ (picture : Picture). (place.layer, picture)) now) []) routes
with_picture-more place None layers routes within new = ap (λ (all : ShownLayers). with_shown_layers place.channel all routes) (sym (append-nil layers))
with_picture-more place (Some picture) layers routes within new =
    let at : ℕ = place.channel - 1 in
    let tick : List ShownLayers = last_tick routes in
    let done : set (set tick at layers) at (with_shown place.layer picture (get_or (set tick at layers) at []))
    ≡ set tick at (layers ++ (place.layer, picture) ∷ []) =
    ap (λ (mine : ShownLayers). set (set tick at layers) at (with_shown place.layer picture mine)) (get_or-set_same tick at layers [] within)
    ∙ set-set tick at layers (with_shown place.layer picture layers)
    ∙ ap (set tick at) (added-new place.layer picture layers new) in
    λ i. record { channels = routes.channels; past = routes.past; present = Some (done i) }

-- what routes show of a place among live places
picture_behind : (n layer : ℕ) (found : Option Picture) (rest : ShownLayers) → (n ≡ layer → ⊥) →
    shown_on (cons_option (option_map (λ (picture : Picture). (n, picture)) found) rest) layer ≡ shown_on rest layer
picture_behind n layer None rest apart = refl
picture_behind n layer (Some picture) rest apart = grind (arith, nat_tests)

picture_first : (n layer : ℕ) (found : Option Picture) (rest : ShownLayers) → n ≡ layer → shown_on rest layer ≡ None →
    shown_on (cons_option (option_map (λ (picture : Picture). (n, picture)) found) rest) layer ≡ found
picture_first n layer None rest e none = none
picture_first n layer (Some picture) rest e none = grind (arith, nat_tests)

now_of : (found : Option Foreground) → (shown_of found).now ≡ option_map foreground_picture found
now_of None = refl
now_of (Some f) = refl

pub shown_on-places : (ps : Places) (layer : ℕ) → ArePlaces ps →
    shown_on (filter_map shown_layer ps) layer ≡ option_map foreground_picture (ready (standing ps layer)).foreground
shown_on-places [] layer p = refl
shown_on-places (x ∷ more) layer p = elim (cases_eq x.0 layer) [
  | inl e ↦
      let rest : shown_on (filter_map shown_layer more) layer ≡ None =
      shown_on-places more layer p.2
      ∙ ap (λ (s : Life). option_map foreground_picture (ready s).foreground) (standing-below more x.0 layer p.1 (omega arith)) in
      picture_first x.0 layer (next_of x).now (filter_map shown_layer more) e rest ∙ now_of (ready x.1).foreground
      ∙ ap (λ (s : Life). option_map foreground_picture (ready s).foreground) (sym (cond-true (eqb x.0 layer) x.1 (standing more layer) (eq-eqb x.0 layer e)))
  | inr apart ↦
      picture_behind x.0 layer (next_of x).now (filter_map shown_layer more) apart ∙ shown_on-places more layer p.2
      ∙ ap (λ (s : Life). option_map foreground_picture (ready s).foreground) (sym (cond-false (eqb x.0 layer) x.1 (standing more layer) (ne_eqb x.0 layer apart)))
]

-- a layer does not show among those below it
above_at : (n : ℕ) (ps : Places) (i : ℕ) (x : ℕ × Life) → AreAbove n ps → i < length ps → get_or ps i x ≡ x → n < x.0
above_at n [] i x above within read = absurd (omega arith)
above_at n (y ∷ ps) zero x above within read = subst (λ (z : ℕ × Life). n < z.0) read above.0
above_at n (y ∷ ps) (suc i) x above within read = above_at n ps i x above.1 (omega arith) read

pub not_yet_shown : (xs : Places) (i : ℕ) (x : ℕ × Life) → ArePlaces xs → i < length xs → get_or xs i x ≡ x →
    shown_on (filter_map shown_layer (take i xs)) x.0 ≡ None
not_yet_shown [] i x p within read = absurd (omega arith)
not_yet_shown (y ∷ xs) zero x p within read = refl
not_yet_shown (y ∷ xs) (suc i) x p within read =
    let higher : y.0 < x.0 = above_at y.0 xs i x p.1 (omega arith) read in
    picture_behind y.0 x.0 (next_of y).now (filter_map shown_layer (take i xs)) (λ e. omega arith)
    ∙ not_yet_shown xs i x p.2 (omega arith) read

-- the layer of a place is one that a channel has
pub layer_at : (xs : Places) (i : ℕ) (x : ℕ × Life) → AreLayers xs → i < length xs → get_or xs i x ≡ x → x.0 ≤ MAX_LAYER
layer_at [] i x low within read = absurd (omega arith)
layer_at (y ∷ xs) zero x low within read = subst (λ (z : ℕ × Life). z.0 ≤ MAX_LAYER) read low.0
layer_at (y ∷ xs) (suc i) x low within read = layer_at xs i x low.1 (omega arith) read

-- one picture more is one layer more at most
length-with_shown : (layer : ℕ) (picture : Picture) (layers : ShownLayers) → length (with_shown layer picture layers) ≤ length layers + 1
length-with_shown layer picture [] = omega arith
length-with_shown layer picture (shown ∷ more) =
    let rest : ShownLayers = with_shown layer picture more in
    let fewer : length rest ≤ length more + 1 = length-with_shown layer picture more in
    elim (cases_Bool (eqb shown.0 layer)) [
      | inl e ↦
          let same : length (with_shown layer picture (shown ∷ more)) ≡ suc (length more) =
          ap length (cond-true (eqb shown.0 layer) ((layer, picture) ∷ more) (shown ∷ rest) e) in omega (arith, same)
      | inr e ↦
          let same : length (with_shown layer picture (shown ∷ more)) ≡ suc (length rest) =
          ap length (cond-false (eqb shown.0 layer) ((layer, picture) ∷ more) (shown ∷ rest) e) in omega (arith, same, fewer)
    ]

pub few_after : (place : PlaceView) (picture : Picture) (routes : RoutesView) → HasRoomFor place routes →
    HasFewPlaces place.channel (after_show place picture routes)
few_after place picture routes room =
    let layers : ShownLayers = layers_of place.channel (last_tick routes) in
    let mine : length (layers_of place.channel (with_picture place picture (last_tick routes))) ≡ length (with_shown place.layer picture layers) =
    ap length (get_or-set_same (last_tick routes) (place.channel - 1) (with_shown place.layer picture layers) [] (omega (arith, room.channel.0, room.channel.1))) in
    let more : length (with_shown place.layer picture layers) ≤ length layers + 1 = length-with_shown place.layer picture layers in
    let few : length (layers_of place.channel (with_picture place picture (last_tick routes))) ≤ MAX_LIVE_LAYERS = omega (arith, mine, more, room.few) in
    few

-- what was added so far leaves room
pub scene_so_far : (channel : ℕ) (layers : List Drawn) (scenes : List (List Drawn)) → channel - 1 < length scenes → scene_at channel scenes ≡ [] →
    scene_at channel (with_layers channel layers scenes) ≡ layers
scene_so_far channel layers scenes within empty =
    get_or-set_same scenes (channel - 1) (scene_at channel scenes ++ layers) [] within ∙ ap (λ (mine : List Drawn). mine ++ layers) empty

pub room_so_far : (channel layer : ℕ) (layers : ShownLayers) (routes : RoutesView) → IsConfigured (length (last_tick routes)) channel →
    length layers < MAX_LIVE_LAYERS → HasRoomFor (record { channel = channel; layer = layer }) (with_shown_layers channel layers routes)
room_so_far channel layer layers routes c few = record {
  channel = (c.0, let same : length (set (last_tick routes) (channel - 1) layers) ≡ length (last_tick routes) = length-set (last_tick routes) (channel - 1) layers in omega (arith, c.1, same));
  few =
      let same : length (get_or (set (last_tick routes) (channel - 1) layers) (channel - 1) []) ≡ length layers =
      ap length (get_or-set_same (last_tick routes) (channel - 1) layers [] (omega (arith, c.0, c.1))) in omega (arith, few, same);
}
