use Rattle.std.proofs.Common.{◌≡◌, ℕ, ◌-◌, ◌<◌, ◌≤◌, ◌∙◌, ◌++◌, List, get_or, length, length-set, sym, ap, ap₂, subst, subst₂, arith, filter_map, take}
use Rattle.std.specs.Prelude.{Option, IfSome}
use Rattle.play_types.specs.Place.{PlaceView}
use Rattle.play_types.specs.Scene.{scene_at}
use Rattle.play_types.specs.declared.drawn.Drawn.{Drawn}
use Rattle.history_model.specs.stage.Life.{Life, after}
use Rattle.history_model.specs.stage.Places.{Places, one_tick_later}
use Rattle.layer_state.specs.declared.shown.Shown.{Shown}
use Rattle.route_graph.specs.Routes.{RoutesView}
use Rattle.route_graph.specs.Shown.{ShownLayers}
use Rattle.stage_core.specs.inner.Drawn.{HasRoomFor, IsShown, drawn_next, drawn_shown, mixed_values, next_of, shown_layer, tick_past, with_drawn, with_picture_of, with_shown_layers}
use Rattle.stage_core.specs.inner.Target.{with_layers}
use Rattle.stage_core.proofs.Drawing.{places-more, read_again, read_here}
use Rattle.stage_core.proofs.Routing.{few_made, layer_at, not_yet_shown, one_more, room_so_far, scene_so_far, with_drawn-more, with_picture-more}
use Rattle.stage_core.proofs.places.tick_places.Goals as goal

pub unwrap-place-requires : goal.unwrap-place-requires
unwrap-place-requires c =
    let xs : Places = c.args.places.now in
    let ys : Places = c.loop-at.places in
    let at : ℕ = c.loop-at.at in
    let x : ℕ × Life = get_or ys at c.index-places-at.result in
    let within : at < length xs = omega arith in
    let kept : length ys ≡ length xs = omega arith in
    let here : get_or xs at x ≡ x = read_here one_tick_later xs ys at within kept c.loop-at.invariant.places c.index-places-at.result in
    c.new.ensures.exact.1 (record {
      from_one = c.requires.channel.0;
      channels = c.requires.few_channels;
      layers = layer_at xs at x c.requires.layers within here;
    })

pub draw-requires-clause-shown : goal.draw-requires-clause-shown
draw-requires-clause-shown c =
    let xs : Places = c.args.places.now in
    let ys : Places = c.loop-at.places in
    let at : ℕ = c.loop-at.at in
    let x : ℕ × Life = get_or ys at c.index-places-at.result in
    let within : at < length xs = omega arith in
    let kept : length ys ≡ length xs = omega arith in
    let here : get_or xs at x ≡ x = read_here one_tick_later xs ys at within kept c.loop-at.invariant.places c.index-places-at.result in
    let twice : get_or ys at c.index-places-at-in-loop-at.result ≡ x =
    read_again one_tick_later xs ys at within kept c.loop-at.invariant.places c.index-places-at.result c.index-places-at-in-loop-at.result in
    let scenes : List (List Drawn) = c.args.scenes.now in
    let channel : ℕ = c.args.channel in
    let drawn : List Drawn = filter_map (drawn_next (mixed_values c.args.mixer.now c.args.number) (tick_past c.args.routes.now) channel) (take at xs) in
    let count : length c.loop-at.scenes ≡ length scenes =
    ap (λ (all : List (List Drawn)). length all) c.loop-at.invariant.scenes ∙ length-set scenes (channel - 1) (scene_at channel scenes ++ drawn) in
    let own : IsShown (length scenes) (next_of (get_or xs at x)) = c.requires.places.routes at x within in
    subst₂ IsShown (sym count) (ap next_of (here ∙ sym twice) ∙ sym c.tick-shown.ensures.shown) own

pub draw-requires-clause-room : goal.draw-requires-clause-room
draw-requires-clause-room c =
    let xs : Places = c.args.places.now in
    let ys : Places = c.loop-at.places in
    let at : ℕ = c.loop-at.at in
    let x : ℕ × Life = get_or ys at c.index-places-at.result in
    let within : at < length xs = omega arith in
    let place : PlaceView = record { channel = c.args.channel; layer = x.0 } in
    let place_is : c.unwrap-place.result ≡ place =
    subst (λ (found : Option PlaceView). IfSome found (λ p. p ≡ place)) c.unwrap-place.ensures c.new.ensures.value in
    let drawn : List Drawn = filter_map (drawn_next (mixed_values c.args.mixer.now c.args.number) (tick_past c.args.routes.now) c.args.channel) (take at xs) in
    let so_far : scene_at c.unwrap-place.result.channel c.loop-at.scenes ≡ drawn =
    ap₂ (λ (p : PlaceView) (all : List (List Drawn)). scene_at p.channel all) place_is c.loop-at.invariant.scenes
    ∙ scene_so_far c.args.channel drawn c.args.scenes.now (omega (arith, c.requires.channel.0, c.requires.channel.1)) c.requires.empty in
    let count : length (scene_at c.unwrap-place.result.channel c.loop-at.scenes) ≡ length drawn = ap (λ (one : List Drawn). length one) so_far in
    let few : length drawn ≤ at = few_made (drawn_next (mixed_values c.args.mixer.now c.args.number) (tick_past c.args.routes.now) c.args.channel) xs at (omega (arith, within)) in
    omega (arith, count, few, within, c.requires.places.few)

pub note-requires-clause-few : goal.note-requires-clause-few
note-requires-clause-few c =
    let xs : Places = c.args.places.now in
    let ys : Places = c.loop-at.places in
    let at : ℕ = c.loop-at.at in
    let x : ℕ × Life = get_or ys at c.index-places-at.result in
    let within : at < length xs = omega arith in
    let place : PlaceView = record { channel = c.args.channel; layer = x.0 } in
    let place_is : c.unwrap-place.result ≡ place =
    subst (λ (found : Option PlaceView). IfSome found (λ p. p ≡ place)) c.unwrap-place.ensures c.new.ensures.value in
    let few : length (filter_map shown_layer (take at xs)) ≤ at = few_made shown_layer xs at (omega (arith, within)) in
    subst₂ HasRoomFor (sym place_is) (sym c.loop-at.invariant.routes)
    (room_so_far c.args.channel x.0 (filter_map shown_layer (take at xs)) c.args.routes.now c.requires.tick (omega (arith, few, within, c.requires.places.few)))

pub loop-at-preserved : goal.loop-at-preserved
loop-at-preserved c =
    let xs : Places = c.args.places.now in
    let ys : Places = c.loop-at.places in
    let at : ℕ = c.loop-at.at in
    let x : ℕ × Life = get_or ys at c.index-places-at.result in
    let within : at < length xs = omega arith in
    let kept : length ys ≡ length xs = omega arith in
    let here : get_or xs at x ≡ x = read_here one_tick_later xs ys at within kept c.loop-at.invariant.places c.index-places-at.result in
    let twice : get_or ys at c.index-places-at-in-loop-at.result ≡ x =
    read_again one_tick_later xs ys at within kept c.loop-at.invariant.places c.index-places-at.result c.index-places-at-in-loop-at.result in
    let channel : ℕ = c.args.channel in
    let scenes : List (List Drawn) = c.args.scenes.now in
    let routes : RoutesView = c.args.routes.now in
    let place : PlaceView = record { channel = channel; layer = x.0 } in
    let place_is : c.unwrap-place.result ≡ place =
    subst (λ (found : Option PlaceView). IfSome found (λ p. p ≡ place)) c.unwrap-place.ensures c.new.ensures.value in
    let shown : c.tick-shown.result ≡ next_of x = c.tick-shown.ensures.shown ∙ ap next_of twice in
    let draw : ℕ × Life → Option Drawn = drawn_next (mixed_values c.args.mixer.now c.args.number) (tick_past routes) channel in
    let shows : drawn_shown (mixed_values c.args.mixer.now c.args.number place) (tick_past c.loop-at.routes) c.tick-shown.result ≡ draw x =
    ap₂ (λ (r : RoutesView) (s : Shown). drawn_shown (mixed_values c.args.mixer.now c.args.number place) (tick_past r) s) c.loop-at.invariant.routes shown in
    record {
      places = places-more xs ys at x c.tick-shown.new.self within c.loop-at.invariant.places
          (read_again one_tick_later xs ys at within kept c.loop-at.invariant.places x c.index-places-at.result)
          (c.tick-shown.ensures.after ∙ ap (λ (p : ℕ × Life). after p.1 1) twice);
      scenes =
          c.draw.ensures
          ∙ ap (λ (p : PlaceView). with_drawn p.channel (drawn_shown (mixed_values c.args.mixer.now c.args.number p) (tick_past c.loop-at.routes) c.tick-shown.result) c.loop-at.scenes) place_is
          ∙ ap (λ (found : Option Drawn). with_drawn channel found c.loop-at.scenes) shows
          ∙ ap (with_drawn channel (draw x)) c.loop-at.invariant.scenes
          ∙ with_drawn-more channel (draw x) (filter_map draw (take at xs)) scenes (omega (arith, c.requires.channel.0, c.requires.channel.1))
          ∙ ap (λ (layers : List Drawn). with_layers channel layers scenes) (sym (one_more draw xs at x within here));
      routes =
          c.note.ensures
          ∙ ap₂ (λ (p : PlaceView) (s : Shown). with_picture_of p s.now c.loop-at.routes) place_is shown
          ∙ ap (with_picture_of place (next_of x).now) c.loop-at.invariant.routes
          ∙ with_picture-more place (next_of x).now (filter_map shown_layer (take at xs)) routes (omega (arith, c.requires.tick.0, c.requires.tick.1))
          (not_yet_shown xs at x c.requires.rising within here)
          ∙ ap (λ (layers : ShownLayers). with_shown_layers channel layers routes) (sym (one_more shown_layer xs at x within here));
    }
