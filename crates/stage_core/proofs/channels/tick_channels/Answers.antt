use Rattle.std.proofs.Common.{◌≡◌, ℕ, ◌+◌, ◌-◌, ◌<◌, ◌∙◌, ◌++◌, ◌∷◌, [], List, get_or, length, map, set, sym, ap, ap₂, subst₂, arith, filter_map, take, drop}
use Rattle.std.proofs.lemmas.List.{get_or_default, length-map, length-replicate, length-take-le, take_more, map-append, set-get_or}
use Rattle.std.proofs.lemmas.List.Edits.{map_over_more}
use Rattle.std.proofs.lemmas.List.FromFn.{length-map-range_with_len, map-range_with_len_more}
use Rattle.std.specs.List.{range_with_len}
use Rattle.play_types.specs.declared.drawn.Drawn.{Drawn}
use Rattle.history_model.specs.stage.Places.{Places, one_tick_later}
use Rattle.route_graph.specs.Routes.{RoutesView}
use Rattle.route_graph.specs.Shown.{ShownLayers}
use Rattle.stage_core.specs.inner.Drawn.{drawn_next, mixed_values, scene_next, shown_layer, tick_past, with_present, with_shown_layers}
use Rattle.stage_core.specs.inner.Shown.{CanShow}
use Rattle.stage_core.specs.inner.Target.{with_layers}
use Rattle.stage_core.proofs.Drawing.{blank, element_left, left_blank, length-between, scenes-more, set_next}
use Rattle.stage_core.proofs.channels.tick_channels.Goals as goal

pub tick-requires-clause-places : goal.tick-requires-clause-places
tick-requires-clause-places c =
    let later : Places → Places = λ places. map one_tick_later places in
    let xs : List Places = c.args.channels.now in
    let ys : List Places = c.loop-at.channels in
    let at : ℕ = c.loop-at.at in
    let d : Places = c.index-channels-from.result in
    let same : c.from.result ≡ at = c.from.ensures in
    let count : c.channels-at-end.result ≡ length xs = c.channels-at-end.ensures.value ∙ ap (λ (scenes : List (List Drawn)). length scenes) c.requires.scenes ∙ length-replicate (length xs) [] in
    let within : at < length xs = omega (arith, count, c.loop-at-test.true) in
    let show : ℕ → List Drawn = scene_next (mixed_values c.args.mixer.now c.args.number) (tick_past c.args.routes.now) xs in
    let scenes : length c.loop-at.scenes ≡ length xs =
    ap (λ (all : List (List Drawn)). length all) c.loop-at.invariant.scenes
    ∙ length-between (map show (range_with_len 1 at)) (length xs) at (length-map-range_with_len show 1 at) (omega (arith, within)) in
    subst₂ CanShow (sym scenes)
    (sym (ap (λ (n : ℕ). get_or ys n d) same ∙ element_left later xs ys at d within c.loop-at.invariant.channels))
    (c.requires.shown at d within)

pub tick-requires-clause-channel : goal.tick-requires-clause-channel
tick-requires-clause-channel c =
    let xs : List Places = c.args.channels.now in
    let at : ℕ = c.loop-at.at in
    let count : c.channels-at-end.result ≡ length xs = c.channels-at-end.ensures.value ∙ ap (λ (scenes : List (List Drawn)). length scenes) c.requires.scenes ∙ length-replicate (length xs) [] in
    let within : at < length xs = omega (arith, count, c.loop-at-test.true) in
    let show : ℕ → List Drawn = scene_next (mixed_values c.args.mixer.now c.args.number) (tick_past c.args.routes.now) xs in
    let scenes : length c.loop-at.scenes ≡ length xs =
    ap (λ (all : List (List Drawn)). length all) c.loop-at.invariant.scenes
    ∙ length-between (map show (range_with_len 1 at)) (length xs) at (length-map-range_with_len show 1 at) (omega (arith, within)) in
    (omega arith, omega (arith, within, scenes))

pub tick-requires-clause-empty : goal.tick-requires-clause-empty
tick-requires-clause-empty c =
    let xs : List Places = c.args.channels.now in
    let at : ℕ = c.loop-at.at in
    let show : ℕ → List Drawn = scene_next (mixed_values c.args.mixer.now c.args.number) (tick_past c.args.routes.now) xs in
    ap (λ (all : List (List Drawn)). get_or all ((at + 1) - 1) []) c.loop-at.invariant.scenes
    ∙ left_blank (map show (range_with_len 1 at)) (length xs) at (length-map-range_with_len show 1 at)

pub tick-requires-clause-blank : goal.tick-requires-clause-blank
tick-requires-clause-blank c =
    let xs : List Places = c.args.channels.now in
    let at : ℕ = c.loop-at.at in
    let count : c.channels-at-end.result ≡ length xs = c.channels-at-end.ensures.value ∙ ap (λ (scenes : List (List Drawn)). length scenes) c.requires.scenes ∙ length-replicate (length xs) [] in
    let within : at < length xs = omega (arith, count, c.loop-at-test.true) in
    let done : List ShownLayers = map (filter_map shown_layer) (take at xs) in
    let done_at : length done ≡ at = length-map (take at xs) (filter_map shown_layer) ∙ length-take-le at xs (omega (arith, within)) in
    let tick : List ShownLayers = done ++ drop at (blank (length xs)) in
    let same : set tick ((at + 1) - 1) [] ≡ tick =
    ap (λ (layers : ShownLayers). set tick ((at + 1) - 1) layers) (sym (left_blank done (length xs) at done_at))
    ∙ set-get_or tick ((at + 1) - 1) [] in
    ap (with_shown_layers (at + 1) []) c.loop-at.invariant.routes
    ∙ ap (λ (all : List ShownLayers). with_present all c.args.routes.now) same
    ∙ sym c.loop-at.invariant.routes

pub loop-at-preserved : goal.loop-at-preserved
loop-at-preserved c =
    let later : Places → Places = λ places. map one_tick_later places in
    let xs : List Places = c.args.channels.now in
    let ys : List Places = c.loop-at.channels in
    let at : ℕ = c.loop-at.at in
    let same : c.from.result ≡ at = c.from.ensures in
    let x : Places = get_or ys at c.index-channels-from.result in
    let count : c.channels-at-end.result ≡ length xs = c.channels-at-end.ensures.value ∙ ap (λ (scenes : List (List Drawn)). length scenes) c.requires.scenes ∙ length-replicate (length xs) [] in
    let within : at < length xs = omega (arith, count, c.loop-at-test.true) in
    let kept : length ys ≡ length xs = c.loop-at.auto.channels in
    let read : x ≡ get_or ys at x = get_or_default ys at c.index-channels-from.result x (omega (arith, within, kept)) in
    let here : get_or xs at x ≡ x = sym (read ∙ element_left later xs ys at x within c.loop-at.invariant.channels) in
    let read_at : get_or ys c.from.result c.index-channels-from.result ≡ x = ap (λ (n : ℕ). get_or ys n c.index-channels-from.result) same in
    let ticked : c.tick.new.self ≡ later x = c.tick.ensures.after ∙ ap later read_at in
    let routes : RoutesView = c.args.routes.now in
    let show : ℕ → List Drawn = scene_next (mixed_values c.args.mixer.now c.args.number) (tick_past routes) xs in
    let drawn : List (List Drawn) = map show (range_with_len 1 at) in
    let first : (at + 1) - 1 ≡ at = omega arith in
    let place_at : x ≡ get_or xs ((at + 1) - 1) [] =
    sym here ∙ get_or_default xs at x [] within ∙ ap (λ (n : ℕ). get_or xs n []) (sym first) in
    let shows : filter_map (drawn_next (mixed_values c.args.mixer.now c.args.number) (tick_past c.loop-at.routes) (at + 1)) (get_or ys c.from.result c.index-channels-from.result) ≡ show (at + 1) =
    ap₂ (λ (r : RoutesView) (one : Places). filter_map (drawn_next (mixed_values c.args.mixer.now c.args.number) (tick_past r) (at + 1)) one) c.loop-at.invariant.routes (read_at ∙ place_at) in
    let done : List ShownLayers = map (filter_map shown_layer) (take at xs) in
    let done_at : length done ≡ at = length-map (take at xs) (filter_map shown_layer) ∙ length-take-le at xs (omega (arith, within)) in
    record {
      channels =
          ap₂ (λ (n : ℕ) (one : Places). set ys n one) same ticked
          ∙ map_over_more later xs ys at x within c.loop-at.invariant.channels read;
      scenes =
          c.tick.ensures.scenes
          ∙ ap₂ (λ (layers : List Drawn) (scenes : List (List Drawn)). with_layers (at + 1) layers scenes) shows c.loop-at.invariant.scenes
          ∙ scenes-more drawn (show (at + 1)) (length xs) at (length-map-range_with_len show 1 at) within
          ∙ ap (λ (more : List (List Drawn)). more ++ drop (at + 1) (blank (length xs))) (sym (map-range_with_len_more show 1 at (at + 1) (omega arith)));
      routes =
          c.tick.ensures.routes
          ∙ ap₂ (λ (one : Places) (r : RoutesView). with_shown_layers (at + 1) (filter_map shown_layer one) r) read_at c.loop-at.invariant.routes
          ∙ ap (λ (tick : List ShownLayers). with_present tick routes)
          (set_next done (filter_map shown_layer x) (length xs) at done_at within
          ∙ ap (λ (more : List ShownLayers). more ++ drop (at + 1) (blank (length xs)))
          (sym (ap (map (filter_map shown_layer)) (take_more xs at x within) ∙ map-append (filter_map shown_layer) (take at xs) (get_or xs at x ∷ [])
          ∙ ap (λ (one : Places). done ++ filter_map shown_layer one ∷ []) here)));
    }
