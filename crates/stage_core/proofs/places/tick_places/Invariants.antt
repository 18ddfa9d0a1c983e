use Rattle.std.proofs.Common.{◌≡◌, ◌++◌, filter_map, map, take, drop}
use Rattle.history_model.specs.stage.Places.{one_tick_later}
use Rattle.stage_core.specs.inner.Drawn.{drawn_next, mixed_values, shown_layer, tick_past, with_shown_layers}
use Rattle.stage_core.specs.inner.Target.{with_layers}
use Rattle.stage_core.proofs.places.tick_places.Given as goal

-- the places below the index are one tick later, and what they show is in the scene and in the routes
abbrev pub invariant-loop-at : goal.invariant-loop-at
invariant-loop-at l = record {
  places : l.places ≡ map one_tick_later (take l.at l.fn.places) ++ drop l.at l.fn.places;
  scenes : l.scenes ≡ with_layers l.channel (filter_map (drawn_next (mixed_values l.mixer l.number) (tick_past l.fn.routes) l.channel) (take l.at l.fn.places)) l.fn.scenes;
  routes : l.routes ≡ with_shown_layers l.channel (filter_map shown_layer (take l.at l.fn.places)) l.fn.routes;
}
