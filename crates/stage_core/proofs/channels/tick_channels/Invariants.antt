use Rattle.std.proofs.Common.{◌≡◌, ◌++◌, length, map, take, drop, filter_map}
use Rattle.history_model.specs.stage.Places.{Places, one_tick_later}
use Rattle.stage_core.specs.inner.Drawn.{mixed_values, scene_next, shown_layer, tick_past, with_present}
use Rattle.std.specs.List.{range_with_len}
use Rattle.stage_core.proofs.Drawing.{blank}
use Rattle.stage_core.proofs.channels.tick_channels.Given as goal

-- the channels below the index are one tick later and have their scenes and routes, and the others show nothing yet
abbrev pub invariant-loop-at : goal.invariant-loop-at
invariant-loop-at l = record {
  channels : l.channels ≡ map (λ (places : Places). map one_tick_later places) (take l.at l.fn.channels) ++ drop l.at l.fn.channels;
  scenes : l.scenes ≡ map (scene_next (mixed_values l.mixer l.number) (tick_past l.fn.routes) l.fn.channels) (range_with_len 1 l.at) ++ drop l.at (blank (length l.fn.channels));
  routes : l.routes ≡ with_present (map (filter_map shown_layer) (take l.at l.fn.channels) ++ drop l.at (blank (length l.fn.channels))) l.fn.routes;
}
